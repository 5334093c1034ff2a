-- The steps of the loops over the pairs of a level, for decoding.
use Rattle.std.proofs.Common.{◌≡◌, ℕ, zero, suc, ◌+◌, ◌*◌, ◌/◌, ◌%◌, ◌^◌, ◌-◌, ◌<◌, ◌≤◌, List, [], ◌∷◌, ◌++◌, length, take, drop, set, get_or, arith, ap, sym, ◌∙◌, refl, append_assoc}
use Rattle.std.proofs.lemmas.List.{append-nil, drop_more, drop_all, take_all, take_more_set, take-append-drop, drop-set-lt, length-set, length-drop, length-take-le, drop-drop}
use Rattle.std.proofs.lemmas.Nat.{mod_below}
use borrow.Rule.Slice.PartMut.{put_mid}
use lib.Seq.{drop-append_seam}
use Rattle.radix_pack.specs.Radix.{pair_bytes, pair_radix, number, level_count, next_radices, length_in, whole, parted, decode_in, AreRadices, AreBelow}
use Rattle.radix_pack.proofs.Turns.{last_bytes_most}
use Rattle.radix_pack.proofs.RadixLaws.{length-next_radices, AreRadices-next}
use Rattle.radix_pack.proofs.LevelSteps.{drop_two}

-- ---- the bytes of a level

pub level_count_two : (ms : List ℕ) (i : ℕ) → 2 * i + 1 < length ms → level_count (drop (2 * i) ms) ≡ pair_bytes (get_or ms (2 * i) 0) (get_or ms (2 * i + 1) 0) + level_count (drop (2 * (i + 1)) ms)
level_count_two ms i h = ap level_count (drop_two ms i 0 h)

level_count_few : (ms : List ℕ) → length ms ≤ 1 → level_count ms ≡ 0
level_count_few [] h = refl
level_count_few (m ∷ []) h = refl
level_count_few (m ∷ n ∷ rest) h = absurd (omega arith)

pub level_count_end : (ms : List ℕ) (i : ℕ) → length ms / 2 ≤ i → level_count (drop (2 * i) ms) ≡ 0
level_count_end ms i h = level_count_few (drop (2 * i) ms) (omega (arith, length-drop (2 * i) ms))

-- ---- the radices of the next level

pub next_radices_more : (next ms : List ℕ) (i : ℕ) → 2 * i + 1 < length ms → i < length next → take i next ++ next_radices (drop (2 * i) ms) ≡ take (i + 1) (set next i (pair_radix (get_or ms (2 * i) 0) (get_or ms (2 * i + 1) 0))) ++ next_radices (drop (2 * (i + 1)) ms)
next_radices_more next ms i h k =
    let radix = pair_radix (get_or ms (2 * i) 0) (get_or ms (2 * i + 1) 0) in
    let later = next_radices (drop (2 * (i + 1)) ms) in
    ap (λ t. take i next ++ next_radices t) (drop_two ms i 0 h)
    ∙ sym (append_assoc (take i next) (radix ∷ []) later)
    ∙ ap (λ t. t ++ later) (sym (take_more_set next i radix k))

pub next_radices_even : (next ms : List ℕ) (i : ℕ) → length ms ≤ 2 * i → length next ≤ i → take i next ++ next_radices (drop (2 * i) ms) ≡ next
next_radices_even next ms i h k =
    ap (λ t. take i next ++ next_radices t) (drop_all (2 * i) ms h) ∙ append-nil (take i next) ∙ take_all i next k

drop_one : (ms : List ℕ) (i : ℕ) → length ms ≡ i + 1 → drop i ms ≡ get_or ms i 0 ∷ []
drop_one ms i e = drop_more ms i 0 (omega arith) ∙ ap (λ t. get_or ms i 0 ∷ t) (drop_all (i + 1) ms (omega arith))

pub next_radices_odd : (next ms : List ℕ) (i : ℕ) → length ms ≡ 2 * i + 1 → length next ≡ i + 1 → take i next ++ next_radices (drop (2 * i) ms) ≡ set next i (get_or ms (2 * i) 0)
next_radices_odd next ms i e k =
    let last = get_or ms (2 * i) 0 in
    ap (λ t. take i next ++ next_radices t) (drop_one ms (2 * i) e)
    ∙ sym (take_more_set next i last (omega arith))
    ∙ take_all (i + 1) (set next i last) (omega (arith, length-set next i last))

-- ---- the values of a level

-- `from` bytes are read, the values of i pairs are in front, and at the back are the values of the
-- next level from place i on
pub record Parting (values all ms bytes above : List ℕ) (i from : ℕ) : Type 0 where
  pub values_are : take (2 * i) values ++ parted (drop (2 * i) ms) (drop from bytes) (drop i above) ≡ all
  pub above_left : drop (length ms / 2 + i) values ≡ drop i above
  pub bytes_left : from + level_count (drop (2 * i) ms) ≡ length bytes

pub Parting-none : (values ms bytes : List ℕ) → length bytes ≡ level_count ms → Parting values (parted ms bytes (drop (length ms / 2) values)) ms bytes (drop (length ms / 2) values) 0 0
Parting-none values ms bytes e = record {
  values_are = refl;
  above_left = ap (λ t. drop t values) (let d : length ms / 2 + 0 ≡ length ms / 2 = omega arith in d);
  bytes_left = omega arith;
}

pub Parting-room : (values all ms bytes above : List ℕ) (i from : ℕ) → 2 * i + 1 < length ms → Parting values all ms bytes above i from → from + pair_bytes (get_or ms (2 * i) 0) (get_or ms (2 * i + 1) 0) ≤ length bytes
Parting-room values all ms bytes above i from h p = omega (arith, level_count_two ms i h, p.bytes_left)

pub Parting-more : (values all ms bytes above : List ℕ) (i from w : ℕ) → 2 * i + 1 < length ms → length values ≡ length ms → w ≡ whole (pair_bytes (get_or ms (2 * i) 0) (get_or ms (2 * i + 1) 0)) (drop from bytes) (get_or values (length ms / 2 + i) 0) → Parting values all ms bytes above i from → Parting (set (set values (2 * i) (w % get_or ms (2 * i) 0)) (2 * i + 1) (w / get_or ms (2 * i) 0 % get_or ms (2 * i + 1) 0)) all ms bytes above (i + 1) (from + pair_bytes (get_or ms (2 * i) 0) (get_or ms (2 * i + 1) 0))
Parting-more values all ms bytes above i from w h k e p =
    let half = length ms / 2 in
    let m = get_or ms (2 * i) 0 in
    let n = get_or ms (2 * i + 1) 0 in
    let s = pair_bytes m n in
    let r = get_or values (half + i) 0 in
    let x = w % m in
    let y = w / m % n in
    let back = drop (half + (i + 1)) values in
    let rest = drop (2 * (i + 1)) ms in
    let one = set values (2 * i) x in
    let two = set one (2 * i + 1) y in
    let later = parted rest (drop (from + s) bytes) back in
    let front : take (2 * (i + 1)) two ≡ (take (2 * i) values ++ x ∷ []) ++ y ∷ [] =
    ap (λ t. take t two) (let d : 2 * (i + 1) ≡ 2 * i + 1 + 1 = omega arith in d)
    ∙ take_more_set one (2 * i + 1) y (omega (arith, length-set values (2 * i) x))
    ∙ ap (λ t. t ++ y ∷ []) (take_more_set values (2 * i) x (omega arith))
    in
    let left : drop i above ≡ r ∷ back =
    sym p.above_left
    ∙ drop_more values (half + i) 0 (omega arith)
    ∙ ap (λ t. r ∷ drop t values) (let d : half + i + 1 ≡ half + (i + 1) = omega arith in d)
    in
    let tail : drop (i + 1) above ≡ back =
    sym (drop-drop 1 i above) ∙ ap (drop 1) left
    in
    let kept : drop (half + (i + 1)) two ≡ back =
    drop-set-lt (half + (i + 1)) one (2 * i + 1) y (omega arith)
    ∙ drop-set-lt (half + (i + 1)) values (2 * i) x (omega arith)
    in
    let opened : parted (drop (2 * i) ms) (drop from bytes) (drop i above) ≡ x ∷ y ∷ later =
    ap (λ t. parted t (drop from bytes) (drop i above)) (drop_two ms i 0 h)
    ∙ ap (λ t. parted (m ∷ n ∷ rest) (drop from bytes) t) left
    ∙ ap (λ t. t % m ∷ t / m % n ∷ parted rest (drop s (drop from bytes)) back) (sym e)
    ∙ ap (λ t. x ∷ y ∷ parted rest t back) (drop-drop s from bytes)
    in
    record {
      values_are =
          ap (λ t. take (2 * (i + 1)) two ++ parted rest (drop (from + s) bytes) t) tail
          ∙ ap (λ t. t ++ later) front
          ∙ append_assoc (take (2 * i) values ++ x ∷ []) (y ∷ []) later
          ∙ append_assoc (take (2 * i) values) (x ∷ []) (y ∷ later)
          ∙ ap (λ t. take (2 * i) values ++ t) (sym opened)
          ∙ p.values_are;
      above_left = kept ∙ sym tail;
      bytes_left = omega (arith, level_count_two ms i h, p.bytes_left);
    }

parted_few : (ms bytes above : List ℕ) → length ms ≤ 1 → length above ≡ length ms → parted ms bytes above ≡ above
parted_few [] bytes [] h e = refl
parted_few [] bytes (r ∷ above) h e = absurd (omega arith)
parted_few (m ∷ []) bytes [] h e = absurd (omega arith)
parted_few (m ∷ []) bytes (r ∷ []) h e = refl
parted_few (m ∷ []) bytes (r ∷ q ∷ above) h e = absurd (omega arith)
parted_few (m ∷ n ∷ ms) bytes above h e = absurd (omega arith)

pub Parting-all : (values all ms bytes above : List ℕ) (i from : ℕ) → length ms / 2 ≡ i → length values ≡ length ms → Parting values all ms bytes above i from → values ≡ all
Parting-all values all ms bytes above i from h k p =
    let back : drop (2 * i) values ≡ drop i above =
    ap (λ t. drop t values) (let d : 2 * i ≡ length ms / 2 + i = omega arith in d) ∙ p.above_left
    in
    let same : length (drop i above) ≡ length (drop (2 * i) ms) =
    omega (arith, ap length back, length-drop (2 * i) values, length-drop (2 * i) ms)
    in
    sym (take-append-drop (2 * i) values)
    ∙ ap (λ t. take (2 * i) values ++ t) back
    ∙ ap (λ t. take (2 * i) values ++ t) (sym (parted_few (drop (2 * i) ms) (drop from bytes) (drop i above) (omega (arith, length-drop (2 * i) ms)) same))
    ∙ p.values_are

part_length : (bytes : List ℕ) (from to count : ℕ) → to ≡ from + count → to ≤ length bytes → length (take (to - from) (drop from bytes)) ≡ count
part_length bytes from to count e h = length-take-le (to - from) (drop from bytes) (omega (arith, length-drop from bytes)) ∙ (let d : to - from ≡ count = omega arith in d)

-- the number of a pair, from a slice of all bytes
pub part_number : (bytes : List ℕ) (from to count above w : ℕ) → to ≡ from + count → to ≤ length bytes → w ≡ number (take (to - from) (drop from bytes)) + 256 ^ length (take (to - from) (drop from bytes)) * above → w ≡ whole count (drop from bytes) above
part_number bytes from to count above w e h n =
    n
    ∙ ap (λ t. number (take (to - from) (drop from bytes)) + 256 ^ t * above) (part_length bytes from to count e h)
    ∙ ap (λ t. number (take t (drop from bytes)) + 256 ^ count * above) (let d : to - from ≡ count = omega arith in d)

-- ---- what decoding gives

pub length_parted : (ms bytes above : List ℕ) → length above ≡ (length ms + 1) / 2 → length (parted ms bytes above) ≡ length ms
length_parted [] bytes above e = refl
length_parted (m ∷ []) bytes [] e = absurd (omega arith)
length_parted (m ∷ []) bytes (r ∷ above) e = refl
length_parted (m ∷ n ∷ rest) bytes [] e = absurd (omega arith)
length_parted (m ∷ n ∷ rest) bytes (r ∷ above) e =
    ap (λ t. suc (suc t)) (length_parted rest (drop (pair_bytes m n) bytes) above (omega arith))

pub length_decode_in : (levels : ℕ) (ms bytes : List ℕ) → length ms ≤ levels → length (decode_in levels ms bytes) ≡ length ms
length_decode_in zero [] bytes h = refl
length_decode_in zero (m ∷ ms) bytes h = absurd (omega arith)
length_decode_in (suc levels) [] bytes h = refl
length_decode_in (suc levels) (m ∷ []) bytes h = refl
length_decode_in (suc levels) (m ∷ n ∷ rest) bytes h =
    let ms : List ℕ = m ∷ n ∷ rest in
    let few : length (next_radices ms) ≤ levels = omega (arith, length-next_radices ms) in
    length_parted ms (take (level_count ms) bytes) (decode_in levels (next_radices ms) (drop (level_count ms) bytes)) (length_decode_in levels (next_radices ms) (drop (level_count ms) bytes) few ∙ length-next_radices ms)

below_parted : (ms bytes above : List ℕ) → AreRadices ms → AreBelow above (next_radices ms) → (k : ℕ) → k < length ms → get_or (parted ms bytes above) k 0 < get_or ms k 0
below_parted [] bytes above m b k l = absurd (omega arith)
below_parted (n ∷ []) bytes [] m b k l = absurd (omega (arith, b.0))
below_parted (n ∷ []) bytes (r ∷ above) m b zero l = b.1 0 (omega arith)
below_parted (n ∷ []) bytes (r ∷ above) m b (suc k) l = absurd (omega arith)
below_parted (m ∷ n ∷ rest) bytes [] a b k l = absurd (omega (arith, b.0))
below_parted (m ∷ n ∷ rest) bytes (r ∷ above) a b zero l = mod_below (whole (pair_bytes m n) bytes r) m (a 0 (omega arith)).0
below_parted (m ∷ n ∷ rest) bytes (r ∷ above) a b (suc zero) l =
    mod_below (whole (pair_bytes m n) bytes r / m) n (a 1 (omega arith)).0
below_parted (m ∷ n ∷ rest) bytes (r ∷ above) a b (suc (suc k)) l =
    below_parted rest (drop (pair_bytes m n) bytes) above (λ i h. a (suc (suc i)) (omega arith)) (omega (arith, b.0), λ i h. b.1 (suc i) (omega arith)) k (omega arith)

below_decode_in : (levels : ℕ) (ms bytes : List ℕ) → length ms ≤ levels → AreRadices ms → (k : ℕ) → k < length ms → get_or (decode_in levels ms bytes) k 0 < get_or ms k 0
below_decode_in zero [] bytes h a k l = absurd (omega arith)
below_decode_in zero (m ∷ ms) bytes h a k l = absurd (omega arith)
below_decode_in (suc levels) [] bytes h a k l = absurd (omega arith)
below_decode_in (suc levels) (m ∷ []) bytes h a zero l = mod_below (number bytes) m (a 0 (omega arith)).0
below_decode_in (suc levels) (m ∷ []) bytes h a (suc k) l = absurd (omega arith)
below_decode_in (suc levels) (m ∷ n ∷ rest) bytes h a k l =
    let ms : List ℕ = m ∷ n ∷ rest in
    let later = drop (level_count ms) bytes in
    let few : length (next_radices ms) ≤ levels = omega (arith, length-next_radices ms) in
    below_parted ms (take (level_count ms) bytes) (decode_in levels (next_radices ms) later) a (length_decode_in levels (next_radices ms) later few, below_decode_in levels (next_radices ms) later few (AreRadices-next ms a)) k l

pub AreBelow-decode_in : (levels : ℕ) (ms bytes : List ℕ) → length ms ≤ levels → AreRadices ms → AreBelow (decode_in levels ms bytes) ms
AreBelow-decode_in levels ms bytes h a = (length_decode_in levels ms bytes h, below_decode_in levels ms bytes h a)

-- ---- one level of the recursion

pub decode_more : (levels : ℕ) (ms bytes : List ℕ) → 2 ≤ length ms → decode_in (suc levels) ms bytes ≡ parted ms (take (level_count ms) bytes) (decode_in levels (next_radices ms) (drop (level_count ms) bytes))
decode_more levels [] bytes h = absurd (omega arith)
decode_more levels (m ∷ []) bytes h = absurd (omega arith)
decode_more levels (m ∷ n ∷ rest) bytes h = refl

pub decode_last : (levels : ℕ) (ms bytes : List ℕ) → length ms ≡ 1 → length ms ≤ levels → decode_in levels ms bytes ≡ number bytes % get_or ms 0 0 ∷ []
decode_last zero ms bytes e h = absurd (omega arith)
decode_last (suc levels) [] bytes e h = absurd (omega arith)
decode_last (suc levels) (m ∷ []) bytes e h = refl
decode_last (suc levels) (m ∷ n ∷ rest) bytes e h = absurd (omega arith)

pub decode_only : (levels : ℕ) (ms bytes values : List ℕ) → length ms ≡ 1 → length ms ≤ levels → length values ≡ 1 → set values 0 (number bytes % get_or ms 0 0) ≡ decode_in levels ms bytes
decode_only levels ms bytes [] e h k = absurd (omega arith)
decode_only levels ms bytes (r ∷ []) e h k = sym (decode_last levels ms bytes e h)
decode_only levels ms bytes (r ∷ q ∷ values) e h k = absurd (omega arith)

pub length_more : (levels : ℕ) (ms : List ℕ) → 2 ≤ length ms → length_in (suc levels) ms ≡ level_count ms + length_in levels (next_radices ms)
length_more levels [] h = absurd (omega arith)
length_more levels (m ∷ []) h = absurd (omega arith)
length_more levels (m ∷ n ∷ rest) h = refl

pub length_last : (levels : ℕ) (ms : List ℕ) → length ms ≡ 1 → length_in levels ms ≤ 2
length_last zero ms e = omega arith
length_last (suc levels) [] e = absurd (omega arith)
length_last (suc levels) (m ∷ []) e = last_bytes_most m
length_last (suc levels) (m ∷ n ∷ rest) e = absurd (omega arith)

-- the levels that are left
pub length_rest : (levels : ℕ) (ms : List ℕ) (count : ℕ) → 2 ≤ length ms → length ms ≤ levels → count ≡ length_in levels ms → (later : ℕ) × (length (next_radices ms) ≤ later) × (count ≡ level_count ms + length_in later (next_radices ms))
length_rest zero ms count h l e = absurd (omega arith)
length_rest (suc levels) ms count h l e =
    (levels, omega (arith, length-next_radices ms), e ∙ length_more levels ms h)

-- the part from `at` on, after it was written
pub part_written : (at : ℕ) (values part : List ℕ) → at ≤ length values → drop at (put_mid at (length values - at) values part) ≡ part
part_written at values part h =
    let front = take at values in
    ap (λ t. drop at (front ++ (part ++ t))) (drop_all (length values - at) (drop at values) (omega (arith, length-drop at values)))
    ∙ ap (λ t. drop at (front ++ t)) (append-nil part)
    ∙ ap (λ t. drop t (front ++ part)) (sym (length-take-le at values h))
    ∙ drop-append_seam front part

pub decode_rest : (levels count : ℕ) (ms next bytes later above values : List ℕ) → 2 ≤ length ms → count ≡ level_count ms → next ≡ next_radices ms → later ≡ drop count bytes → ((l : ℕ) → length next ≤ l → above ≡ decode_in l next later) → values ≡ parted ms (take count bytes) above → length ms ≤ levels → values ≡ decode_in levels ms bytes
decode_rest zero count ms next bytes later above values two c n d a v h = absurd (omega arith)
decode_rest (suc levels) count ms next bytes later above values two c n d a v h =
    let few : length next ≤ levels = omega (arith, ap length n, length-next_radices ms) in
    v
    ∙ ap (λ t. parted ms (take count bytes) t) (a levels few)
    ∙ ap (λ t. parted ms (take count bytes) (decode_in levels t later)) n
    ∙ ap (λ t. parted ms (take count bytes) (decode_in levels (next_radices ms) t)) d
    ∙ ap (λ t. parted ms (take t bytes) (decode_in levels (next_radices ms) (drop t bytes))) c
    ∙ sym (decode_more levels ms bytes two)
