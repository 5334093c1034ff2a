-- The steps of the loop over the pairs of a level.
use Rattle.std.proofs.Common.{◌≡◌, ℕ, zero, suc, ◌+◌, ◌*◌, ◌<◌, ◌≤◌, List, [], ◌∷◌, ◌++◌, length, take, drop, set, get_or, arith, ap, subst, sym, ◌∙◌, refl, append_assoc}
use Rattle.std.proofs.lemmas.List.{append-nil, drop_more, drop_all, take_more_set, drop-set-lt}
use Rattle.radix_pack.specs.declared.levels.Digit.{Digit}
use Rattle.radix_pack.specs.Radix.{bytes_in, last_bytes, low_bytes, pair_written, pair_digit, level_bytes, next_digits, with_radices, encode_in, AreDigits}
use Rattle.radix_pack.proofs.RoundTrip.{length-next_digits}

pub drop_two : {X : Type 0} (xs : List X) (i : ℕ) (d : X) → 2 * i + 1 < length xs → drop (2 * i) xs ≡ get_or xs (2 * i) d ∷ get_or xs (2 * i + 1) d ∷ drop (2 * (i + 1)) xs
drop_two xs i d h =
    drop_more xs (2 * i) d (omega arith)
    ∙ ap (λ t. get_or xs (2 * i) d ∷ t) (drop_more xs (2 * i + 1) d h ∙ ap (λ n. get_or xs (2 * i + 1) d ∷ drop n xs) (let e : 2 * i + 1 + 1 ≡ 2 * (i + 1) = omega arith in e))

-- what i pairs have written, and the next level in front
pub record Pairs (out bytes : List ℕ) (now next : List Digit) (i : ℕ) : Type 0 where
  pub bytes_are : out ++ level_bytes (drop (2 * i) now) ≡ bytes
  pub next_is : take i now ++ next_digits (drop (2 * i) now) ≡ next
  pub digits : AreDigits (drop (2 * i) now)

pub Pairs-none : (out : List ℕ) (xs : List Digit) → AreDigits xs → Pairs out (out ++ level_bytes xs) xs (next_digits xs) 0
Pairs-none out xs a = record { bytes_are = refl; next_is = refl; digits = a }

pub Pairs-at : (out bytes : List ℕ) (now next : List Digit) (i : ℕ) (d : Digit) → 2 * i + 1 < length now → Pairs out bytes now next i → AreDigits (get_or now (2 * i) d ∷ get_or now (2 * i + 1) d ∷ drop (2 * (i + 1)) now)
Pairs-at out bytes now next i d h p = subst AreDigits (drop_two now i d h) p.digits

pub Pairs-more : (out bytes : List ℕ) (now next : List Digit) (i : ℕ) (d : Digit) → 2 * i + 1 < length now → Pairs out bytes now next i → Pairs (out ++ pair_written (get_or now (2 * i) d) (get_or now (2 * i + 1) d)) bytes (set now i (pair_digit (get_or now (2 * i) d) (get_or now (2 * i + 1) d))) next (i + 1)
Pairs-more out bytes now next i d h p =
    let x = get_or now (2 * i) d in
    let y = get_or now (2 * i + 1) d in
    let v = pair_digit x y in
    let later = drop (2 * (i + 1)) now in
    let two : drop (2 * i) now ≡ x ∷ y ∷ later = drop_two now i d h in
    let same : drop (2 * (i + 1)) (set now i v) ≡ later = drop-set-lt (2 * (i + 1)) now i v (omega arith) in
    let parts : AreDigits (x ∷ y ∷ later) = subst AreDigits two p.digits in
    record {
      bytes_are =
          ap (λ t. (out ++ pair_written x y) ++ level_bytes t) same
          ∙ append_assoc out (pair_written x y) (level_bytes later)
          ∙ ap (λ t. out ++ level_bytes t) (sym two)
          ∙ p.bytes_are;
      next_is =
          ap (λ t. take (i + 1) (set now i v) ++ next_digits t) same
          ∙ ap (λ t. t ++ next_digits later) (take_more_set now i v (omega arith))
          ∙ append_assoc (take i now) (v ∷ []) (next_digits later)
          ∙ ap (λ t. take i now ++ next_digits t) (sym two)
          ∙ p.next_is;
      digits = subst AreDigits (sym same) parts.2.2;
    }

pub Pairs-even : (out bytes : List ℕ) (now next : List Digit) (i : ℕ) → 2 * i ≡ length now → Pairs out bytes now next i → (out ≡ bytes) × (take i now ≡ next)
Pairs-even out bytes now next i e p =
    let none : drop (2 * i) now ≡ [] = drop_all (2 * i) now (omega arith) in (
      sym (append-nil out) ∙ ap (λ t. out ++ level_bytes t) (sym none) ∙ p.bytes_are,
      sym (append-nil (take i now)) ∙ ap (λ t. take i now ++ next_digits t) (sym none) ∙ p.next_is,
    )

pub Pairs-odd : (out bytes : List ℕ) (now next : List Digit) (i : ℕ) (d : Digit) → 2 * i + 1 ≡ length now → Pairs out bytes now next i → (out ≡ bytes) × (take (i + 1) (set now i (get_or now (2 * i) d)) ≡ next)
Pairs-odd out bytes now next i d e p =
    let one : drop (2 * i) now ≡ get_or now (2 * i) d ∷ [] =
    drop_more now (2 * i) d (omega arith) ∙ ap (λ t. get_or now (2 * i) d ∷ t) (drop_all (2 * i + 1) now (omega arith))
    in (
      sym (append-nil out) ∙ ap (λ t. out ++ level_bytes t) (sym one) ∙ p.bytes_are,
      take_more_set now i (get_or now (2 * i) d) (omega arith) ∙ ap (λ t. take i now ++ next_digits t) (sym one) ∙ p.next_is,
    )

pub encode_more : (levels : ℕ) (xs : List Digit) → 2 ≤ length xs → encode_in (suc levels) xs ≡ level_bytes xs ++ encode_in levels (next_digits xs)
encode_more levels [] h = absurd (omega arith)
encode_more levels (x ∷ []) h = absurd (omega arith)
encode_more levels (x ∷ y ∷ rest) h = refl

pub encode_last : (levels : ℕ) (xs : List Digit) (d : Digit) → length xs ≡ 1 → length xs ≤ levels → low_bytes (bytes_in 2 2 (get_or xs 0 d).radix) (get_or xs 0 d).value ≡ encode_in levels xs
unfolding last_bytes
encode_last zero xs d e h = absurd (omega arith)
encode_last (suc levels) [] d e h = absurd (omega arith)
encode_last (suc levels) (x ∷ []) d e h = refl
encode_last (suc levels) (x ∷ y ∷ rest) d e h = absurd (omega arith)

pub encode_rest : (before between after : List ℕ) (xs ys : List Digit) → 2 ≤ length xs → ys ≡ next_digits xs → between ≡ before ++ level_bytes xs → ((levels : ℕ) → length ys ≤ levels → after ≡ between ++ encode_in levels ys) → (levels : ℕ) → length xs ≤ levels → after ≡ before ++ encode_in levels xs
encode_rest before between after xs ys two n b a zero h = absurd (omega arith)
encode_rest before between after xs ys two n b a (suc levels) h =
    let few : length ys ≤ levels = omega (arith, ap length n, length-next_digits xs) in
    a levels few
    ∙ ap (λ t. between ++ encode_in levels t) n
    ∙ ap (λ t. t ++ encode_in levels (next_digits xs)) b
    ∙ append_assoc before (level_bytes xs) (encode_in levels (next_digits xs))
    ∙ ap (λ t. before ++ t) (sym (encode_more levels xs two))

-- ---- the digits of the first level

pub digit_is : (d : Digit) (value radix : ℕ) → d.value ≡ value → d.radix ≡ radix → d ≡ record { value = value; radix = radix }
digit_is d value radix e f = λ i. record { value = e i; radix = f i }

-- one more value with its radix
pub with_radices_more : (out : List Digit) (vs ms : List ℕ) (i : ℕ) (d : Digit) → i < length vs → i < length ms → d.value ≡ get_or vs i 0 → d.radix ≡ get_or ms i 0 → (out ++ d ∷ []) ++ with_radices (drop (i + 1) vs) (drop (i + 1) ms) ≡ out ++ with_radices (drop i vs) (drop i ms)
with_radices_more out vs ms i d lv lm ev em =
    let x : Digit = record { value = get_or vs i 0; radix = get_or ms i 0 } in
    let later = with_radices (drop (i + 1) vs) (drop (i + 1) ms) in
    let is : d ≡ x = digit_is d (get_or vs i 0) (get_or ms i 0) ev em in
    let opened : with_radices (drop i vs) (drop i ms) ≡ x ∷ later =
    ap (λ t. with_radices t (drop i ms)) (drop_more vs i 0 lv)
    ∙ ap (λ t. with_radices (get_or vs i 0 ∷ drop (i + 1) vs) t) (drop_more ms i 0 lm)
    in
    append_assoc out (d ∷ []) later ∙ ap (λ t. out ++ t ∷ later) is ∙ ap (λ t. out ++ t) (sym opened)

pub with_radices_all : (out : List Digit) (vs ms : List ℕ) (i : ℕ) → length vs ≤ i → out ++ with_radices (drop i vs) (drop i ms) ≡ out
with_radices_all out vs ms i h = ap (λ t. out ++ with_radices t (drop i ms)) (drop_all i vs h) ∙ append-nil out
