-- Two vectors, the second after the first: moved on by a byte, and reduced to one.
use Rattle.std.proofs.Common.{◌≡◌, ◌<◌, ◌≤◌, ◌+◌, ◌*◌, ◌^◌, ℕ, zero, suc, List, [], ◌∷◌, length, get_or, take, map, replicate, bit_xor, sym, ◌∙◌, ap, refl, arith, inl, inr}
use Rattle.std.proofs.Math.Nat.{zero-add}
use Rattle.std.specs.Int.Bits.{xor_assoc, xor_zero_l, xor_zero_r}
use Rattle.std.specs.List.{range_with_len}
use Rattle.std.specs.Simd.Lanes.{zip2}
use Rattle.std.proofs.lemmas.List.{get_or-map, get_or-take, get_or_past, length-map, length-take-le, take_more, take_all}
use Rattle.std.proofs.lemmas.List.FromFn.{get_or-map-range_with_len}
use Rattle.std.proofs.lemmas.Bool.{cases_lt}
use Rattle.std.proofs.lemmas.Nat.{xor_comm}
use Rattle.std.proofs.lemmas.Simd.{length-zip2}
use Rattle.ghash_core.specs.Field.{by_u, by_power}
use Rattle.ghash_core.specs.Rows.{element, wide, stays, goes_on}
use Rattle.ghash_core.proofs.Linear.{xor_swap, by_power-xor, by_power-zero}
use Rattle.ghash_core.proofs.PowersOfU.{by_power-add}
use Rattle.ghash_core.proofs.Bytes.{AreBytes, element-first, element-moved, element-push, element-zeros, element-zip2}

-- the powers of u in either order
turned : (m n a : ℕ) → by_power m (by_power n a) ≡ by_power n (by_power m a)
turned m n a =
    let same : m + n ≡ n + m = omega arith in
    by_power-add m n a ∙ ap (λ k. by_power k a) same ∙ sym (by_power-add n m a)

-- ---- a byte times u^128, each computed by the definition

folded : ℕ → ℕ
folded b = bit_xor (stays b * 2 ^ 120) (by_power 8 (goes_on b * 2 ^ 120))

all_folded : map (λ b. by_power 128 (b * 2 ^ 120)) (range_with_len 0 256) ≡ map folded (range_with_len 0 256)
unfolding by_power by_u folded
all_folded = refl

byte_folded : (b : ℕ) → b < 256 → by_power 128 (b * 2 ^ 120) ≡ folded b
byte_folded b small =
    sym (get_or-map-range_with_len (λ n. by_power 128 (n * 2 ^ 120)) 0 256 b b 0 small (zero-add b))
    ∙ ap (λ xs. get_or xs b 0) all_folded
    ∙ get_or-map-range_with_len folded 0 256 b b 0 small (zero-add b)

bytes_folded : (bs : List ℕ) → AreBytes bs → by_power 128 (element bs) ≡ bit_xor (element (map stays bs)) (by_power 8 (element (map goes_on bs)))
unfolding element folded
bytes_folded [] small = by_power-zero 128 ∙ sym (xor_zero_l (by_power 8 0) ∙ by_power-zero 8)
bytes_folded (b ∷ bs) small =
    let s = element (map stays bs) in
    let g = element (map goes_on bs) in
    let e = by_power 8 (goes_on b * 2 ^ 120) in
    by_power-xor 128 (b * 2 ^ 120) (by_power 8 (element bs))
    ∙ ap (λ x. bit_xor x (by_power 128 (by_power 8 (element bs)))) (byte_folded b small.0)
    ∙ ap (bit_xor (folded b)) (turned 128 8 (element bs) ∙ ap (by_power 8) (bytes_folded bs small.1) ∙ by_power-xor 8 s (by_power 8 g))
    ∙ xor_swap (stays b * 2 ^ 120) e (by_power 8 s) (by_power 8 (by_power 8 g))
    ∙ ap (bit_xor (bit_xor (stays b * 2 ^ 120) (by_power 8 s))) (sym (by_power-xor 8 (goes_on b * 2 ^ 120) (by_power 8 g)))

-- ---- sixteen bytes whose last one is 0, and any

-- all but the last byte
split_last : (xs : List ℕ) → length xs ≡ 16 → element xs ≡ bit_xor (element (take 15 xs)) (by_power 120 (get_or xs 15 0 * 2 ^ 120))
split_last xs long =
    let front = length-take-le 15 xs (omega arith) in
    let n : 8 * length (take 15 xs) ≡ 120 = omega arith in
    ap element (sym (take_all 16 xs (omega arith)) ∙ take_more xs 15 0 (omega arith))
    ∙ element-push (take 15 xs) (get_or xs 15 0)
    ∙ ap (λ k. bit_xor (element (take 15 xs)) (by_power k (get_or xs 15 0 * 2 ^ 120))) n

without_last : (xs : List ℕ) → length xs ≡ 16 → get_or xs 15 0 ≡ 0 → element (take 15 xs) ≡ element xs
without_last xs long none =
    sym (split_last xs long
    ∙ ap (λ b. bit_xor (element (take 15 xs)) (by_power 120 (b * 2 ^ 120))) none
    ∙ ap (bit_xor (element (take 15 xs))) (by_power-zero 120) ∙ xor_zero_r (element (take 15 xs)))

pub reduced_is : (low high : List ℕ) → length low ≡ 16 → length high ≡ 16 → AreBytes high → get_or high 15 0 ≡ 0
    → element (zip2 bit_xor (zip2 bit_xor low (map stays high)) (0 ∷ take 15 (map goes_on high))) ≡ wide low high
reduced_is low high p q small none =
    let here = map stays high in
    let next = map goes_on high in
    let m = length-map high stays in
    let n = length-map high goes_on in
    let both = length-zip2 bit_xor low here (omega arith) in
    let front = length-take-le 15 next (omega arith) in
    let last : get_or next 15 0 ≡ 0 = get_or-map goes_on high 15 0 0 (omega arith) ∙ ap goes_on none in
    element-zip2 (zip2 bit_xor low here) (0 ∷ take 15 next) (omega arith)
    ∙ ap (λ x. bit_xor x (element (0 ∷ take 15 next))) (element-zip2 low here (omega arith))
    ∙ ap (bit_xor (bit_xor (element low) (element here))) (element-moved (take 15 next) ∙ ap (by_power 8) (without_last next (omega arith) last))
    ∙ xor_assoc (element low) (element here) (by_power 8 (element next))
    ∙ ap (bit_xor (element low)) (sym (bytes_folded high small))

-- one byte on
pub moved_is : (low high : List ℕ) → length low ≡ 16 → length high ≡ 16 → get_or high 15 0 ≡ 0
    → wide (0 ∷ take 15 low) (get_or low 15 0 ∷ take 15 high) ≡ by_power 8 (wide low high)
moved_is low high p q none =
    let l = element (take 15 low) in
    let b = get_or low 15 0 * 2 ^ 120 in
    let h = element high in
    ap (λ x. bit_xor x (by_power 128 (element (get_or low 15 0 ∷ take 15 high)))) (element-moved (take 15 low))
    ∙ ap (λ x. bit_xor (by_power 8 l) (by_power 128 x)) (element-first (get_or low 15 0) (take 15 high) ∙ ap (λ x. bit_xor b (by_power 8 x)) (without_last high q none))
    ∙ ap (bit_xor (by_power 8 l)) (by_power-xor 128 b (by_power 8 h))
    ∙ sym (xor_assoc (by_power 8 l) (by_power 128 b) (by_power 128 (by_power 8 h)))
    ∙ ap (λ x. bit_xor x (by_power 128 (by_power 8 h))) (ap (bit_xor (by_power 8 l)) (sym (by_power-add 8 120 b)) ∙ sym (by_power-xor 8 l (by_power 120 b)) ∙ ap (by_power 8) (sym (split_last low p)))
    ∙ ap (bit_xor (by_power 8 (element low))) (turned 128 8 h)
    ∙ sym (by_power-xor 8 (element low) (by_power 128 h))

-- the same, with sixteen bytes more
pub moved_with : (low high xs : List ℕ) → length low ≡ 16 → length high ≡ 16 → length xs ≡ 16 → get_or high 15 0 ≡ 0
    → wide (zip2 bit_xor (0 ∷ take 15 low) xs) (get_or low 15 0 ∷ take 15 high) ≡ bit_xor (by_power 8 (wide low high)) (element xs)
moved_with low high xs p q r none =
    let front = length-take-le 15 low (omega arith) in
    let l = element (0 ∷ take 15 low) in
    let h = by_power 128 (element (get_or low 15 0 ∷ take 15 high)) in
    ap (λ x. bit_xor x h) (element-zip2 (0 ∷ take 15 low) xs (omega arith))
    ∙ xor_assoc l (element xs) h ∙ ap (bit_xor l) (xor_comm (element xs) h) ∙ sym (xor_assoc l h (element xs))
    ∙ ap (λ x. bit_xor x (element xs)) (moved_is low high p q none)

-- Where the second vector's bytes are 0 from byte j - 1 on, they are so from byte j on after a byte more.
pub moved_empty : (b j : ℕ) (high : List ℕ) → 1 ≤ j → length high ≡ 16 → ((k : ℕ) → j ≤ k + 1 → get_or high k 0 ≡ 0)
    → (k : ℕ) → j + 1 ≤ k + 1 → get_or (b ∷ take 15 high) k 0 ≡ 0
moved_empty b j high some long none zero le = absurd (omega arith)
moved_empty b j high some long none (suc k) le = elim (cases_lt k 15) [
  | inl lt ↦ get_or-take 15 high k 0 lt ∙ none k (omega arith)
  | inr ge ↦ get_or_past (take 15 high) k 0 (omega (arith, length-take-le 15 high (omega arith)))
]

-- no byte in the second vector
pub no_second : (low : List ℕ) → wide low (replicate 16 0) ≡ element low
no_second low = ap (λ x. bit_xor (element low) (by_power 128 x)) element-zeros ∙ ap (bit_xor (element low)) (by_power-zero 128) ∙ xor_zero_r (element low)
