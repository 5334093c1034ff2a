-- The convolution of two lists that are split at x^h, by three convolutions.
use Rattle.std.proofs.Common.{◌≡◌, ℕ, ◌+◌, ◌-◌, ◌*◌, ◌≤◌, ℤ, pos, List, length, take, drop, arith, ap, ◌∙◌, inl, inr}
use Rattle.std.specs.Prelude.{◌+ℤ◌, ◌-ℤ◌}
use Rattle.std.proofs.lemmas.Int.{ints}
use Rattle.std.proofs.lemmas.Bool.{cases_lt}
use Rattle.std.proofs.lemmas.List.{get_or_past, get_or-drop, get_or-take, length-take-le}
use Rattle.ring_core.specs.Product.{Series, coefficients, conv}
use Rattle.ring_core.proofs.SeriesLaws.{conv_add, conv_comm}
use Rattle.ring_core.proofs.QuotientLaws.{shifted, shifted_low, shifted_high, shifted_add, conv_shifted, same_series}
use Rattle.ring_karatsuba.specs.Sums.{AreJoined, IsConvolution, IsFolded}
use Rattle.ring_karatsuba.proofs.Bounds.{Halves}

conv-add_right : (f g g' : Series) (n : ℕ) → conv f (λ i. g i +ℤ g' i) n ≡ conv f g n +ℤ conv f g' n
conv-add_right f g g' n =
    omega (arith, ints, conv_comm f (λ i. g i +ℤ g' i) n, conv_add g g' f n, conv_comm f g n, conv_comm f g' n)

conv-shifted_right : (h : ℕ) (f g : Series) (n : ℕ) → conv f (shifted h g) n ≡ shifted h (conv f g) n
conv-shifted_right h f g n =
    conv_comm f (shifted h g) n
    ∙ conv_shifted h g f n
    ∙ ap (λ (u : Series). shifted h u n) (same_series (conv g f) (conv f g) (conv_comm g f))

shifted_twice : (h : ℕ) (s : Series) (n : ℕ) → shifted h (shifted h s) n ≡ shifted (2 * h) s n
shifted_twice h s n =
    elim (cases_lt n h) [
      | inl low ↦ omega (arith, ints, shifted_low h (shifted h s) n low, shifted_low (2 * h) s n (omega arith))
      | inr from ↦ elim (cases_lt n (2 * h)) [
        | inl low ↦ omega (
          arith,
          ints,
          shifted_high h (shifted h s) (n - h) n (omega arith),
          shifted_low h s (n - h) (omega arith),
          shifted_low (2 * h) s n low,
        )
        | inr high ↦ omega (
          arith,
          ints,
          shifted_high h (shifted h s) (n - h) n (omega arith),
          shifted_high h s (n - 2 * h) (n - h) (omega arith),
          shifted_high (2 * h) s (n - 2 * h) n (omega arith),
        )
      ]
    ]

-- the product of the sums is that of all four parts
middle_is : (f0 f1 g0 g1 : Series) (n : ℕ) → conv (λ i. f0 i +ℤ f1 i) (λ i. g0 i +ℤ g1 i) n ≡ (conv f0 g1 n +ℤ conv f1 g0 n) +ℤ (conv f0 g0 n +ℤ conv f1 g1 n)
middle_is f0 f1 g0 g1 n =
    omega (
      arith,
      ints,
      conv_add f0 f1 (λ i. g0 i +ℤ g1 i) n,
      conv-add_right f0 g0 g1 n,
      conv-add_right f1 g0 g1 n,
    )

split_product : (h : ℕ) (f0 f1 g0 g1 : Series) (n : ℕ) → conv (λ i. f0 i +ℤ shifted h f1 i) (λ i. g0 i +ℤ shifted h g1 i) n ≡ conv f0 g0 n +ℤ shifted h (conv (λ i. f0 i +ℤ f1 i) (λ i. g0 i +ℤ g1 i)) n -ℤ shifted h (conv f0 g0) n -ℤ shifted h (conv f1 g1) n +ℤ shifted (2 * h) (conv f1 g1) n
split_product h f0 f1 g0 g1 n =
    let g : Series = λ i. g0 i +ℤ shifted h g1 i in
    let cross : Series = λ i. conv f0 g1 i +ℤ conv f1 g0 i in
    let outer : Series = λ i. conv f0 g0 i +ℤ conv f1 g1 i in
    let middle : Series = conv (λ i. f0 i +ℤ f1 i) (λ i. g0 i +ℤ g1 i) in
    let whole : shifted h middle n ≡ shifted h cross n +ℤ shifted h outer n =
    ap (λ (u : Series). shifted h u n) (same_series middle (λ i. cross i +ℤ outer i) (middle_is f0 f1 g0 g1))
    ∙ shifted_add h cross outer n
    in
    let high : conv (shifted h f1) (shifted h g1) n ≡ shifted h (shifted h (conv f1 g1)) n =
    conv_shifted h f1 (shifted h g1) n
    ∙ ap (λ (u : Series). shifted h u n) (same_series (conv f1 (shifted h g1)) (shifted h (conv f1 g1)) (conv-shifted_right h f1 g1))
    in
    omega (
      arith,
      ints,
      conv_add f0 (shifted h f1) g n,
      conv-add_right f0 g0 (shifted h g1) n,
      conv-add_right (shifted h f1) g0 (shifted h g1) n,
      conv-shifted_right h f0 g1 n,
      conv_shifted h f1 g0 n,
      high,
      shifted_twice h (conv f1 g1) n,
      whole,
      shifted_add h (conv f0 g1) (conv f1 g0) n,
      shifted_add h (conv f0 g0) (conv f1 g1) n,
    )

split_list : (xs : List ℤ) (h n : ℕ) → h ≤ length xs → coefficients xs n ≡ coefficients (take h xs) n +ℤ shifted h (coefficients (drop h xs)) n
split_list xs h n fit =
    elim (cases_lt n h) [
      | inl low ↦ omega (
        arith,
        ints,
        get_or-take h xs n (pos 0) low,
        shifted_low h (coefficients (drop h xs)) n low,
      )
      | inr from ↦ omega (
        arith,
        ints,
        get_or_past (take h xs) n (pos 0) (omega (arith, length-take-le h xs fit)),
        shifted_high h (coefficients (drop h xs)) (n - h) n (omega arith),
        get_or-drop h xs (n - h) (pos 0),
        ap (coefficients xs) (let same : h + (n - h) ≡ n = omega arith in same),
      )
    ]

halves_sum : (xs low high : List ℤ) (h n : ℕ) → Halves xs low high h → coefficients xs n ≡ coefficients low n +ℤ shifted h (coefficients high) n
halves_sum xs low high h n e = rw (e.front, e.back) (split_list xs h n e.fit)

-- what the three convolutions make is the convolution
pub IsConvolution-joined : (small long s0 s1 l0 l1 s l low middle high sums : List ℤ) (h : ℕ) → Halves small s0 s1 h → Halves long l0 l1 h → IsFolded s s0 s1 → IsFolded l l0 l1 → IsConvolution low s0 l0 → IsConvolution middle s l → IsConvolution high s1 l1 → AreJoined sums h low middle high → IsConvolution sums small long
IsConvolution-joined small long s0 s1 l0 l1 s l low middle high sums h es el fs fl is_low is_middle is_high joined n =
    let f0 : Series = coefficients s0 in
    let f1 : Series = coefficients s1 in
    let g0 : Series = coefficients l0 in
    let g1 : Series = coefficients l1 in
    let f : Series = λ i. f0 i +ℤ shifted h f1 i in
    let g : Series = λ i. g0 i +ℤ shifted h g1 i in
    let both : Series = conv (λ i. f0 i +ℤ f1 i) (λ i. g0 i +ℤ g1 i) in
    let low_same = same_series (coefficients low) (conv f0 g0) is_low in
    let high_same = same_series (coefficients high) (conv f1 g1) is_high in
    let folded : conv (coefficients s) (coefficients l) ≡ both =
    ap (λ (u : Series). conv u (coefficients l)) (same_series (coefficients s) (λ i. f0 i +ℤ f1 i) fs)
    ∙ ap (λ (u : Series). conv (λ i. f0 i +ℤ f1 i) u) (same_series (coefficients l) (λ i. g0 i +ℤ g1 i) fl)
    in
    let middle_same = same_series (coefficients middle) (conv (coefficients s) (coefficients l)) is_middle ∙ folded in
    let split : conv (coefficients small) (coefficients long) n ≡ conv f g n =
    ap (λ (u : Series). conv u (coefficients long) n) (same_series (coefficients small) f (λ i. halves_sum small s0 s1 h i es))
    ∙ ap (λ (u : Series). conv f u n) (same_series (coefficients long) g (λ i. halves_sum long l0 l1 h i el))
    in
    omega (
      arith,
      ints,
      joined n,
      is_low n,
      ap (λ (u : Series). shifted h u n) middle_same,
      ap (λ (u : Series). shifted h u n) low_same,
      ap (λ (u : Series). shifted h u n) high_same,
      ap (λ (u : Series). shifted (2 * h) u n) high_same,
      split,
      split_product h f0 f1 g0 g1 n,
    )
