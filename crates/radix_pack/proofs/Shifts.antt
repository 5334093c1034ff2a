-- Coefficients and digits: what is added, and taken away again.
use Rattle.std.proofs.Common.{◌≡◌, ℕ, suc, ◌+◌, ◌-◌, ◌*◌, ◌/◌, ◌%◌, ◌<◌, ◌≤◌, ℤ, pos, negsuc, arith, ap, subst, sym, ◌∙◌, inl, inr}
use Rattle.std.specs.Prelude.{◌+ℤ◌, ◌-ℤ◌, unsigned_abs}
use Rattle.std.specs.Int.{int_rem_euclid}
use Rattle.std.proofs.lemmas.Int.{ints}
use Rattle.std.proofs.Math.Nat.{mod-eq_of_lt}
use Rattle.ring_core.specs.Product.{centred}
use Rattle.ring_core.proofs.ResidueLaws.{remainder_of}
use Rattle.radix_pack.specs.Codings.{shifted}
use Rattle.radix_pack.specs.Steps.{step_radix, IsStep}

pub centred_half : (q : ℕ) (z : ℤ) → q % 2 ≡ 1 → unsigned_abs (centred q z) ≤ (q - 1) / 2
centred_half q z odd =
    let r = remainder_of q (z +ℤ pos ((q - 1) / 2)) (omega arith) in
    omega (arith, ints, r.is, r.low)

minus_plus : (d h : ℕ) → (pos d -ℤ pos h) +ℤ pos h ≡ pos d
minus_plus d h = omega (arith, ints)

-- a digit below q gives a centred residue
pub centred_digit : (q d : ℕ) → d < q → centred q (pos d -ℤ pos ((q - 1) / 2)) ≡ pos d -ℤ pos ((q - 1) / 2)
centred_digit q d h =
    ap (λ t. int_rem_euclid t (pos q) -ℤ pos ((q - 1) / 2)) (minus_plus d ((q - 1) / 2))
    ∙ ap (λ n. pos n -ℤ pos ((q - 1) / 2)) (mod-eq_of_lt h)

pub shifted_below : (q : ℕ) (c : ℤ) → q % 2 ≡ 1 → unsigned_abs c ≤ (q - 1) / 2 → shifted q c < q
shifted_below q c odd h = omega (arith, ints)

pub shifted_back : (q : ℕ) (c : ℤ) → unsigned_abs c ≤ (q - 1) / 2 → pos (shifted q c) -ℤ pos ((q - 1) / 2) ≡ c
shifted_back q c h = omega (arith, ints)

-- ---- multiples of 3

sum_of_thirds : (n h : ℕ) → n % 3 ≡ 0 → h % 3 ≡ 0 → (n + h) % 3 ≡ 0
sum_of_thirds n h a b = omega arith

less_thirds : (n h : ℕ) → n % 3 ≡ 0 → h % 3 ≡ 0 → n ≤ h → (h - n) % 3 ≡ 0
less_thirds n h a b l = omega arith

shifted_thirds : (q : ℕ) (c : ℤ) → (q - 1) / 2 % 3 ≡ 0 → unsigned_abs c % 3 ≡ 0 → unsigned_abs c ≤ (q - 1) / 2 → shifted q c % 3 ≡ 0
shifted_thirds q (pos n) h t l = sum_of_thirds n ((q - 1) / 2) t h
shifted_thirds q (negsuc n) h t l =
    ap (λ k. k % 3) (let e : unsigned_abs (negsuc n +ℤ pos ((q - 1) / 2)) ≡ (q - 1) / 2 - suc n = omega (arith, ints) in e)
    ∙ less_thirds (suc n) ((q - 1) / 2) t h l

pub thirds_back : (q : ℕ) (c : ℤ) → (q - 1) / 2 % 3 ≡ 0 → unsigned_abs c % 3 ≡ 0 → unsigned_abs c ≤ (q - 1) / 2 → 3 * (shifted q c / 3) ≡ shifted q c
thirds_back q c h t l = omega (arith, shifted_thirds q c h t l)

pub triple_thirds : (r h : ℕ) → h % 3 ≡ 0 → unsigned_abs (pos (3 * r) -ℤ pos h) % 3 ≡ 0
triple_thirds r h t = omega (arith, ints)

-- ---- steps

-- what holds for the steps of 1 and of 3 holds for each step
by_step : (P : ℕ → Type 0) (step : ℕ) → IsStep step → P 1 → P 3 → P step
by_step P step s one three =
    elim s [
      | inl e ↦ subst P (sym e) one
      | inr e ↦ subst P (sym e) three
    ]

pub step_radix_some : (step q : ℕ) → IsStep step → 1 ≤ q → 1 ≤ step_radix step q
step_radix_some step q s l =
    by_step (λ step. 1 ≤ step_radix step q) step s (omega arith) (omega arith)

pub step_radix_most : (step q : ℕ) → IsStep step → step_radix step q ≤ q
step_radix_most step q s =
    by_step (λ step. step_radix step q ≤ q) step s (omega arith) (omega arith)

quotient_below : (step q n : ℕ) → IsStep step → n < q → n / step < step_radix step q
quotient_below step q n s l =
    by_step (λ step. n / step < step_radix step q) step s (omega arith) (omega arith)

pub step_below : (step q : ℕ) (c : ℤ) → IsStep step → q % 2 ≡ 1 → unsigned_abs c ≤ (q - 1) / 2 → shifted q c / step < step_radix step q
step_below step q c s odd l = quotient_below step q (shifted q c) s (shifted_below q c odd l)

-- no digit goes past (q - 1) / 2
pub multiple_below : (step q r : ℕ) → IsStep step → r < step_radix step q → step * r < q
multiple_below step q r s =
    by_step (λ step. r < step_radix step q → step * r < q) step s (λ l. omega arith) (λ l. omega arith)
