-- Numbers that are added, and byte strings that are joined, one more at a time.
use Rattle.std.proofs.Common.{◌≡◌, ◌≢◌, ◌≤◌, ◌<◌, ◌+◌, ◌-◌, ◌++◌, ℕ, zero, suc, inl, inr, List, [], arith, subst, sym, refl}
use Rattle.std.proofs.lemmas.Bool.{cases_eq}
use Rattle.library_calls.specs.Messages.{added, joined}

pub added-none : (number : ℕ → ℕ) → added number 0 ≡ 0
unfolding added
added-none number = refl

added-next : (number : ℕ → ℕ) (k : ℕ) → added number (suc k) ≡ added number k + number k
unfolding added
added-next number k = refl

pub added-more : (number : ℕ → ℕ) (k : ℕ) → added number (k + 1) ≡ added number k + number k
added-more number k =
    let same : suc k ≡ k + 1 = omega arith in
    subst (λ m. added number m ≡ added number k + number k) same (added-next number k)

grown : (number : ℕ → ℕ) (k d : ℕ) → added number k ≤ added number (k + d)
grown number k zero =
    let same : k ≡ k + 0 = omega arith in
    subst (λ m. added number k ≤ added number m) same (omega arith)
grown number k (suc d) =
    let same : k + d + 1 ≡ k + suc d = omega arith in
    subst (λ m. added number k ≤ added number m) same
    (omega (arith, grown number k d, added-more number (k + d)))

-- one that is among them is no more than all
pub added-within : (number : ℕ → ℕ) (k n : ℕ) → k < n → added number k + number k ≤ added number n
added-within number k n le =
    let at : k + 1 + (n - (k + 1)) ≡ n = omega (arith, le) in
    let more : added number (k + 1) ≤ added number n =
    subst (λ m. added number (k + 1) ≤ added number m) at (grown number (k + 1) (n - (k + 1))) in
    omega (arith, more, added-more number k)

pub joined-none : (bytes : ℕ → List ℕ) → joined bytes 0 ≡ []
unfolding joined
joined-none bytes = refl

joined-next : (bytes : ℕ → List ℕ) (k : ℕ) → joined bytes (suc k) ≡ joined bytes k ++ bytes k
unfolding joined
joined-next bytes k = refl

pub joined-more : (bytes : ℕ → List ℕ) (k : ℕ) → joined bytes (k + 1) ≡ joined bytes k ++ bytes k
joined-more bytes k =
    let same : suc k ≡ k + 1 = omega arith in
    subst (λ m. joined bytes m ≡ joined bytes k ++ bytes k) same (joined-next bytes k)

-- what holds below a number, and at it, holds below the next
pub below-next : (P : ℕ → Type 0) (n : ℕ) → ((k : ℕ) → k < n → P k) → P n
    → (k : ℕ) → k < n + 1 → P k
below-next P n below here k low = elim (cases_eq k n) [
  | inl same ↦ subst P (sym same) here
  | inr apart ↦ below k (less k n low apart)
]
  where
    less : (k n : ℕ) → k < n + 1 → k ≢ n → k < n
    less k n low apart = omega arith
