-- The sums of a convolution on their way.
use Rattle.std.specs.Prelude.{◌≡◌, ℕ, ◌+◌, ◌*◌, ◌^◌, ◌<◌, ◌≤◌, ℤ, ◌+ℤ◌, ◌-ℤ◌, ◌*ℤ◌, unsigned_abs, List, length}
use Rattle.ring_core.specs.Product.{Series, coefficients, conv}
use Rattle.ring_core.specs.Bounds.{IsWithin}
use Rattle.ring_core.specs.Rows.{shifted}

-- `factor` times the list, from x^k on
abbrev pub term : ℕ → ℤ → List ℤ → Series
term k factor list = shifted k (λ i. factor *ℤ coefficients list i)

-- at each place the sum and the term together fit 32 bits
abbrev pub Fits : List ℤ → ℕ → ℤ → List ℤ → Type 0
Fits sums k factor list =
    (n : ℕ) → unsigned_abs (coefficients sums n) + unsigned_abs (term k factor list n) < 2 ^ 31

-- the new sums are the old ones with the term
abbrev pub Adds : List ℤ → List ℤ → ℕ → ℤ → List ℤ → Type 0
Adds old new k factor list =
    (n : ℕ) → coefficients new n ≡ coefficients old n +ℤ term k factor list n

-- the sums are the convolution of the two lists
abbrev pub IsConvolution : List ℤ → List ℤ → List ℤ → Type 0
IsConvolution sums small long =
    (n : ℕ) → coefficients sums n ≡ conv (coefficients small) (coefficients long) n

-- the sum of the two halves of a list
abbrev pub IsFolded : List ℤ → List ℤ → List ℤ → Type 0
IsFolded folded low high =
    (n : ℕ) → coefficients folded n ≡ coefficients low n +ℤ coefficients high n

-- the outer products at their places, and at x^half the middle one without the outer ones
abbrev pub AreJoined : List ℤ → ℕ → List ℤ → List ℤ → List ℤ → Type 0
AreJoined sums half low middle high =
    (n : ℕ)
    → coefficients sums n
    ≡ coefficients low n
    +ℤ shifted half (coefficients middle) n
    -ℤ shifted half (coefficients low) n
    -ℤ shifted half (coefficients high) n
    +ℤ shifted (2 * half) (coefficients high) n

-- each list is a sum of as many parts of a factor: of a small element, and of one in R/q
pub record AreParts (small long : List ℤ) : Type 0 where
  pub parts : ℕ
  pub most : parts ≤ 64
  pub count : length long * parts ≤ 1022 + parts
  pub small_bound : IsWithin parts small
  pub long_bound : IsWithin (4096 * parts) long
