-- The rows of a convolution.
use Rattle.std.specs.Prelude.{◌≡◌, ℕ, zero, suc, ◌+◌, ◌-◌, ◌*◌, ◌<◌, ℤ, pos, ◌+ℤ◌, ◌*ℤ◌, List, length}
use Rattle.ring_core.specs.Product.{Series, coefficients}

-- ---- for the proofs

-- every eighth number of a list
abbrev pub eighth : List ℤ → Series
eighth xs i = coefficients xs (8 * i)

-- each eighth number stands there eight times
abbrev pub AreEights : List ℤ → Type 0
AreEights xs = (i j : ℕ) → j < 8 → coefficients xs (8 * i + j) ≡ eighth xs i

-- the sum of f i *ℤ g (k - i) over the first n numbers i
abbrev pub rows_sum : Series → Series → ℕ → ℕ → ℤ
rows_sum f g k zero = pos 0
rows_sum f g k (suc n) = rows_sum f g k n +ℤ f n *ℤ g (k - n)

-- the lanes of a vector are the first 32 numbers of a series
abbrev pub AreLanes : List ℤ → Series → Type 0
AreLanes lanes s = (length lanes ≡ 32) × ((l : ℕ) → l < 32 → coefficients lanes l ≡ s l)
