-- Lanes side by side.
use Rattle.std.specs.Prelude.{ℕ, ◌≡◌, List, length, slice_get, Some}

-- there are so many lanes, and of each this holds by its number
pub record InOrder {L : Type 0} (P : ℕ → L → Type 0) (count : ℕ) (lanes : List L) : Type 0 where
  pub count_is : length lanes ≡ count
  pub each : (lane : ℕ) (l : L) → slice_get lanes lane ≡ Some l → P lane l
