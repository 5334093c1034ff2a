-- What clamping changes, which is proved, and what the curve gives, which is stated alone.
use Rattle.std.specs.Prelude.{◌≡◌, ℕ, List, ◌∷◌, length, replicate}
use Rattle.x25519.specs.Ladder.{x25519}
use Rattle.x25519.specs.Scalars.{clamped}

-- a scalar and the clamped one give the same
abbrev pub ClampedGiveTheSame : Type 0
ClampedGiveTheSame = (k u : List ℕ) → length k ≡ 32 → x25519 (clamped k) u ≡ x25519 k u

-- the u-coordinate of the base point, 9, as 32 bytes (RFC 7748, 4.1 and 6.1)
abbrev pub base : List ℕ
base = 9 ∷ replicate 31 0

-- Two scalars come to one shared secret, whichever is taken first (RFC 7748, 6.1). It holds of every two
-- strings of 32 bytes, since multiples of a point of the curve commute: a law that needs it takes it as
-- a premise, of the two scalars at hand alone.
abbrev pub TwoAgree : List ℕ → List ℕ → Type 0
TwoAgree a b = x25519 a (x25519 b base) ≡ x25519 b (x25519 a base)
