-- The parameter sets of Streamlined NTRU Prime (NTRU Prime round 3, parameter sets).
use Rattle.std.specs.Prelude.{ℕ}

-- a set: the degree p of x^p - x - 1, the prime modulus q, and the weight w of a short element
pub record Set : Type 0 where
  pub p : ℕ
  pub q : ℕ
  pub w : ℕ

abbrev pub sntrup761 : Set
sntrup761 = record { p = 761; q = 4591; w = 286 }

abbrev pub sntrup857 : Set
sntrup857 = record { p = 857; q = 5167; w = 322 }
