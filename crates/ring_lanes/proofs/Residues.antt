-- How large the coefficients of an element are.
use Rattle.std.proofs.Common.{ℕ, ◌-◌, ◌/◌, ◌<◌, ◌≤◌, ℤ, pos, List, arith, ap, inl, inr}
use Rattle.std.specs.Prelude.{◌+ℤ◌, unsigned_abs}
use Rattle.std.proofs.lemmas.Bool.{cases_lt}
use Rattle.std.proofs.lemmas.Int.{ints}
use Rattle.std.proofs.lemmas.List.{get_or_past}
use Rattle.ring_core.specs.Bounds.{IsWithin}
use Rattle.ring_core.specs.Product.{coefficients, centred, IsCentred}
use Rattle.ring_core.proofs.ResidueLaws.{remainder_of}

centred_within : (m : ℕ) (z : ℤ) → 0 < m → m < 8192 → unsigned_abs (centred m z) ≤ 4095
centred_within m z h l =
    let r = remainder_of m (z +ℤ pos ((m - 1) / 2)) h in
    omega (arith, ints, r.is, r.low)

pub IsCentred-within : (m p : ℕ) (a : List ℤ) → 0 < m → m < 8192 → IsCentred m p a → IsWithin 4095 a
IsCentred-within m p a h l c k =
    elim (cases_lt k p) [
      | inl low ↦ omega (arith, ap unsigned_abs (c.1 k low), centred_within m (coefficients a k) h l)
      | inr past ↦ omega (arith, ap unsigned_abs (get_or_past a k (pos 0) (omega (arith, c.0))))
    ]
