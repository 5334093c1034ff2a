-- The high half of a product of 32 bits fits 16, in each lane.
use Rattle.std.proofs.Common.{◌≡◌, ℕ, zero, suc, ◌-◌, ◌^◌, ℤ, pos, negsuc, Bool, true, false, List, [], ◌∷◌, to_z, of_z, arith, refl}
use Rattle.std.specs.Int.{w16, w32}
use Rattle.std.specs.Int.RustNames.{FitsSigned}
use Rattle.std.specs.Int.Signed.{shr_z}
use Rattle.std.proofs.lemmas.Int.{to_z-of_z}
use Rattle.std.proofs.lemmas.Bool.{ltb-true, ltb-false}
use lib.Dec.{ltb}
use lib.Lanes.{zip2, Each1}
use lib.ListN.{replicate}
use borrow.Rule.Simd.Lanes.{Asks1, act2}
use borrow.Table.Row.{s_int}
use mir.Syntax.{cast, shr, signed}
use mir.Val.{sel}

half_fits : (z : ℤ) → FitsSigned w32 z → FitsSigned w16 (shr_z z (2 ^ 16))
half_fits (pos a) f = omega (arith, f)
half_fits (negsuc a) f = omega (arith, f)

half_fits_32 : (z : ℤ) → FitsSigned w32 z → FitsSigned w32 (shr_z z (2 ^ 16))
half_fits_32 (pos a) f = omega (arith, f)
half_fits_32 (negsuc a) f = omega (arith, f)

-- whatever the bits are
number_fits : (m : ℕ) → FitsSigned w32 (to_z w32 m)
number_fits m = by (ltb m (2 ^ 31)) refl
  where
    by : (t : Bool) → ltb m (2 ^ 31) ≡ t → FitsSigned w32 (sel t (pos m) (negsuc (2 ^ 32 - suc m)))
    by true e = omega (arith, ltb-true m (2 ^ 31) e)
    by false e = omega (arith, ltb-false m (2 ^ 31) e)

-- the high half of a number of 32 bits
pub high_half_fits : (m : ℕ) → FitsSigned w16 (to_z w32 (of_z w32 (shr_z (to_z w32 m) (2 ^ 16))))
high_half_fits m =
    let fits = number_fits m in
    rw (to_z-of_z w32 (shr_z (to_z w32 m) (2 ^ 16)) (half_fits_32 (to_z w32 m) fits)) (half_fits (to_z w32 m) fits)

-- what a lane of 32 bits asks
lane_fits : (m : ℕ) → Asks1 (cast signed signed w16) (s_int w32) (act2 (shr signed) (s_int w32) (s_int w32) (s_int w32) m 16)
lane_fits m =
    let fits : FitsSigned w32 (to_z w32 m) = number_fits m in
    let half : FitsSigned w32 (shr_z (to_z w32 m) (2 ^ 16)) = half_fits_32 (to_z w32 m) fits in
    simp (to_z-of_z, half) (half_fits (to_z w32 m) fits)

pub high_halves_fit : (n : ℕ) (lanes : List ℕ) → Each1 (Asks1 (cast signed signed w16) (s_int w32)) (zip2 (act2 (shr signed) (s_int w32) (s_int w32) (s_int w32)) lanes (replicate n 16))
high_halves_fit zero [] = tt
high_halves_fit zero (m ∷ lanes) = tt
high_halves_fit (suc n) [] = tt
high_halves_fit (suc n) (m ∷ lanes) = (lane_fits m, high_halves_fit n lanes)
