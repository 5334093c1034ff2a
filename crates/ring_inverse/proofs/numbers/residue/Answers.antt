use Rattle.std.proofs.Common.{arith, refl, ap, ◌∙◌}
use Rattle.std.specs.Prelude.{◌+ℤ◌, ◌-ℤ◌}
use Rattle.std.specs.Int.{w16, w64}
use Rattle.std.specs.Int.RustNames.{FitsSigned}
use Rattle.std.proofs.lemmas.Int.{to_z-of_z, ints, fits_signed_from_abs}
use Rattle.ring_inverse.proofs.numbers.residue.Goals as goal

pub returns : goal.returns
returns c =
    let number : FitsSigned w64 c.args.number = c.ranges.number in
    let half : FitsSigned w64 c.from-half.result = fits_signed_from_abs w64 c.from-half.result (omega (arith, ints)) in
    let modulus : FitsSigned w64 c.from.result = fits_signed_from_abs w64 c.from.result (omega (arith, ints)) in
    let shifted : FitsSigned w64 (c.args.number +ℤ c.from-half.result) = fits_signed_from_abs w64 (c.args.number +ℤ c.from-half.result) (omega (arith, ints)) in
    let rest : FitsSigned w64 c.rem_euclid.result = fits_signed_from_abs w64 c.rem_euclid.result (omega (arith, ints)) in
    let difference : FitsSigned w64 (c.rem_euclid.result -ℤ c.from-half.result) = fits_signed_from_abs w64 (c.rem_euclid.result -ℤ c.from-half.result) (omega (arith, ints)) in
    let narrow : FitsSigned w16 (c.rem_euclid.result -ℤ c.from-half.result) = fits_signed_from_abs w16 (c.rem_euclid.result -ℤ c.from-half.result) (omega (arith, ints)) in
    let value = simp to_z-of_z at c.rem_euclid.ensures.value in
    simp to_z-of_z (ap (λ z. z -ℤ c.from-half.result) value ∙ rw (c.from-half.ensures, c.from.ensures) refl)
