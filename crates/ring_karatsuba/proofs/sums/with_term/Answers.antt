use Rattle.std.proofs.Common.{arith, refl}
use Rattle.std.specs.Prelude.{◌+ℤ◌, ◌*ℤ◌}
use Rattle.std.specs.Int.{w32}
use Rattle.std.specs.Int.RustNames.{FitsSigned}
use Rattle.std.proofs.lemmas.Int.{to_z-of_z, ints, fits_signed_from_abs}
use Rattle.ring_karatsuba.proofs.sums.with_term.Goals as goal

pub overflow_mul-result : goal.overflow_mul-result
overflow_mul-result c =
    let factor : FitsSigned w32 c.args.factor = c.ranges.factor in
    let number : FitsSigned w32 c.args.number = c.ranges.number in
    simp to_z-of_z (fits_signed_from_abs w32 (c.args.factor *ℤ c.args.number) (omega arith))

pub overflow_add-result : goal.overflow_add-result
overflow_add-result c =
    let sum : FitsSigned w32 c.args.sum = c.ranges.sum in
    let factor : FitsSigned w32 c.args.factor = c.ranges.factor in
    let number : FitsSigned w32 c.args.number = c.ranges.number in
    let product : FitsSigned w32 (c.args.factor *ℤ c.args.number) = fits_signed_from_abs w32 (c.args.factor *ℤ c.args.number) (omega arith) in
    simp to_z-of_z (fits_signed_from_abs w32 (c.args.sum +ℤ (c.args.factor *ℤ c.args.number)) (omega (arith, ints)))

pub returns : goal.returns
returns c =
    let sum : FitsSigned w32 c.args.sum = c.ranges.sum in
    let factor : FitsSigned w32 c.args.factor = c.ranges.factor in
    let number : FitsSigned w32 c.args.number = c.ranges.number in
    let product : FitsSigned w32 (c.args.factor *ℤ c.args.number) = fits_signed_from_abs w32 (c.args.factor *ℤ c.args.number) (omega arith) in
    let total : FitsSigned w32 (c.args.sum +ℤ (c.args.factor *ℤ c.args.number)) = fits_signed_from_abs w32 (c.args.sum +ℤ (c.args.factor *ℤ c.args.number)) (omega (arith, ints)) in
    simp to_z-of_z refl
