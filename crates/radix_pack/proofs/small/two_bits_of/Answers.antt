use Rattle.std.proofs.Common.{arith, ap, pos, negsuc}
use Rattle.std.specs.Prelude.{◌+ℤ◌, unsigned_abs}
use Rattle.std.specs.Int.{w8}
use Rattle.std.specs.Int.RustNames.{FitsSigned}
use Rattle.std.proofs.lemmas.Int.{to_z-of_z, ints, fits_signed_from_abs}
use Rattle.std.proofs.lemmas.List.{get_or_default}
use Rattle.ring_core.specs.Product.{coefficients}
use Rattle.radix_pack.proofs.small.two_bits_of.Goals as goal

pub overflow_add-result : goal.overflow_add-result
overflow_add-result c =
    let fits : FitsSigned w8 (coefficients c.args.coefficients.now c.args.k) = fits_signed_from_abs w8 (coefficients c.args.coefficients.now c.args.k) (omega (arith, c.requires c.args.k)) in
    simp to_z-of_z (fits_signed_from_abs w8 (coefficients c.args.coefficients.now c.args.k +ℤ pos 1) (omega (arith, ints, c.requires c.args.k)))

pub returns-then-k-coefficients-clause-two : goal.returns-then-k-coefficients-clause-two
returns-then-k-coefficients-clause-two c =
    let fits : FitsSigned w8 (coefficients c.args.coefficients.now c.args.k) = fits_signed_from_abs w8 (coefficients c.args.coefficients.now c.args.k) (omega (arith, c.requires c.args.k)) in
    let sum : FitsSigned w8 (coefficients c.args.coefficients.now c.args.k +ℤ pos 1) = fits_signed_from_abs w8 (coefficients c.args.coefficients.now c.args.k +ℤ pos 1) (omega (arith, ints, c.requires c.args.k)) in
    simp to_z-of_z (omega (arith, ints, c.requires c.args.k))

pub returns-then-k-coefficients-clause-bits : goal.returns-then-k-coefficients-clause-bits
returns-then-k-coefficients-clause-bits c =
    let fits : FitsSigned w8 (coefficients c.args.coefficients.now c.args.k) = fits_signed_from_abs w8 (coefficients c.args.coefficients.now c.args.k) (omega (arith, c.requires c.args.k)) in
    let sum : FitsSigned w8 (coefficients c.args.coefficients.now c.args.k +ℤ pos 1) = fits_signed_from_abs w8 (coefficients c.args.coefficients.now c.args.k +ℤ pos 1) (omega (arith, ints, c.requires c.args.k)) in
    simp to_z-of_z (ap (λ z. unsigned_abs (z +ℤ pos 1)) (get_or_default c.args.coefficients.now c.args.k (pos 0) (negsuc 0) c.if-k-coefficients.true))
