use Rattle.std.proofs.Common.{arith, ◌≡◌, ◌-◌, ◌/◌, ◌<◌, pos, ◌∙◌}
use Rattle.std.specs.Prelude.{◌-ℤ◌, unsigned_abs}
use Rattle.std.specs.Int.{w32}
use Rattle.std.specs.Int.RustNames.{FitsSigned, int_rem}
use Rattle.std.proofs.lemmas.Int.{ints, fits_signed_from_abs, rem_is, rem_below}
use Rattle.ring_core.specs.Product.{centred}
use Rattle.ring_core.proofs.Reduce.{moved, moved_is, moved_low, moved_fits, back_quot_fits, centred_from, centred_within}
use Rattle.ring_core.proofs.residues.centred_rest.Goals as goal

pub nonzero_rem-result : goal.nonzero_rem-result
nonzero_rem-result c =
    let m = c.args.modulus in
    let fits : FitsSigned w32 (moved c.args.rest m) = moved_fits c.args.rest m c.requires.rest c.requires.modulus_least c.requires.modulus_most in
    (omega (arith, ints), back_quot_fits (moved c.args.rest m) m fits c.ranges.modulus c.requires.modulus_least)

pub overflow_sub-result : goal.overflow_sub-result
overflow_sub-result c =
    let m = c.args.modulus in
    let z = moved c.args.rest m in
    let fits : FitsSigned w32 z = moved_fits c.args.rest m c.requires.rest c.requires.modulus_least c.requires.modulus_most in
    let low : unsigned_abs (int_rem z m) < unsigned_abs m = rem_below z m (omega (arith, ints)) in
    rw (rem_is w32 z m fits c.ranges.modulus) (fits_signed_from_abs w32 _ (omega (arith, ints)))

pub returns-clause-value : goal.returns-clause-value
returns-clause-value c =
    let m = c.args.modulus in
    let z = moved c.args.rest m in
    let fits : FitsSigned w32 z = moved_fits c.args.rest m c.requires.rest c.requires.modulus_least c.requires.modulus_most in
    let low : unsigned_abs (int_rem z m) < unsigned_abs m = rem_below z m (omega (arith, ints)) in
    let value : int_rem z m -ℤ pos ((unsigned_abs m - 1) / 2) ≡ centred (unsigned_abs m) c.args.rest =
    centred_from m c.args.rest z c.requires.modulus_least (moved_low c.args.rest m c.requires.rest c.requires.modulus_least c.requires.modulus_most) (moved_is c.args.rest m c.requires.rest c.requires.modulus_least c.requires.modulus_most)
    in
    rw (rem_is w32 z m fits c.ranges.modulus) (omega (arith, ints) ∙ value)

pub returns-clause-bound : goal.returns-clause-bound
returns-clause-bound c =
    rw (returns-clause-value c) (centred_within (unsigned_abs c.args.modulus) c.args.rest (omega (arith, ints)) (omega (arith, ints)))
