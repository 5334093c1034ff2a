use Rattle.std.proofs.Common.{rules, arith, ap}
use Rattle.std.specs.Prelude.{unsigned_abs}
use Rattle.std.specs.Int.{w32}
use Rattle.std.specs.Int.RustNames.{FitsSigned}
use Rattle.std.proofs.lemmas.Int.{to_z-of_z}
use Rattle.ring_core.specs.Product.{coefficients}
use Rattle.ring_core.proofs.Row.{RowDone-more}
use Rattle.ring_karatsuba.proofs.sums.add_multiple.Goals as goal

pub with_term-requires : goal.with_term-requires
with_term-requires c =
    let fits_sum : FitsSigned w32 (coefficients c.loop-j.sums c.loop-j.j) = search rules in
    let fits_number : FitsSigned w32 (coefficients c.args.list.now c.loop-j.j) = search rules in
    let fits_factor : FitsSigned w32 c.args.factor = c.ranges.factor in
    simp to_z-of_z (omega (
      arith,
      c.requires.fits c.loop-j.j,
      ap unsigned_abs (c.loop-j.invariant.left c.loop-j.j (omega arith)),
    ))

pub loop-j-preserved : goal.loop-j-preserved
loop-j-preserved c =
    let fits_sum : FitsSigned w32 (coefficients c.loop-j.sums c.loop-j.j) = search rules in
    let fits_number : FitsSigned w32 (coefficients c.args.list.now c.loop-j.j) = search rules in
    let fits_factor : FitsSigned w32 c.args.factor = c.ranges.factor in
    let fits_result : FitsSigned w32 c.with_term.result = search rules in
    let e = simp to_z-of_z at c.with_term.ensures in
    simp to_z-of_z (RowDone-more _ _ _ _ _ _ (omega arith) e (simp to_z-of_z at c.loop-j.invariant))
