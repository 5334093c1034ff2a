use Rattle.std.proofs.Common.{arith, length, ◌+◌, ◌-◌}
use Rattle.std.specs.Int.{w32}
use Rattle.std.specs.Int.RustNames.{FitsSigned}
use Rattle.std.proofs.lemmas.Int.{to_z-of_z}
use Rattle.ring_karatsuba.proofs.Terms.{part_fits, put_adds}
use Rattle.ring_karatsuba.proofs.sums.add_at.Goals as goal

pub add_multiple-requires-clause-fits : goal.add_multiple-requires-clause-fits
add_multiple-requires-clause-fits c =
    let fits_factor : FitsSigned w32 c.args.factor = c.ranges.factor in
    simp to_z-of_z (part_fits c.args.sums.now c.args.list.now c.args.k (c.args.k + length c.args.list.now - c.args.k) c.args.factor (omega arith) (omega arith) c.requires.fits)

pub returns : goal.returns
returns c =
    let fits_factor : FitsSigned w32 c.args.factor = c.ranges.factor in
    let added = simp to_z-of_z at c.add_multiple.ensures in
    put_adds c.args.sums.now _ c.args.list.now c.args.k (c.args.k + length c.args.list.now - c.args.k) c.args.factor (omega arith) (omega arith) (omega arith) added
