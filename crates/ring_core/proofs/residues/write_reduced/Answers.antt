use Rattle.std.proofs.Common.{arith, rules, ◌∙◌, ap, length, take}
use Rattle.std.specs.Prelude.{unsigned_abs}
use Rattle.std.specs.Int.{w16, w32}
use Rattle.std.specs.Int.RustNames.{FitsSigned}
use Rattle.std.proofs.lemmas.Int.{to_z-of_z}
use Rattle.std.proofs.lemmas.List.{take_more_set}
use Rattle.ring_core.specs.Product.{centred, coefficients}
use Rattle.ring_core.proofs.Reduce.{residues_more}
use Rattle.ring_core.proofs.residues.write_reduced.Goals as goal

pub loop-k-preserved : goal.loop-k-preserved
loop-k-preserved c =
    let fits : FitsSigned w32 c.args.modulus = c.ranges.modulus in
    let fits_sum : FitsSigned w32 c.wrapped_sum.result = search rules in
    let fits_residue : FitsSigned w16 c.residue.result = search rules in
    let value = simp to_z-of_z at c.residue.ensures in
    simp to_z-of_z (
    take_more_set c.loop-k.list c.loop-k.k c.residue.result (omega arith)
    ∙ residues_more (unsigned_abs c.args.modulus) (length c.args.list.now) (coefficients c.args.sums.now) (take c.loop-k.k c.loop-k.list) c.loop-k.k c.residue.result (value ∙ ap (λ t. centred (unsigned_abs c.args.modulus) t) c.wrapped_sum.ensures.sum) (simp to_z-of_z at c.loop-k.invariant)
    )
