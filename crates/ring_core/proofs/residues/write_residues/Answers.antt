use Rattle.std.proofs.Common.{arith, rules, ◌∙◌, take}
use Rattle.std.specs.Prelude.{unsigned_abs}
use Rattle.std.specs.Int.{w16, w32}
use Rattle.std.specs.Int.RustNames.{FitsSigned}
use Rattle.std.proofs.lemmas.Int.{to_z-of_z}
use Rattle.std.proofs.lemmas.List.{take_more_set}
use Rattle.ring_core.specs.Product.{coefficients}
use Rattle.ring_core.proofs.Reduce.{residue_list_more}
use Rattle.ring_core.proofs.residues.write_residues.Goals as goal

pub loop-k-preserved : goal.loop-k-preserved
loop-k-preserved c =
    let fits : FitsSigned w32 c.args.modulus = c.ranges.modulus in
    let fits_number : FitsSigned w32 (coefficients c.args.numbers.now c.loop-k.k) = search rules in
    let fits_residue : FitsSigned w16 c.residue.result = search rules in
    let value = simp to_z-of_z at c.residue.ensures in
    simp to_z-of_z (
    take_more_set c.loop-k.list c.loop-k.k c.residue.result (omega arith)
    ∙ residue_list_more (unsigned_abs c.args.modulus) (take c.loop-k.k c.loop-k.list) c.args.numbers.now c.loop-k.k c.residue.result (omega arith) value (simp to_z-of_z at c.loop-k.invariant)
    )
