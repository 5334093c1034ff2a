use Rattle.std.proofs.Common.{rules, ◌∙◌}
use Rattle.std.specs.Int.{w8}
use Rattle.std.specs.Int.RustNames.{FitsSigned}
use Rattle.std.proofs.lemmas.Int.{to_z-of_z}
use Rattle.lattice_tests.proofs.Placed.{placed-more}
use Rattle.lattice_tests.proofs.examples.Places.coefficients.Goals as goal

pub loop-k-preserved : goal.loop-k-preserved
loop-k-preserved c =
    let fits : FitsSigned w8 c.coefficient.result = search rules in
    let pushed = simp to_z-of_z at c.in_ok-push.ensures.items in
    pushed ∙ placed-more c.loop-k.k c.args.self.now.ones.now c.args.self.now.minus_ones.now _ c.coefficient.result c.loop-k.invariant c.coefficient.ensures
