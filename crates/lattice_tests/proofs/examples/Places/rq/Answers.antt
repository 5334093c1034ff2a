use Rattle.std.proofs.Common.{rules, ◌≡◌, ◌∙◌, ap, length}
use Rattle.lattice_tests.specs.Examples.{placed}
use Rattle.lattice_tests.proofs.Placed.{length-placed}
use Rattle.lattice_tests.proofs.examples.Places.rq.Goals as goal

pub from_coefficients-requires : goal.from_coefficients-requires
from_coefficients-requires g c =
    let e : c.deref-2.result.now ≡ placed c.P.result c.args.self.now.ones.now c.args.self.now.minus_ones.now = search rules in
    ap length e
    ∙ length-placed c.P.result c.args.self.now.ones.now c.args.self.now.minus_ones.now
    ∙ c.P.ensures
    ∙ g.S.Params.degree_is
