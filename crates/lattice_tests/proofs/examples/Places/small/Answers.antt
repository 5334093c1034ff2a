use Rattle.std.proofs.Common.{rules, List, ℤ, ◌≡◌, ◌∙◌, ap, length, vec_len, subst, sym}
use Rattle.ring_core.specs.Bounds.{IsWithin}
use Rattle.lattice_tests.specs.Examples.{placed}
use Rattle.lattice_tests.proofs.Placed.{length-placed, IsWithin-placed}
use Rattle.lattice_tests.proofs.examples.Places.small.Goals as goal

pub from_vec-requires-clause-count : goal.from_vec-requires-clause-count
from_vec-requires-clause-count g c =
    let e : c.expect-list.result.items ≡ placed c.P.result c.args.self.now.ones.now c.args.self.now.minus_ones.now = search rules in
    let counted : vec_len c.expect-list.result ≡ length c.expect-list.result.items = search rules in
    counted
    ∙ ap length e
    ∙ length-placed c.P.result c.args.self.now.ones.now c.args.self.now.minus_ones.now
    ∙ c.P.ensures
    ∙ g.S.Params.degree_is

pub from_vec-requires-clause-small : goal.from_vec-requires-clause-small
from_vec-requires-clause-small g c =
    let e : c.expect-list.result.items ≡ placed c.P.result c.args.self.now.ones.now c.args.self.now.minus_ones.now = search rules in
    let P : List ℤ → Type 0 = λ xs. IsWithin 1 xs in
    subst P (sym e) (IsWithin-placed c.P.result c.args.self.now.ones.now c.args.self.now.minus_ones.now)
