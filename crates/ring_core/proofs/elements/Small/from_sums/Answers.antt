use Rattle.std.proofs.Common.{arith, ◌≡◌, ◌∙◌, ◌<◌}
use Rattle.ring_core.specs.Product.{coefficients}
use Rattle.ring_core.proofs.ElementLaws.{IsCentred-small, IsCentred-residues}
use Rattle.ring_core.proofs.elements.Small.from_sums.Goals as goal

pub narrowed-requires : goal.narrowed-requires
narrowed-requires g c =
    let three : 0 < 3 = omega arith in
    IsCentred-small c.P.result c.deref.result.now (IsCentred-residues 3 c.P.result (coefficients c.args.sums.now) c.deref.result.now three (c.deref.ensures.value ∙ c.in_ok-wide.ensures))

pub invariant_of-result : goal.invariant_of-result
invariant_of-result g c =
    let three : 0 < 3 = omega arith in
    let p : c.P.result ≡ g.S.Params.set.p = c.P.ensures ∙ g.S.Params.degree_is in
    let e = c.in_ok-narrowed.ensures ∙ c.deref.ensures.value ∙ c.in_ok-wide.ensures in
    IsCentred-residues 3 g.S.Params.set.p (coefficients c.args.sums.now) _ three (rw p at e)
