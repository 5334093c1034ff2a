use Rattle.std.proofs.Common.{arith, ◌∙◌}
use Rattle.ring_core.specs.Product.{coefficients}
use Rattle.ring_core.proofs.Reduce.{modulus_back}
use Rattle.ring_core.proofs.ElementLaws.{IsCentred-residues}
use Rattle.ring_core.proofs.elements.Rq.from_sums.Goals as goal

pub invariant_of-result : goal.invariant_of-result
invariant_of-result g c =
    let laws = g.S.Params in
    let modulus = modulus_back c.Q.result laws.set.q (c.Q.ensures ∙ laws.modulus_is) laws.modulus_most in
    IsCentred-residues laws.set.q laws.set.p (coefficients c.args.sums.now) _ (omega (arith, laws.modulus_least)) (rw (modulus, c.P.ensures ∙ laws.degree_is) at c.in_ok-reduced.ensures)
