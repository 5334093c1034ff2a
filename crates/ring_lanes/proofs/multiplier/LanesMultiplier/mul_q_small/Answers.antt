use Rattle.std.proofs.Common.{arith, ◌∙◌}
use Rattle.ring_core.proofs.Reduce.{product_from_lists}
use Rattle.ring_lanes.proofs.Residues.{IsCentred-within}
use Rattle.ring_lanes.proofs.multiplier.LanesMultiplier.mul_q_small.Goals as goal

pub convolution-requires-clause-long_small : goal.convolution-requires-clause-long_small
convolution-requires-clause-long_small g c =
    let laws = g.S.Params in
    rw c.as_slice-2.ensures.list (IsCentred-within laws.set.q laws.set.p c.args.a.now (omega (arith, laws.modulus_least)) laws.modulus_most c.as_slice-2.ensures.centred)

pub returns : goal.returns
returns g c =
    rw (product_from_lists g.S.Params.set.q g.S.Params.set.p _ _ _ _ _ _ c.as_slice-2.ensures.list (c.deref.ensures.value ∙ c.in_ok-small_to_16.ensures ∙ c.as_slice.ensures.list) c.as_slice-2.ensures.centred.0 c.deref-2.ensures.value c.in_ok-sums.ensures.sums) at c.from_sums.ensures
