use Rattle.std.proofs.Common.{arith, ◌∙◌}
use Rattle.ring_core.proofs.Reduce.{product_from_lists}
use Rattle.ring_karatsuba.proofs.Bounds.{AreParts-elements, IsWithin-elements}
use Rattle.ring_karatsuba.proofs.multiplier.KaratsubaMultiplier.mul_3.Goals as goal

pub convolution-requires-clause-parts : goal.convolution-requires-clause-parts
convolution-requires-clause-parts g c =
    let laws = g.S.Params in
    AreParts-elements 3 laws.set.p _ _ _ _ (omega arith) (omega arith) laws.degree_most c.as_slice-2.ensures.centred c.as_slice.ensures.centred (c.deref-2.ensures.value ∙ c.in_ok-long.ensures ∙ c.as_slice-2.ensures.list) (c.deref.ensures.value ∙ c.in_ok-small.ensures ∙ c.as_slice.ensures.list)

pub from_sums-requires-clause-bound : goal.from_sums-requires-clause-bound
from_sums-requires-clause-bound g c =
    let laws = g.S.Params in
    IsWithin-elements 3 laws.set.p _ _ _ _ _ _ (omega arith) (omega arith) laws.degree_most c.as_slice-2.ensures.centred c.as_slice.ensures.centred (c.deref-2.ensures.value ∙ c.in_ok-long.ensures ∙ c.as_slice-2.ensures.list) (c.deref.ensures.value ∙ c.in_ok-small.ensures ∙ c.as_slice.ensures.list) c.deref-3.ensures.value c.in_ok-sums.ensures.sums

pub returns : goal.returns
returns g c =
    let laws = g.S.Params in
    rw (product_from_lists 3 laws.set.p _ _ _ _ _ _ (c.deref-2.ensures.value ∙ c.in_ok-long.ensures ∙ c.as_slice-2.ensures.list) (c.deref.ensures.value ∙ c.in_ok-small.ensures ∙ c.as_slice.ensures.list) c.as_slice-2.ensures.centred.0 c.deref-3.ensures.value (λ i l. c.in_ok-sums.ensures.sums i)) at c.from_sums.ensures
