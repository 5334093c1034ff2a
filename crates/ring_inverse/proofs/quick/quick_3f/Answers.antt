use Rattle.std.proofs.Common.{arith, ◌∙◌, ap, length}
use Rattle.ring_core.proofs.ElementLaws.{length_least, length_most}
use Rattle.ring_inverse.proofs.quick.quick_3f.Goals as goal

pub candidate_3f-requires-clause-some : goal.candidate_3f-requires-clause-some
candidate_3f-requires-clause-some g c =
    length_least _ _ _ _ c.as_slice.ensures.list c.as_slice.ensures.centred.0 g.S.Params.degree_least

pub candidate_3f-requires-clause-few : goal.candidate_3f-requires-clause-few
candidate_3f-requires-clause-few g c =
    length_most _ _ _ _ c.as_slice.ensures.list c.as_slice.ensures.centred.0 g.S.Params.degree_most

pub candidate_3f-requires-clause-modulus_most : goal.candidate_3f-requires-clause-modulus_most
candidate_3f-requires-clause-modulus_most g c =
    omega (arith, c.modulus.ensures, g.S.Params.modulus_most)

pub from_coefficients-requires : goal.from_coefficients-requires
from_coefficients-requires g c =
    c.deref.ensures.len ∙ c.in_ok-numbers.ensures ∙ ap length c.as_slice.ensures.list ∙ c.as_slice.ensures.centred.0
