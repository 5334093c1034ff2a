use Rattle.std.proofs.Common.{◌∙◌, ap, length}
use Rattle.ring_core.proofs.ElementLaws.{length_least, length_most}
use Rattle.ring_inverse.proofs.quick.quick_3.Goals as goal

pub candidate_3-requires-clause-some : goal.candidate_3-requires-clause-some
candidate_3-requires-clause-some g c =
    length_least _ _ _ _ c.as_slice.ensures.list c.as_slice.ensures.centred.0 g.S.Params.degree_least

pub candidate_3-requires-clause-few : goal.candidate_3-requires-clause-few
candidate_3-requires-clause-few g c =
    length_most _ _ _ _ c.as_slice.ensures.list c.as_slice.ensures.centred.0 g.S.Params.degree_most

pub from_vec-v-requires-clause-count : goal.from_vec-v-requires-clause-count
from_vec-v-requires-clause-count g c =
    c.in_ok-candidate_3.ensures.count ∙ ap length c.as_slice.ensures.list ∙ c.as_slice.ensures.centred.0
