use Rattle.std.proofs.Common.{arith, ◌∙◌, refl}
use Rattle.ring_core.specs.PrimeInverses.{inverses_3}
use Rattle.ring_core.proofs.ElementLaws.{length_least, length_most}
use Rattle.ring_inverse.specs.Reciprocals.{IsInverse, IsAnnihilator}
use Rattle.ring_inverse.proofs.ReciprocalLaws.{answer_of_element, exactly_inverse, exactly_annihilator}
use Rattle.ring_inverse.proofs.reciprocal.eliminated_3.Goals as goal

pub eliminate-requires-clause-some : goal.eliminate-requires-clause-some
eliminate-requires-clause-some g c =
    let list = c.deref.ensures.value ∙ c.in_ok-list.ensures ∙ c.as_slice.ensures.list in
    length_least _ _ _ _ list c.as_slice.ensures.centred.0 (omega (arith, g.S.Params.degree_least))

pub eliminate-requires-clause-few : goal.eliminate-requires-clause-few
eliminate-requires-clause-few g c =
    let list = c.deref.ensures.value ∙ c.in_ok-list.ensures ∙ c.as_slice.ensures.list in
    length_most _ _ _ _ list c.as_slice.ensures.centred.0 g.S.Params.degree_most

pub eliminate-requires-clause-inverses : goal.eliminate-requires-clause-inverses
eliminate-requires-clause-inverses g c = inverses_3

pub small-requires : goal.small-requires
small-requires g c =
    let list = c.deref.ensures.value ∙ c.in_ok-list.ensures ∙ c.as_slice.ensures.list in
    let answer = answer_of_element IsInverse 3 _ _ _ _ _ refl list c.as_slice.ensures.centred.0 (rw c.in-Inverse.is at c.in_ok-v.ensures.inverse) in
    answer.0

pub small-requires-in-Annihilator : goal.small-requires-in-Annihilator
small-requires-in-Annihilator g c =
    let list = c.deref.ensures.value ∙ c.in_ok-list.ensures ∙ c.as_slice.ensures.list in
    let answer = answer_of_element IsAnnihilator 3 _ _ _ _ _ refl list c.as_slice.ensures.centred.0 (rw c.in-Annihilator.is at c.in_ok-v.ensures.annihilator) in
    answer.0

pub returns-in-Inverse-clause-exactly : goal.returns-in-Inverse-clause-exactly
returns-in-Inverse-clause-exactly g c =
    let list = c.deref.ensures.value ∙ c.in_ok-list.ensures ∙ c.as_slice.ensures.list in
    let answer = answer_of_element IsInverse 3 _ _ _ _ _ refl list c.as_slice.ensures.centred.0 (rw c.in-Inverse.is at c.in_ok-v.ensures.inverse) in
    exactly_inverse 3 g.S.Params.set.p c.args.a.now _ answer

pub returns-clause-exactly : goal.returns-clause-exactly
returns-clause-exactly g c =
    let list = c.deref.ensures.value ∙ c.in_ok-list.ensures ∙ c.as_slice.ensures.list in
    let answer = answer_of_element IsAnnihilator 3 _ _ _ _ _ refl list c.as_slice.ensures.centred.0 (rw c.in-Annihilator.is at c.in_ok-v.ensures.annihilator) in
    exactly_annihilator 3 g.S.Params.set.p _ _ (omega arith) g.S.Params.degree_least c.as_slice.ensures.centred.0 answer
