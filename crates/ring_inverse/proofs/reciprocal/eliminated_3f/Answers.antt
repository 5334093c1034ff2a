use Rattle.std.proofs.Common.{arith, ◌∙◌, ap}
use Rattle.ring_core.proofs.ElementLaws.{length_least, length_most}
use Rattle.ring_inverse.specs.Reciprocals.{triple, IsInverse, IsAnnihilator}
use Rattle.ring_inverse.proofs.ReciprocalLaws.{answer_of_element, exactly_inverse, exactly_annihilator}
use Rattle.ring_inverse.proofs.TripleLaws.{length-triple}
use Rattle.ring_inverse.proofs.reciprocal.eliminated_3f.Goals as goal

pub eliminate-requires-clause-some : goal.eliminate-requires-clause-some
eliminate-requires-clause-some g c =
    let list = c.deref.ensures.value ∙ c.in_ok-list.ensures ∙ ap triple c.as_slice.ensures.list in
    let long = length-triple _ _ c.as_slice.ensures.centred.0 in
    length_least _ _ _ _ list long (omega (arith, g.S.Params.degree_least))

pub eliminate-requires-clause-few : goal.eliminate-requires-clause-few
eliminate-requires-clause-few g c =
    let list = c.deref.ensures.value ∙ c.in_ok-list.ensures ∙ ap triple c.as_slice.ensures.list in
    let long = length-triple _ _ c.as_slice.ensures.centred.0 in
    length_most _ _ _ _ list long g.S.Params.degree_most

pub eliminate-requires-clause-modulus_least : goal.eliminate-requires-clause-modulus_least
eliminate-requires-clause-modulus_least g c =
    omega (arith, c.modulus.ensures, g.S.Params.modulus_least)

pub eliminate-requires-clause-inverses : goal.eliminate-requires-clause-inverses
eliminate-requires-clause-inverses g c = rw c.modulus.ensures g.S.Params.inverses

pub from_vec-requires : goal.from_vec-requires
from_vec-requires g c =
    let list = c.deref.ensures.value ∙ c.in_ok-list.ensures ∙ ap triple c.as_slice.ensures.list in
    let long = length-triple _ _ c.as_slice.ensures.centred.0 in
    let answer = answer_of_element IsInverse _ _ _ _ _ _ c.modulus.ensures list long (rw c.in-Inverse.is at c.in_ok-v.ensures.inverse) in
    answer.0

pub from_vec-requires-in-Annihilator : goal.from_vec-requires-in-Annihilator
from_vec-requires-in-Annihilator g c =
    let list = c.deref.ensures.value ∙ c.in_ok-list.ensures ∙ ap triple c.as_slice.ensures.list in
    let long = length-triple _ _ c.as_slice.ensures.centred.0 in
    let answer = answer_of_element IsAnnihilator _ _ _ _ _ _ c.modulus.ensures list long (rw c.in-Annihilator.is at c.in_ok-v.ensures.annihilator) in
    answer.0

pub returns-in-Inverse-clause-inverse : goal.returns-in-Inverse-clause-inverse
returns-in-Inverse-clause-inverse g c =
    let list = c.deref.ensures.value ∙ c.in_ok-list.ensures ∙ ap triple c.as_slice.ensures.list in
    let long = length-triple _ _ c.as_slice.ensures.centred.0 in
    let answer = answer_of_element IsInverse _ _ _ _ _ _ c.modulus.ensures list long (rw c.in-Inverse.is at c.in_ok-v.ensures.inverse) in
    rw c.from_vec.ensures answer.1

pub returns-in-Inverse-clause-exactly : goal.returns-in-Inverse-clause-exactly
returns-in-Inverse-clause-exactly g c =
    let list = c.deref.ensures.value ∙ c.in_ok-list.ensures ∙ ap triple c.as_slice.ensures.list in
    let long = length-triple _ _ c.as_slice.ensures.centred.0 in
    let answer = answer_of_element IsInverse _ _ _ _ _ _ c.modulus.ensures list long (rw c.in-Inverse.is at c.in_ok-v.ensures.inverse) in
    exactly_inverse g.S.Params.set.q g.S.Params.set.p (triple c.args.f.now) _ answer

pub returns-clause-exactly : goal.returns-clause-exactly
returns-clause-exactly g c =
    let list = c.deref.ensures.value ∙ c.in_ok-list.ensures ∙ ap triple c.as_slice.ensures.list in
    let long = length-triple _ _ c.as_slice.ensures.centred.0 in
    let answer = answer_of_element IsAnnihilator _ _ _ _ _ _ c.modulus.ensures list long (rw c.in-Annihilator.is at c.in_ok-v.ensures.annihilator) in
    exactly_annihilator g.S.Params.set.q g.S.Params.set.p _ _ (omega (arith, g.S.Params.modulus_least)) g.S.Params.degree_least long answer
