use Rattle.std.proofs.Common.{◌≡◌, ◌<◌, length, subst, arith, rules, ◌∙◌}
use Rattle.std.specs.Prelude.{IfOk}
use Rattle.std.proofs.lemmas.Option.{slice_get_within, get_or_from_slice_get}
use Rattle.capsule_frames.specs.Orders.{given_for}
use Rattle.capsule_frames.proofs.answers.Gateway.fill.Goals as goal

pub returns : goal.returns
returns g c = λ i job slot ej es.
    let self = c.args.self.now in
    let now = given_for self.plan.now self.keys.now.replies self.asks.now job in
    let within : i < length c.args.slots.now =
    omega (arith, slice_get_within c.args.jobs.now i job ej, c.requires.count) in
    let fact = (c.for_each_mut.ensures i slot within).1 in
    let right : IfOk fact.after_call.now (λ became. became ≡ now) = search rules in
    subst (λ left. IfOk left (λ became. became ≡ now))
    (fact.left ∙ get_or_from_slice_get c.for_each_mut.new.s i slot slot es) right
