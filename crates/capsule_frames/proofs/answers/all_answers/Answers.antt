use Rattle.std.proofs.Common.{◌≡◌, ◌++◌, length, drop, take, map, Ok, ap, ◌∙◌, arith}
use Rattle.std.proofs.lemmas.Grind.{common_steps}
use Rattle.std.proofs.lemmas.List.{take_at}
use Rattle.std.proofs.lemmas.Result.{IfOk-weaker}
use Rattle.capsule_frames.specs.Orders.{jobs_from, given_for}
use Rattle.capsule_frames.proofs.Filling.{filled_are}
use Rattle.capsule_frames.proofs.answers.all_answers.Goals as goal

pub returns : goal.returns
returns g c =
    let plan = c.args.plan.now in
    let now = given_for plan.plan c.args.keys.now.replies c.args.asks.now in
    let jobs = c.deref.result.now in
    let empty = c.in_ok-slots.slots in
    let slots = c.fill.new.slots in
    let none = drop (length slots) empty.items in
    let count : length slots ≡ length jobs = grind (arith, common_steps) in
    let size : length slots ≡ empty.len = grind (arith, common_steps) in
    IfOk-weaker c.filled.result (λ v. map Ok v.items ≡ take empty.len (slots ++ none))
    (λ v. v.items ≡ map now (jobs_from 0 plan.lines))
    (λ v all. filled_are now jobs slots v.items count c.fill.ensures (all ∙ take_at slots none empty.len size)
    ∙ ap (map now) (c.deref.ensures.value ∙ c.in_ok-jobs.ensures.jobs))
    c.filled.ensures
