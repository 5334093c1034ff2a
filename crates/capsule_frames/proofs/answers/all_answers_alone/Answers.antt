use Rattle.std.proofs.Common.{◌≡◌, map, ap, ◌∙◌}
use Rattle.std.proofs.lemmas.Result.{IfOk-weaker}
use Rattle.capsule_frames.specs.Orders.{jobs_from, given_for}
use Rattle.capsule_frames.proofs.answers.all_answers_alone.Goals as goal

pub returns : goal.returns
returns g c =
    let plan = c.args.plan.now in
    let now = given_for plan.plan c.args.keys.now.replies c.args.asks.now in
    IfOk-weaker c.alone.result (λ v. v.items ≡ map now c.deref.result.now)
    (λ v. v.items ≡ map now (jobs_from 0 plan.lines))
    (λ v all. all ∙ ap (map now) (c.deref.ensures.value ∙ c.in_ok-jobs.ensures.jobs))
    c.alone.ensures
