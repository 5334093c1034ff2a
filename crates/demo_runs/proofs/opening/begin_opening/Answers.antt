use Rattle.std.proofs.Common.{List, ℕ, subst}
use Rattle.std.proofs.lemmas.Result.{IfOk-weaker}
use Rattle.demo_runs.specs.Batches.{IsBegun, IsOpening}
use Rattle.demo_runs.proofs.SecondBatch.{opens}
use Rattle.demo_runs.proofs.opening.begin_opening.Goals as goal

pub returns : goal.returns
returns c =
    IfOk-weaker c.begin.result (IsBegun c.in_ok-plan.plan) (IsOpening c.args.seed c.args.cts.now)
    (λ batch begun. opens c.args.seed c.args.cts.now c.in_ok-plan.plan batch
    (subst (λ (cts : List (List ℕ)). Rattle.demo_runs.specs.Plans.IsOpeningPlan c.args.seed cts c.in_ok-plan.plan)
    c.as_slice.ensures.items c.in_ok-plan.ensures.plan) begun)
    c.begin.ensures
