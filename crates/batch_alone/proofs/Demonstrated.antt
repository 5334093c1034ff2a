-- The lanes of a demonstration, served one after another: a rehearsal is a run that is allowed.
use Rattle.std.proofs.Common.{◌≡◌, ℕ, List, Option, subst, sym}
use Rattle.hpke_context.specs.Contexts.{ContextView}
use Rattle.call_places.specs.declared.entries.Mark.{Mark}
use Rattle.batch_plans.specs.declared.plan.Plan.{Plan}
use Rattle.batch_plans.specs.declared.replies.Answers.{Answers}
use Rattle.batch_plans.specs.ReplyText.{numbered}
use Rattle.batch_plans.specs.AnswersText.{lanes_lines}
use Rattle.context_books.specs.Runs.{IsAllowed, lane_call_lines, run_along}
use Rattle.context_core.specs.Rehearsals.{rehearsed, AreAnswersOf}
use Rattle.demo_runs.specs.Batches.{AnswersARun}

pub answers_a_run : (plan : Plan) (contexts : List (Option ContextView)) (schedule : List ℕ) (answers : Answers)
    → IsAllowed (rehearsed plan contexts schedule) → AreAnswersOf (rehearsed plan contexts schedule) answers
    → AnswersARun plan contexts answers
answers_a_run plan contexts schedule answers allowed are =
    let guesses = (rehearsed plan contexts schedule).guesses in
    let same = sym are.journals in
    let HasLines : List (List Mark) → Type 0 =
    λ journals. lanes_lines plan.lanes answers.lanes ≡ numbered (lane_call_lines (run_along plan contexts journals guesses)) 0 plan.lanes in
    record {
      guesses = guesses;
      allowed = subst (λ (journals : List (List Mark)). IsAllowed (run_along plan contexts journals guesses)) same allowed;
      lines = subst HasLines same are.lanes;
    }
