-- The lanes of a demonstration, served by threads.
use Rattle.std.proofs.Common.{List, Option}
use Rattle.hpke_context.specs.Contexts.{ContextView}
use Rattle.batch_plans.specs.declared.plan.Plan.{Plan}
use Rattle.batch_plans.specs.declared.replies.Answers.{Answers}
use Rattle.lane_workers.specs.Gathered.{AreOfARun}
use Rattle.demo_runs.specs.Batches.{AnswersARun}

pub answers_a_run : (plan : Plan) (contexts : List (Option ContextView)) (answers : Answers)
    → AreOfARun plan contexts answers.lanes answers.journals → AnswersARun plan contexts answers
answers_a_run plan contexts answers run =
    record { guesses = run.guesses; allowed = run.allowed; lines = run.lines }
