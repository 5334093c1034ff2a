-- Answers that are those of a run whose lanes add and retire contexts.
use Rattle.std.specs.Prelude.{ℕ, ◌≡◌, List, Option}
use Rattle.hpke_context.specs.Contexts.{ContextView}
use Rattle.batch_plans.specs.declared.plan.Plan.{Plan}
use Rattle.batch_plans.specs.declared.replies.Answers.{Answers}
use Rattle.batch_plans.specs.ReplyText.{numbered}
use Rattle.batch_plans.specs.AnswersText.{lanes_given}
use Rattle.context_books.specs.Live.{LiveRun, live_run_along, IsAllowedLive, live_lane_lines}

-- the run of these answers, with these guesses
abbrev pub live_run : Plan → List (Option ContextView) → Answers → List (List ℕ) → LiveRun
live_run plan standing answers guesses =
    live_run_along plan answers.contexts standing answers.journals guesses answers.notes

-- with some guesses the answers are those of a run that is allowed
pub record IsALiveRun (plan : Plan) (standing : List (Option ContextView)) (answers : Answers)
    : Type 0 where
  pub guesses : List (List ℕ)
  pub allowed : IsAllowedLive (live_run plan standing answers guesses)
  pub lines : lanes_given plan.lanes answers.lanes
      ≡ numbered (live_lane_lines (live_run plan standing answers guesses)) 0 plan.lanes
