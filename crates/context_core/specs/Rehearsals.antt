-- The run of a plan whose lanes take their steps by a schedule, and answers that are those of a run.
use Rattle.std.specs.Prelude.{ℕ, ◌≡◌, List, [], length, map, Option, Some, slice_get, slice_index_or}
use Rattle.hpke_context.specs.Contexts.{ContextView}
use Rattle.context_books.specs.Histories.{journals_of}
use Rattle.context_core.specs.Core.{Lane, core}
use Rattle.batch_plans.specs.declared.plan.Plan.{Plan}
use Rattle.batch_plans.specs.declared.replies.Answers.{Answers}
use Rattle.batch_plans.specs.declared.replies.LaneAnswers.{LaneAnswers}
use Rattle.batch_plans.specs.ReplyText.{numbered}
use Rattle.batch_plans.specs.AnswersText.{lanes_lines, UsesUp}
use Rattle.context_books.specs.Asks.{batch_of, cipher_at}
use Rattle.context_books.specs.Runs.{Run, lane_call_lines}

-- The run of a plan over the contexts that stand, after the events of a schedule and then all that is
-- left. The stamp of a place is how many places of all journals were given before it.
abbrev pub rehearsed : Plan → List (Option ContextView) → List ℕ → Run
rehearsed plan contexts schedule =
    let last = core (batch_of plan contexts) (cipher_at contexts) schedule in
    record {
      plan = plan;
      contexts = contexts;
      journals = journals_of (length plan.contexts) last.history;
      guesses = map (λ (lane : Lane). lane.guesses) last.lanes;
    }

-- the answers of the lanes have the lines of the run, and its journals
pub record AreAnswersOf (run : Run) (answers : Answers) : Type 0 where
  pub lanes : lanes_lines run.plan.lanes answers.lanes
      ≡ numbered (lane_call_lines run) 0 run.plan.lanes
  -- each reply and each guess is a call's
  pub used : (lane : ℕ) (given : LaneAnswers) → slice_get answers.lanes lane ≡ Some given
      → UsesUp (slice_index_or run.plan.lanes lane []) given.replies given.batches
  pub journals : answers.journals ≡ run.journals
