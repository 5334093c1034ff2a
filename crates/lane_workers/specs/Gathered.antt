-- What holds once every lane of a plan was served and every context is closed.
use Rattle.std.specs.Prelude.{ℕ, ◌≡◌, ◌<◌, List, [], length, flat_map, IsPermutation, slice_index_or, Option}
use Rattle.std.specs.List.{range_with_len}
use Rattle.call_places.specs.declared.entries.Entry.{Entry}
use Rattle.call_places.specs.declared.entries.Mark.{Mark}
use Rattle.call_places.specs.Entries.{stamps_of}
use Rattle.turn_lock.specs.Passes.{PassView}
use Rattle.hpke_context.specs.Contexts.{ContextView}
use Rattle.lane_workers.specs.Showing.{Closes}
use Rattle.batch_plans.specs.declared.plan.Plan.{Plan}
use Rattle.batch_plans.specs.declared.replies.LaneAnswers.{LaneAnswers}
use Rattle.batch_plans.specs.ReplyText.{numbered}
use Rattle.batch_plans.specs.AnswersText.{lanes_lines}
use Rattle.context_books.specs.Runs.{run_along, lane_call_lines, IsAllowed}
use Rattle.lane_workers.specs.Served.{seen_of, LaneIsServed}

-- a lane that isn't there answers nothing
abbrev pub no_answers : LaneAnswers
no_answers = record { pool = []; replies = []; batches = [] }

-- each lane was served, and these are its passes of all contexts and its answers
pub record AllLanesServed (plan : Plan) (contexts : List (Option ContextView))
    (passes : List (List (Option PassView))) (answers : List LaneAnswers) : Type 0 where
  pub passes_count : length passes ≡ length plan.lanes
  pub answers_count : length answers ≡ length plan.lanes
  pub each : (lane : ℕ) → lane < length plan.lanes
      → LaneIsServed plan contexts lane (slice_index_or passes lane [])
      (slice_index_or answers lane no_answers)

-- each context is closed over the lanes' passes, and the counter gave the stamps of all of them
pub record AllClosed (plan : Plan) (passes : List (List (Option PassView)))
    (books : List (List Entry)) : Type 0 where
  pub count : length books ≡ length plan.contexts
  pub closes : (context : ℕ) → Closes (length plan.lanes)
      (λ lane. seen_of (slice_index_or passes lane []) context) (slice_index_or books context [])
  pub stamps : ℕ
  pub given : IsPermutation (flat_map stamps_of books) (range_with_len 0 stamps)

-- with some guesses these answers and journals are those of a run that is allowed
pub record AreOfARun (plan : Plan) (contexts : List (Option ContextView))
    (answers : List LaneAnswers) (journals : List (List Mark)) : Type 0 where
  pub guesses : List (List ℕ)
  pub allowed : IsAllowed (run_along plan contexts journals guesses)
  pub lines : lanes_lines plan.lanes answers
      ≡ numbered (lane_call_lines (run_along plan contexts journals guesses)) 0 plan.lanes
