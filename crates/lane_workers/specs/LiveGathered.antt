-- What holds once every lane of a plan was served whose lanes add and retire contexts, and every
-- context and the table are closed.
use Rattle.std.specs.Prelude.{ℕ, ◌≡◌, ◌<◌, List, [], ◌++◌, length, flat_map, IsPermutation, slice_index_or, Option}
use Rattle.std.specs.List.{range_with_len}
use Rattle.call_places.specs.declared.entries.Entry.{Entry}
use Rattle.call_places.specs.declared.entries.Mark.{Mark}
use Rattle.call_places.specs.Entries.{stamps_of}
use Rattle.call_places.specs.Notes.{AreLive}
use Rattle.turn_lock.specs.Passes.{PassView}
use Rattle.hpke_context.specs.Contexts.{ContextView}
use Rattle.lane_workers.specs.Showing.{Closes}
use Rattle.batch_plans.specs.declared.plan.Plan.{Plan}
use Rattle.batch_plans.specs.declared.replies.ContextReply.{ContextReply}
use Rattle.batch_plans.specs.declared.replies.LaneAnswers.{LaneAnswers}
use Rattle.batch_plans.specs.ReplyText.{numbered}
use Rattle.batch_plans.specs.AnswersText.{lanes_given}
use Rattle.context_books.specs.Live.{live_run_along, live_lane_lines, IsAllowedLive}
use Rattle.lane_workers.specs.Served.{seen_of}
use Rattle.lane_workers.specs.LiveServed.{LiveLaneIsServed}
use Rattle.lane_workers.specs.Gathered.{no_answers}

-- each lane was served, and these are what it has seen of the table, its passes of all contexts and
-- its answers
pub record AllLiveLanesServed (plan : Plan) (replies : List ContextReply)
    (standing : List (Option ContextView)) (tables : List (List Entry))
    (passes : List (List (Option PassView))) (answers : List LaneAnswers) : Type 0 where
  pub tables_count : length tables ≡ length plan.lanes
  pub passes_count : length passes ≡ length plan.lanes
  pub answers_count : length answers ≡ length plan.lanes
  pub each : (lane : ℕ) → lane < length plan.lanes
      → LiveLaneIsServed plan replies standing lane (slice_index_or tables lane [])
      (slice_index_or passes lane []) (slice_index_or answers lane no_answers)

-- each context is closed over the lanes' passes, and the table over what the lanes have seen of it;
-- the counter gave the stamps of all of them
pub record AllLiveClosed (plan : Plan) (tables : List (List Entry))
    (passes : List (List (Option PassView))) (books : List (List Entry)) (notes : List Entry)
    : Type 0 where
  pub count : length books ≡ length plan.contexts
  pub closes : (context : ℕ) → Closes (length plan.lanes)
      (λ lane. seen_of (slice_index_or passes lane []) context) (slice_index_or books context [])
  pub table : Closes (length plan.lanes) (λ lane. slice_index_or tables lane []) notes
  pub live : AreLive notes
  pub stamps : ℕ
  pub given : IsPermutation (flat_map stamps_of books ++ stamps_of notes) (range_with_len 0 stamps)

-- with some guesses these answers, journals and notes are those of a run that is allowed
pub record AreOfALiveRun (plan : Plan) (replies : List ContextReply)
    (standing : List (Option ContextView)) (answers : List LaneAnswers)
    (journals : List (List Mark)) (notes : List Entry) : Type 0 where
  pub guesses : List (List ℕ)
  pub allowed : IsAllowedLive (live_run_along plan replies standing journals guesses notes)
  pub lines : lanes_given plan.lanes answers
      ≡ numbered (live_lane_lines (live_run_along plan replies standing journals guesses notes)) 0 plan.lanes
