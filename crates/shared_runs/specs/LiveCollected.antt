-- ---- for the proofs: what the lanes gave back.
use Rattle.std.specs.Prelude.{ℕ, ◌≡◌, ◌<◌, List, [], length, map, slice_get, slice_index_or, Option, Some}
use Rattle.call_places.specs.declared.entries.Entry.{Entry}
use Rattle.std.specs.List.{All}
use Rattle.call_places.specs.declared.entries.Mark.{Mark}
use Rattle.turn_lock.specs.Passes.{PassView, AllOf}
use Rattle.hpke_context.specs.Contexts.{ContextView}
use Rattle.batch_plans.specs.declared.plan.Plan.{Plan}
use Rattle.batch_plans.specs.Replies.{IsPrintable}
use Rattle.batch_plans.specs.declared.replies.ContextReply.{ContextReply}
use Rattle.batch_plans.specs.declared.replies.LaneAnswers.{LaneAnswers}
use Rattle.lane_workers.specs.Gathered.{no_answers}
use Rattle.lane_workers.specs.LiveGathered.{AreOfALiveRun}
use Rattle.lane_workers.specs.LiveLanes.{AddsAre}
use Rattle.lane_workers.specs.LiveServed.{LiveLaneIsServed}
use Rattle.lane_workers.specs.Turns.{views}
use Rattle.shared_runs.specs.Collected.{passes_of, AreBack}
use Rattle.shared_runs.specs.declared.live_contexts.LiveContexts.{LiveContexts}
use Rattle.shared_runs.specs.declared.live_contexts.LiveLeft.{LiveLeft}

-- what each lane has seen of the table, by the passes of it that are back
abbrev pub tables_of : LiveLeft → List (List Entry)
tables_of l = map (λ (p : PassView). p.seen) l.passes.passes

-- in the list of the table's passes are those of so many first lanes, in order
pub record NamesAreBack (t : LiveContexts) (l : LiveLeft) (lanes : ℕ) : Type 0 where
  pub of_lock : AllOf t.names.lock l.passes.passes
  pub count : length l.passes.passes ≡ lanes
  pub made : l.passes.made ≡ length t.shared.plan.now.lanes
  pub each : (lane : ℕ) (p : PassView) → slice_get l.passes.passes lane ≡ Some p → p.number ≡ lane

-- the first lanes were served and gave back their passes, and these are their answers
pub record CollectedLive (t : LiveContexts) (l : LiveLeft) (answers : List LaneAnswers) : Type 0 where
  pub passes : List (List (Option PassView))
  pub few : length passes ≡ length answers
  pub served : (replies : List ContextReply) → AddsAre t.shared.plan.now replies → (lane : ℕ)
      → lane < length passes → LiveLaneIsServed t.shared.plan.now replies (views t.shared.contexts)
      lane (slice_index_or (tables_of l) lane []) (passes_of passes lane)
      (slice_index_or answers lane no_answers)
  pub back : AreBack t.shared l.shared passes
  pub names : NamesAreBack t l (length passes)

-- these answers, journals and notes are those of a run of the plan, and can be printed
pub record IsLiveRun (plan : Plan) (contexts : List (Option ContextView))
    (answers : List LaneAnswers) (journals : List (List Mark)) (notes : List Entry) : Type 0 where
  pub run : (replies : List ContextReply) → AddsAre plan replies
      → AreOfALiveRun plan replies contexts answers journals notes
  pub printable : (replies : List ContextReply) → AddsAre plan replies → All IsPrintable answers
