-- ---- for the proofs: what the lanes gave back.
use Rattle.std.specs.Prelude.{ℕ, ◌≡◌, ◌<◌, List, [], length, slice_get, slice_index_or, Option, Some, None}
use Rattle.turn_lock.specs.Passes.{PassView, PassListView, AllOf}
use Rattle.std.specs.List.{All}
use Rattle.call_places.specs.declared.entries.Mark.{Mark}
use Rattle.hpke_context.specs.Contexts.{ContextView}
use Rattle.shared_context.specs.Calls.{SharedView}
use Rattle.shared_context.specs.Stamped.{IsNote}
use Rattle.batch_plans.specs.declared.plan.Plan.{Plan}
use Rattle.batch_plans.specs.declared.replies.LaneAnswers.{LaneAnswers}
use Rattle.batch_plans.specs.Replies.{IsPrintable}
use Rattle.lane_workers.specs.Gathered.{no_answers, AreOfARun}
use Rattle.lane_workers.specs.Handing.{list_at}
use Rattle.lane_workers.specs.Served.{seen_of, LaneIsServed}
use Rattle.lane_workers.specs.Turns.{shared_at, pass_at, views}
use Rattle.shared_runs.specs.declared.tables.Table.{Table}
use Rattle.shared_runs.specs.declared.tables.Left.{Left}

-- a lane's passes of all contexts
abbrev pub passes_of : List (List (Option PassView)) → ℕ → List (Option PassView)
passes_of passes lane = slice_index_or passes lane []

-- these are a lane's passes of all contexts that are shared
pub record ArePassesOf (t : Table) (lane : ℕ) (passes : List (Option PassView)) : Type 0 where
  pub count : length passes ≡ length t.contexts
  pub absent : (number : ℕ) → shared_at t.contexts number ≡ None → seen_of passes number ≡ []
  pub each : (number : ℕ) (s : SharedView) → shared_at t.contexts number ≡ Some s
      → (p : PassView) × (pass_at passes number ≡ Some p) × (p.lock ≡ s.lock) × (p.number ≡ lane)

-- in the list of a context's passes are those of the first lanes, in order
pub record IsListOf (s : SharedView) (number lanes : ℕ) (passes : List (List (Option PassView)))
    (list : PassListView) : Type 0 where
  pub of_lock : AllOf s.lock list.passes
  pub count : length list.passes ≡ length passes
  pub made : list.made ≡ lanes
  pub each : (lane : ℕ) → lane < length passes → (p : PassView)
      × (pass_at (passes_of passes lane) number ≡ Some p) × (p.number ≡ lane)
      × (slice_get list.passes lane ≡ Some p)

-- the first lanes gave back these passes
pub record ArePut (t : Table) (l : Left) (passes : List (List (Option PassView))) : Type 0 where
  pub absent : (lane number : ℕ) → lane < length passes → shared_at t.contexts number ≡ None
      → seen_of (passes_of passes lane) number ≡ []
  pub count : length l.passes.items ≡ length t.contexts
  pub none : (number : ℕ) → shared_at t.contexts number ≡ None
      → list_at l.passes.items number ≡ None
  pub each : (number : ℕ) (s : SharedView) → shared_at t.contexts number ≡ Some s
      → (list : PassListView) × (list_at l.passes.items number ≡ Some list)
      × IsListOf s number (length t.lanes.now) passes list

-- and the seat has drawn nothing
pub record AreBack (t : Table) (l : Left) (passes : List (List (Option PassView))) : Type 0 where
  pub put : ArePut t l passes
  pub seat : IsNote t.counter.id l.seat

-- the first lanes of the table's plan were served and gave back their passes, and these are their
-- answers
pub record Collected (t : Table) (l : Left) (answers : List LaneAnswers) : Type 0 where
  pub passes : List (List (Option PassView))
  pub few : length passes ≡ length answers
  pub served : (lane : ℕ) → lane < length passes → LaneIsServed t.plan.now (views t.contexts) lane
      (passes_of passes lane) (slice_index_or answers lane no_answers)
  pub back : AreBack t l passes

-- these answers and journals are those of a run of the plan, and can be printed
pub record IsRun (plan : Plan) (contexts : List (Option ContextView)) (answers : List LaneAnswers)
    (journals : List (List Mark)) : Type 0 where
  pub run : AreOfARun plan contexts answers journals
  pub printable : All IsPrintable answers
