-- ---- for the proofs: shared contexts, and what of them is with no lane.
use Rattle.std.specs.Prelude.{ℕ, ◌≡◌, ◌+◌, ◌-◌, List, [], length, map, sum, Option, Some, None}
use Rattle.std.specs.Borrow.{Bor}
use Rattle.turn_lock.specs.Passes.{PassView, PassListView, fresh_pass, fresh_from}
use Rattle.stamp_counter.specs.Seats.{SeatView, CounterView}
use Rattle.shared_context.specs.Stamped.{IsNote}
use Rattle.shared_context.specs.Calls.{SharedView}
use Rattle.batch_plans.specs.declared.plan.Plan.{Plan}
use Rattle.batch_plans.specs.Within.{IsWithinLimits}
use Rattle.context_books.specs.ContextLines.{AreOfLines}
use Rattle.lane_workers.specs.declared.works.LaneWork.{LaneWork}
use Rattle.lane_workers.specs.Groups.{IsFresh, IsDone}
use Rattle.lane_workers.specs.Handing.{list_at}
use Rattle.lane_workers.specs.Served.{seen_of}
use Rattle.lane_workers.specs.Turns.{shared_at, pass_at, views}
use Rattle.context_books.specs.Quotas.{quotas_on, all_quotas}
use Rattle.shared_runs.specs.declared.tables.Table.{Table}
use Rattle.shared_runs.specs.declared.tables.Left.{Left}
use Rattle.shared_runs.specs.Sharing.{IsSharedBy}

-- the table's plan, with the lanes that share its contexts
abbrev pub planned : Table → Plan
planned t = record t.plan.now { lanes = t.lanes.now }

-- the contexts are shared by the table's lanes, and stamps are of its counter
pub record IsTable (t : Table) : Type 0 where
  pub within : IsWithinLimits (planned t)
  pub of_lines : AreOfLines t.plan.now.contexts (views t.contexts)
  pub shared : (number : ℕ) (s : SharedView) → shared_at t.contexts number ≡ Some s
      → IsSharedBy s.context (quotas_on (planned t) (views t.contexts) number) t.counter.id s

-- the counter has a stamp for each entry that there may be, and so many others
abbrev pub HasStamps : ℕ → Table → Type 0
HasStamps others t =
    t.counter.all ≡ sum (map sum (all_quotas (planned t) (views t.contexts))) + others

-- the lanes are those of the table's plan
abbrev pub HasOwnLanes : Table → Type 0
HasOwnLanes t = t.lanes.now ≡ t.plan.now.lanes

-- and the counter has stamps for their entries alone
pub record IsOwnTable (t : Table) : Type 0 where
  pub table : IsTable t
  pub own : HasOwnLanes t
  pub stamps : HasStamps 0 t

-- of each context that is shared so many fresh passes are left, from this lane's on
pub record AreLeft (shared : List (Option SharedView)) (lane left made : ℕ)
    (lists : List (Option PassListView)) : Type 0 where
  pub count : length lists ≡ length shared
  pub none : (number : ℕ) → shared_at shared number ≡ None → list_at lists number ≡ None
  pub some : (number : ℕ) (s : SharedView) → shared_at shared number ≡ Some s
      → list_at lists number
      ≡ Some (record { passes = fresh_from s.lock lane left; made = made })

-- the lanes before this one have got their passes, and the seat has drawn nothing
pub record HasGiven (t : Table) (lane : ℕ) (l : Left) : Type 0 where
  pub passes : AreLeft t.contexts lane (length t.lanes.now - lane) (length t.lanes.now) l.passes.items
  pub seat : IsNote t.counter.id l.seat

-- what the lane of this number has got: a fresh pass of each context that is shared, and a note
pub record IsHanded (t : Table) (lane : ℕ) (passes : List (Option PassView)) (seat : SeatView)
    : Type 0 where
  pub count : length passes ≡ length t.contexts
  pub fresh : (number : ℕ) (s : SharedView) → shared_at t.contexts number ≡ Some s
      → pass_at passes number ≡ Some (fresh_pass s.lock lane)
  pub unseen : (number : ℕ) → seen_of passes number ≡ []
  pub note : IsNote t.counter.id seat

-- ---- lanes

-- the lane of this number before its first call
pub record IsReady (t : Table) (lane : ℕ) (w : LaneWork) : Type 0 where
  pub number : w.lane ≡ lane
  pub fresh : (stamps : Bor CounterView) → stamps.now.id ≡ t.counter.id
      → IsFresh t.plan.now t.contexts (Some stamps) w

-- and after its last
pub record IsDoneLane (t : Table) (lane : ℕ) (w : LaneWork) : Type 0 where
  pub counter : Option (Bor CounterView)
  pub number : w.lane ≡ lane
  pub done : IsDone t.plan.now t.contexts counter w
