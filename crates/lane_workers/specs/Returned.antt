-- What a lane is given before its first call, and what it gives back when it is served.
use Rattle.std.specs.Prelude.{ℕ, ◌≡◌, ◌<◌, List, [], length, Option, Some, None}
use Rattle.std.specs.Borrow.{Bor}
use Rattle.turn_lock.specs.Passes.{PassView, fresh_pass}
use Rattle.stamp_counter.specs.Seats.{SeatView, CounterView}
use Rattle.shared_context.specs.Stamped.{IsNote}
use Rattle.shared_context.specs.Calls.{SharedView}
use Rattle.batch_plans.specs.declared.plan.Plan.{Plan}
use Rattle.batch_plans.specs.declared.replies.LaneAnswers.{LaneAnswers}
use Rattle.batch_plans.specs.Within.{IsWithinLimits}
use Rattle.batch_plans.specs.Room.{lane_room}
use Rattle.context_books.specs.ContextLines.{export_limits}
use Rattle.lane_workers.specs.Served.{seen_of, LaneIsServed}
use Rattle.lane_workers.specs.Turns.{shared_at, pass_at, views}
use Rattle.context_books.specs.LaneCalls.{lane_calls}

-- The lane is one of the plan's. It has a fresh pass of each context that stands, of its own number;
-- where there is a counter of stamps, a note of it; and just the room that its answers need.
pub record IsGiven (plan : Plan) (contexts : List (Option SharedView))
    (counter : Option (Bor CounterView)) (lane : ℕ) (passes : List (Option PassView))
    (seat : Option SeatView) (answers : LaneAnswers) : Type 0 where
  pub within : IsWithinLimits plan
  pub there : lane < length plan.lanes
  pub count : length passes ≡ length contexts
  pub fresh : (number : ℕ) (s : SharedView) → shared_at contexts number ≡ Some s
      → pass_at passes number ≡ Some (fresh_pass s.lock lane)
  pub unseen : (number : ℕ) → seen_of passes number ≡ []
  pub seat_is : (stamps : Bor CounterView) → counter ≡ Some stamps
      → (s : SeatView) × (seat ≡ Some s) × IsNote stamps.now.id s
  pub room : answers ≡ lane_room plan (export_limits (views contexts)) (lane_calls plan lane)

-- The lane was served, and gives back its pass of each context that stands, and its note.
pub record IsReturned (plan : Plan) (contexts : List (Option SharedView))
    (counter : Option (Bor CounterView)) (lane : ℕ) (passes : List (Option PassView))
    (seat : Option SeatView) (answers : LaneAnswers) : Type 0 where
  pub served : LaneIsServed plan (views contexts) lane passes answers
  pub count : length passes ≡ length contexts
  pub passes_are : (number : ℕ) (s : SharedView) → shared_at contexts number ≡ Some s
      → (p : PassView) × (pass_at passes number ≡ Some p) × (p.lock ≡ s.lock) × (p.number ≡ lane)
  pub absent : (number : ℕ) → shared_at contexts number ≡ None → seen_of passes number ≡ []
  pub seat_is : (stamps : Bor CounterView) → counter ≡ Some stamps
      → (s : SeatView) × (seat ≡ Some s) × IsNote stamps.now.id s
