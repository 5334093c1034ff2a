-- Lanes side by side, once they were served.
use Rattle.std.specs.Prelude.{◌≡◌, ◌<◌, List, [], ◌∷◌, length, Option}
use Rattle.std.specs.Borrow.{Bor}
use Rattle.stamp_counter.specs.Seats.{CounterView}
use Rattle.shared_context.specs.Calls.{SharedView}
use Rattle.batch_plans.specs.declared.plan.Plan.{Plan}
use Rattle.batch_plans.specs.declared.replies.LaneAnswers.{LaneAnswers}
use Rattle.lane_workers.specs.declared.works.LaneWork.{LaneWork}
use Rattle.context_books.specs.LaneCalls.{lane_calls}
use Rattle.lane_workers.specs.Lanes.{LaneIsAt}
use Rattle.lane_workers.specs.Served.{LaneIsServed}
use Rattle.lane_workers.specs.Turns.{views}

-- the answers that a lane has put so far
abbrev pub answers_in : LaneWork → LaneAnswers
answers_in w =
    record {
      pool = w.progress.pool;
      replies = w.progress.replies;
      batches = w.progress.batches;
    }

-- The lane was served: `LaneIsServed` says what its passes and its answers show.
pub record IsServed (plan : Plan) (contexts : List (Option SharedView))
    (counter : Option (Bor CounterView)) (old new : LaneWork) : Type 0 where
  pub lane : new.lane ≡ old.lane
  pub served : LaneIsServed plan (views contexts) old.lane new.passes.items (answers_in new)
  -- for the proofs: it has made all its calls
  pub is_at : LaneIsAt plan contexts counter old.lane (length (lane_calls plan old.lane)) new

-- each lane of a list, by the one of another list that it was
abbrev pub EachServed : {L : Type 0} → (L → L → Type 0) → List L → List L → Type 0
EachServed P [] [] = Unit {0}
EachServed P [] (v ∷ vs) = ⊥
EachServed P (w ∷ ws) [] = ⊥
EachServed P (w ∷ ws) (v ∷ vs) = P w v × EachServed P ws vs

abbrev pub AllServed : Plan → List (Option SharedView) → Option (Bor CounterView) → List LaneWork
    → List LaneWork → Type 0
AllServed plan contexts counter ws vs = EachServed (IsServed plan contexts counter) ws vs

-- ---- for the proofs: before they are served, and after

-- the lane is one of the plan's and has made no call
pub record IsFresh (plan : Plan) (contexts : List (Option SharedView))
    (counter : Option (Bor CounterView)) (w : LaneWork) : Type 0 where
  pub there : w.lane < length plan.lanes
  pub is_at : LaneIsAt plan contexts counter w.lane 0 w

-- the lane has made all its calls
abbrev pub IsDone : Plan → List (Option SharedView) → Option (Bor CounterView) → LaneWork → Type 0
IsDone plan contexts counter w =
    LaneIsAt plan contexts counter w.lane (length (lane_calls plan w.lane)) w

-- each lane of a list
abbrev pub Each : {L : Type 0} → (L → Type 0) → List L → Type 0
Each P [] = Unit {0}
Each P (w ∷ ws) = P w × Each P ws

abbrev pub AllFresh : Plan → List (Option SharedView) → Option (Bor CounterView) → List LaneWork
    → Type 0
AllFresh plan contexts counter ws = Each (IsFresh plan contexts counter) ws
