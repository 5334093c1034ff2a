-- What a lane of a plan is given whose lanes add and retire contexts, and what it gives back when it is
-- served.
use Rattle.std.specs.Prelude.{ℕ, ◌≡◌, ◌<◌, ◌≤◌, List, [], length, Option, Some, None}
use Rattle.std.specs.List.{All}
use Rattle.std.specs.Borrow.{Bor}
use Rattle.turn_lock.specs.Passes.{PassView, fresh_pass}
use Rattle.stamp_counter.specs.Seats.{SeatView, CounterView}
use Rattle.shared_context.specs.Stamped.{IsNote}
use Rattle.shared_context.specs.Calls.{SharedView}
use Rattle.batch_plans.specs.declared.plan.Plan.{Plan}
use Rattle.batch_plans.specs.declared.replies.ContextReply.{ContextReply}
use Rattle.batch_plans.specs.declared.replies.LaneAnswers.{LaneAnswers}
use Rattle.batch_plans.specs.Limits.{items_of}
use Rattle.batch_plans.specs.Names.{all_live}
use Rattle.batch_plans.specs.Progress.{begun}
use Rattle.batch_plans.specs.Replies.{IsPrintable}
use Rattle.context_books.specs.LaneCalls.{lane_calls}
use Rattle.lane_workers.specs.declared.works.LaneWork.{LaneWork}
use Rattle.lane_workers.specs.declared.live_lane.LiveLane.{LiveLane}
use Rattle.lane_workers.specs.Groups.{Each, EachServed, answers_in}
use Rattle.lane_workers.specs.LiveLanes.{LiveView, standing, AreSharedLive, AddsAre, LiveLaneIsAt}
use Rattle.lane_workers.specs.LiveServed.{LiveLaneIsServed}
use Rattle.lane_workers.specs.Returned.{IsGiven}
use Rattle.lane_workers.specs.Served.{seen_of, seen_by}
use Rattle.lane_workers.specs.Turns.{shared_at, pass_at}

-- ---- before its first call

-- the lane has all that it was given, and room for the openings of its calls
pub record IsPrepared (plan : Plan) (lane : ℕ) (passes : List (Option PassView))
    (seat : Option SeatView) (answers : LaneAnswers) (w : LaneWork) : Type 0 where
  pub lane_is : w.lane ≡ lane
  pub passes_are : w.passes.items ≡ passes
  pub seat_is : w.seat ≡ seat
  pub progress : w.progress ≡ begun answers
  pub rows : All (λ call. items_of call ≤ w.table.room) (lane_calls plan lane)
  pub steps : All (λ call. items_of call ≤ length w.steps.items) (lane_calls plan lane)
  pub checks : w.checks ≡ 0

-- The lane is given what one is whose calls all find their contexts, and a fresh pass of the table.
pub record IsGivenLive (v : LiveView) (w : LaneWork) (pass : PassView) : Type 0 where
  pub shared : AreSharedLive v
  pub passes : List (Option PassView)
  pub seat : Option SeatView
  pub answers : LaneAnswers
  pub prepared : IsPrepared v.plan w.lane passes seat answers w
  pub given : IsGiven (all_live v.plan) v.contexts v.counter w.lane passes seat answers
  pub pass_is : pass ≡ fresh_pass v.table.lock w.lane

-- the lane is one of the plan's and has made no call
pub record IsFreshLive (v : LiveView) (l : LiveLane) : Type 0 where
  pub there : l.work.lane < length v.plan.lanes
  pub is_at : LiveLaneIsAt v l.work.lane 0 0 l

abbrev pub AllFreshLive : LiveView → List LiveLane → Type 0
AllFreshLive v ls = Each (IsFreshLive v) ls

-- ---- after its last call

-- for the proofs: the lane has made all its calls
abbrev pub IsDoneLive : LiveView → LiveLane → Type 0
IsDoneLive v l =
    let n = length (lane_calls v.plan l.work.lane) in LiveLaneIsAt v l.work.lane n n l

-- The lane was served: its passes of the table and of the contexts, and its answers, show what
-- `LiveLaneIsServed` says, by whichever replies the `add` lines have in the set-up.
pub record IsServedLive (v : LiveView) (old new : LiveLane) : Type 0 where
  pub lane : new.work.lane ≡ old.work.lane
  pub served : (replies : List ContextReply) → AddsAre v.plan replies
      → LiveLaneIsServed v.plan replies (standing v) old.work.lane (seen_by new.pass)
      new.work.passes.items (answers_in new.work)
  -- for the proofs: it has made all its calls
  pub done : IsDoneLive v new

abbrev pub AllServedLive : LiveView → List LiveLane → List LiveLane → Type 0
AllServedLive v ls ms = EachServed (IsServedLive v) ls ms

-- ---- back

-- every reply and every guess that there is room for was put
pub record HasAllAnswers (w : LaneWork) : Type 0 where
  pub replies : w.progress.left ≡ 0
  pub batches : w.progress.batches_left ≡ 0

-- what a lane consists of is given back as it is
pub record GivesParts (w : LaneWork) (passes : List (Option PassView)) (seat : Option SeatView)
    (answers : LaneAnswers) : Type 0 where
  pub passes_are : passes ≡ w.passes.items
  pub seat_is : seat ≡ w.seat
  pub pool : answers.pool ≡ w.progress.pool
  pub replies : answers.replies ≡ w.progress.replies
  pub batches : answers.batches ≡ w.progress.batches
  pub printable : IsPrintable answers

-- The lane was served, and gives back its passes of the table and of each context that stands, and its
-- note.
pub record IsReturnedLive (v : LiveView) (lane : ℕ) (pass : PassView)
    (passes : List (Option PassView)) (seat : Option SeatView) (answers : LaneAnswers)
    : Type 0 where
  pub served : (replies : List ContextReply) → AddsAre v.plan replies
      → LiveLaneIsServed v.plan replies (standing v) lane pass.seen passes answers
  pub of : pass.lock ≡ v.table.lock
  pub number : pass.number ≡ lane
  pub count : length passes ≡ length v.contexts
  pub passes_are : (number : ℕ) (s : SharedView) → shared_at v.contexts number ≡ Some s
      → (p : PassView) × (pass_at passes number ≡ Some p) × (p.lock ≡ s.lock) × (p.number ≡ lane)
  pub absent : (number : ℕ) → shared_at v.contexts number ≡ None → seen_of passes number ≡ []
  pub seat_is : (stamps : Bor CounterView) → v.counter ≡ Some stamps
      → (s : SeatView) × (seat ≡ Some s) × IsNote stamps.now.id s

-- what the lane's parts are that are left is what it gives back
pub record MayReturnLive (v : LiveView) (lane : ℕ) (w : LaneWork) (pass : PassView) : Type 0 where
  pub lane_is : w.lane ≡ lane
  pub all : HasAllAnswers w
  pub returns : (passes : List (Option PassView)) (seat : Option SeatView) (answers : LaneAnswers)
      → GivesParts w passes seat answers → IsReturnedLive v lane pass passes seat answers
