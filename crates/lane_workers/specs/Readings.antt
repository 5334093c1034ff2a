-- ---- for the proofs: a lane that is read as one of a plan.
use Rattle.std.specs.Prelude.{ℕ, ◌≡◌, ◌⊎◌, ◌+◌, ◌-◌, ◌≤◌, true, List, ◌++◌, length, Contains, Option}
use Rattle.std.specs.List.{All}
use Rattle.std.specs.Borrow.{Bor}
use Rattle.call_places.specs.declared.entries.Entry.{Entry}
use Rattle.call_places.specs.Entries.{own}
use Rattle.stamp_counter.specs.Seats.{CounterView}
use Rattle.shared_context.specs.Calls.{SharedView}
use Rattle.batch_plans.specs.declared.plan.Plan.{Plan}
use Rattle.batch_plans.specs.declared.plan.CallLine.{CallLine}
use Rattle.batch_plans.specs.declared.replies.Reply.{Reply}
use Rattle.batch_plans.specs.declared.replies.Batch.{Batch}
use Rattle.batch_plans.specs.Limits.{items_of}
use Rattle.batch_plans.specs.Room.{served_batches, served_or}
use Rattle.batch_plans.specs.Progress.{Progress}
use Rattle.batch_plans.specs.AnswersText.{is_given, HasReplies}
use Rattle.context_books.specs.Standing.{call_refusal}
use Rattle.lane_workers.specs.declared.works.LaneWork.{LaneWork}
use Rattle.lane_workers.specs.Served.{seen_of}
use Rattle.lane_workers.specs.Turns.{views, with_progress}
use Rattle.lane_workers.specs.Lanes.{HasSeat, LaneIsAt, MayAnswer, MayServe}

-- A lane is read as one of this plan: these replies stand for those that it has, and of the replies
-- and the guesses that are still to come so many are none of this plan's.
pub record Reading : Type 0 where
  pub plan : Plan
  pub replies : List Reply
  pub blanks : ℕ
  pub spare : ℕ

-- its answers as they are read
abbrev pub heard : Reading → Progress → Progress
heard r p =
    record p {
      replies = r.replies;
      left = p.left - r.blanks;
      batches_left = p.batches_left - r.spare;
    }

abbrev pub hears : Reading → LaneWork → LaneWork
hears r w = with_progress w (heard r w.progress)

-- with some replies more, which are read as they are
abbrev pub with_more : Reading → List Reply → Reading
with_more r more = record r { replies = r.replies ++ more }

-- a plan has the bytes and the items of another
pub record HasBytesOf (plan other : Plan) : Type 0 where
  pub pool : plan.pool ≡ other.pool
  pub items : plan.items ≡ other.items

-- The next call of the lane, so read, may be answered: it is a call of the plan as one of which it
-- is read, and that has the bytes and the items of the plan whose bytes are served.
pub record MayAnswerAs (r : Reading) (plan : Plan) (contexts : List (Option SharedView))
    (counter : Option (Bor CounterView)) (call : ℕ) (line : CallLine) (w : LaneWork) : Type 0 where
  pub may : MayAnswer r.plan contexts counter call line (hears r w)
  pub bytes : HasBytesOf r.plan plan
  pub enough : r.blanks ≤ w.progress.left

-- and is served by this context
pub record MayServeAs (r : Reading) (plan : Plan) (contexts : List (Option SharedView))
    (counter : Option (Bor CounterView)) (call : ℕ) (line : CallLine) (s : SharedView) (w : LaneWork)
    : Type 0 where
  pub may : MayServe r.plan contexts counter call line s (hears r w)
  pub bytes : HasBytesOf r.plan plan
  pub enough : r.blanks ≤ w.progress.left

-- ---- what one call more leaves

-- the call put its replies and its guess, as many as it has lines, and none of them is blank
pub record AddsReplies (contexts : List (Option SharedView)) (line : CallLine) (old new : Progress)
    : Type 0 where
  pub more : List Reply
  pub guesses : List Batch
  pub replies : new.replies ≡ old.replies ++ more
  pub batches : new.batches ≡ old.batches ++ guesses
  pub has : HasReplies line more guesses
  pub each : length more + length guesses
      ≡ served_or (call_refusal (views contexts) line) (items_of line + served_batches line) 1
  pub given : All (λ reply. is_given reply ≡ true) more

-- the lane's own entries are those that it had, and those of this call, whose stamps are no lower
-- than this one
pub record AddsLater (counter : Option (Bor CounterView)) (low call : ℕ) (old new : LaneWork)
    : Type 0 where
  pub seat : HasSeat counter low new.seat
  pub later : (c : ℕ) (e : Entry) → Contains (own old.lane (seen_of new.passes.items c)) e
      → Contains (own old.lane (seen_of old.passes.items c)) e
      ⊎ ((e.place.call ≡ call) × (low ≤ e.stamp))

-- The lane has made one call more of the plan as one of which it is read.
pub record IsOneOn (r : Reading) (contexts : List (Option SharedView))
    (counter : Option (Bor CounterView)) (call : ℕ) (line : CallLine) (old new : LaneWork)
    : Type 0 where
  pub adds : AddsReplies contexts line old.progress new.progress
  pub enough : r.blanks ≤ new.progress.left
  pub later : (low : ℕ) → HasSeat counter low old.seat → AddsLater counter low call old new
  pub is_at : LaneIsAt r.plan contexts counter old.lane (call + 1) (hears (with_more r adds.more) new)
