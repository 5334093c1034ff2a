-- ---- for the proofs: a lane between two of its calls.
use Rattle.std.specs.Prelude.{ℕ, ◌≡◌, ◌*◌, ◌<◌, ◌≤◌, List, [], length, map, take, drop, slice_get, slice_index, Option, Some, None}
use Rattle.std.specs.List.{All}
use Rattle.std.specs.Borrow.{Bor}
use Rattle.call_places.specs.declared.entries.Entry.{Entry}
use Rattle.call_places.specs.Messages.{SealedMessage}
use Rattle.turn_lock.specs.Passes.{PassView}
use Rattle.stamp_counter.specs.Seats.{SeatView, CounterView}
use Rattle.hpke_context.specs.Answers.{Answer}
use Rattle.hpke_context.specs.Contexts.{ContextView}
use Rattle.context_books.specs.Batches.{Ask, ToOpenAll, block, unseal, lane_of}
use Rattle.context_books.specs.Merging.{lane_places}
use Rattle.context_books.specs.Guesses.{guess_at, guess_count}
use Rattle.lane_workers.specs.Showing.{OpeningShows}
use Rattle.lane_workers.specs.OnTheWay.{AllReplied, LaneIs, StampsAre}
use Rattle.shared_context.specs.Stamped.{IsNote}
use Rattle.shared_context.specs.Calls.{SharedView}
use Rattle.batch_plans.specs.declared.plan.Plan.{Plan}
use Rattle.batch_plans.specs.declared.plan.CallLine.{CallLine}
use Rattle.batch_plans.specs.Limits.{items_of}
use Rattle.batch_plans.specs.Within.{IsWithinLimits}
use Rattle.batch_plans.specs.Calls.{context_of}
use Rattle.batch_plans.specs.Progress.{Progress}
use Rattle.batch_plans.specs.ReplyText.{numbered, all_lines}
use Rattle.context_books.specs.Standing.{call_refusal}
use Rattle.context_books.specs.ContextLines.{AreOfLines, export_limits}
use Rattle.context_books.specs.Asks.{batch_of, cipher_at}
use Rattle.context_books.specs.LaneCalls.{lane_calls}
use Rattle.context_books.specs.Answered.{HasAnswered, HasRoomFor}
use Rattle.lane_workers.specs.declared.works.LaneWork.{LaneWork}
use Rattle.lane_workers.specs.Served.{Told, told_lines, seen_of}
use Rattle.lane_workers.specs.Turns.{shared_at, pass_at, views}

abbrev pub asks_of : Plan → List (Option ContextView) → ℕ → List Ask
asks_of plan contexts lane = lane_of (batch_of plan contexts) lane

-- the lines of the first calls
abbrev pub told_done : Plan → List (Option ContextView) → Told → ℕ → ℕ → List (List ℕ)
told_done plan contexts told lane k =
    all_lines (numbered (told_lines plan contexts told lane) 0 (take k (lane_calls plan lane)))

-- ---- what is told

-- in the end the lane tells these answers, by call, these guesses and misses first
pub record Tells (lane : ℕ) (given : List (List Answer)) (gs ms : List ℕ) (told : Told)
    : Type 0 where
  pub replies : (call : ℕ) (answers : List Answer) → slice_get given call ≡ Some answers
      → AllReplied told.replies (block lane call 0 (length answers)) answers
  pub guesses : (i g : ℕ) → slice_get gs i ≡ Some g → slice_index told.guesses i ≡ g
  pub misses : (i m : ℕ) → slice_get ms i ≡ Some m → slice_index told.misses i ≡ m

-- what the first calls of a lane show, and their lines
pub record Says (plan : Plan) (contexts : List (Option ContextView)) (lane k : ℕ)
    (seen : ℕ → List Entry) (progress : Progress) (told : Told) : Type 0 where
  pub shows : (c : ℕ) → LaneIs (batch_of plan contexts) c (cipher_at contexts c) lane told.replies
      (take k (asks_of plan contexts lane)) (seen c)
  pub openings : (c call : ℕ) (messages : List SealedMessage) → call < k
      → slice_get (asks_of plan contexts lane) call ≡ Some (ToOpenAll c messages)
      → OpeningShows (cipher_at contexts c) (seen c) lane call (map unseal messages)
      (guess_at (asks_of plan contexts lane) told.guesses call)
      (guess_at (asks_of plan contexts lane) told.misses call)
  pub answered : HasAnswered (take k (lane_calls plan lane)) (told_done plan contexts told lane k)
      progress

-- ---- the lane

-- a pass that has taken its lane's turns of the first calls
pub record IsPassAt (s : SharedView) (lane k : ℕ) (p : PassView) : Type 0 where
  pub of : p.lock ≡ s.lock
  pub number : p.number ≡ lane
  pub turns : p.turns ≤ 2 * k
  pub next : p.next_call ≤ k

-- where there is a counter, a seat that knows of the lane's stamps
abbrev pub HasSeat : Option (Bor CounterView) → ℕ → Option SeatView → Type 0
HasSeat counter low seat = (stamps : Bor CounterView) → counter ≡ Some stamps
    → (s : SeatView) × (seat ≡ Some s) × IsNote stamps.now.id s × (low ≤ s.low)

pub record LaneIsAt (plan : Plan) (contexts : List (Option SharedView))
    (counter : Option (Bor CounterView)) (lane k : ℕ) (w : LaneWork) : Type 0 where
  pub lane_is : w.lane ≡ lane
  pub given : List (List Answer)
  pub guesses : List ℕ
  pub misses : List ℕ
  pub low : ℕ
  pub calls_given : length given ≡ k
  pub guesses_given : length guesses ≡ guess_count (take k (asks_of plan (views contexts) lane))
  pub misses_given : length misses ≡ guess_count (take k (asks_of plan (views contexts) lane))
  pub count : length w.passes.items ≡ length contexts
  pub passes : (c : ℕ) (s : SharedView) → shared_at contexts c ≡ Some s
      → (p : PassView) × (pass_at w.passes.items c ≡ Some p) × IsPassAt s lane k p
  pub absent : (c : ℕ) → shared_at contexts c ≡ None → seen_of w.passes.items c ≡ []
  pub seat : HasSeat counter low w.seat
  pub stamps : StampsAre lane k (seen_of w.passes.items) low
  pub says : (told : Told) → Tells lane given guesses misses told
      → Says plan (views contexts) lane k (seen_of w.passes.items) w.progress told
  pub room : HasRoomFor plan (export_limits (views contexts)) (drop k (lane_calls plan lane))
      w.progress
  pub rows : All (λ call. items_of call ≤ w.table.room) (lane_calls plan lane)
  pub steps : All (λ call. items_of call ≤ length w.steps.items) (lane_calls plan lane)
  pub checks : w.checks ≤ 65536 * k

-- ---- what all lanes share

pub record IsShared (plan : Plan) (contexts : List (Option ContextView))
    (counter : Option (Bor CounterView)) (number : ℕ) (s : SharedView) : Type 0 where
  pub limit : s.lock.terms.limit ≡ s.context.limit
  pub lanes : length s.lock.terms.quotas ≡ length plan.lanes
  pub quotas : (lane : ℕ) → lane < length plan.lanes
      → length (lane_places number lane (asks_of plan contexts lane))
      ≤ slice_index s.lock.terms.quotas lane
  pub counted : (stamps : Bor CounterView) × (counter ≡ Some stamps)
      × (s.lock.terms.counter ≡ stamps.now.id)

pub record AreShared (plan : Plan) (contexts : List (Option SharedView))
    (counter : Option (Bor CounterView)) : Type 0 where
  pub within : IsWithinLimits plan
  pub of_lines : AreOfLines plan.contexts (views contexts)
  pub each : (number : ℕ) (s : SharedView) → shared_at contexts number ≡ Some s
      → IsShared plan (views contexts) counter number s

-- the lane's next call may be answered
pub record MayAnswer (plan : Plan) (contexts : List (Option SharedView))
    (counter : Option (Bor CounterView)) (call : ℕ) (line : CallLine) (w : LaneWork) : Type 0 where
  pub shared : AreShared plan contexts counter
  pub there : w.lane < length plan.lanes
  pub at : slice_get (lane_calls plan w.lane) call ≡ Some line
  pub is_at : LaneIsAt plan contexts counter w.lane call w

-- and is served by this context
pub record MayServe (plan : Plan) (contexts : List (Option SharedView))
    (counter : Option (Bor CounterView)) (call : ℕ) (line : CallLine) (s : SharedView) (w : LaneWork)
    : Type 0 where
  pub may : MayAnswer plan contexts counter call line w
  pub stands : shared_at contexts (context_of line) ≡ Some s
  pub free : call_refusal (views contexts) line ≡ None
