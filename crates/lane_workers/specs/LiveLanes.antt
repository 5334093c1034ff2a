-- A plan whose lanes add and retire contexts: what its lanes share while they are served, and such a
-- lane between two of its calls.
use Rattle.std.specs.Prelude.{ℕ, ◌≡◌, ◌↔◌, ◌+◌, ◌<◌, ◌≤◌, ◌||◌, nat_lt, Bool, true, false, if◌then◌else◌, List, [], ◌∷◌, length, flat_map, take, Contains, Option, Some, None, IsSome, slice_get, slice_index, Result, Ok, Err}
use Rattle.std.specs.List.{All}
use Rattle.std.specs.Borrow.{Bor}
use Rattle.call_places.specs.declared.entries.Entry.{Entry}
use Rattle.call_places.specs.Entries.{own}
use Rattle.call_places.specs.Spans.{span_bytes}
use Rattle.turn_lock.specs.Passes.{PassView}
use Rattle.stamp_counter.specs.Seats.{CounterView}
use Rattle.key_schedule.specs.declared.psks.PskFault.{PskFault}
use Rattle.key_schedule.specs.declared.psks.PskFault.TheVariants.{Inconsistent, Unneeded, Missing}
use Rattle.key_schedule.specs.Psks.{verify_psk_inputs}
use Rattle.context_books.specs.Batches.{place}
use Rattle.context_books.specs.Histories.{entry_places}
use Rattle.shared_context.specs.Calls.{SharedView}
use Rattle.live_table.specs.Calls.{TableView}
use Rattle.batch_plans.specs.declared.plan.Plan.{Plan}
use Rattle.batch_plans.specs.declared.plan.ContextLine.{ContextLine}
use Rattle.batch_plans.specs.declared.plan.CallLine.{CallLine}
use Rattle.batch_plans.specs.declared.plan.CallLine.TheVariants as calls
use Rattle.batch_plans.specs.declared.replies.Batch.{Batch}
use Rattle.batch_plans.specs.declared.replies.CallRefusal.{CallRefusal}
use Rattle.batch_plans.specs.declared.replies.CallRefusal.TheVariants as refusals
use Rattle.batch_plans.specs.declared.replies.ContextReply.{ContextReply}
use Rattle.batch_plans.specs.declared.replies.Reply.{Reply}
use Rattle.batch_plans.specs.declared.replies.Reply.TheVariants as replies
use Rattle.batch_plans.specs.Calls.{context_of}
use Rattle.batch_plans.specs.Limits.{first_name, items_of}
use Rattle.batch_plans.specs.Within.{IsWithinLimits}
use Rattle.batch_plans.specs.Names.{line_count, at_position, all_live}
use Rattle.batch_plans.specs.Room.{served_batches, served_or}
use Rattle.batch_plans.specs.Lines.{added_line, refused_line}
use Rattle.batch_plans.specs.AnswersText.{is_given, HasReplies}
use Rattle.hpke_context.specs.Contexts.{ContextView}
use Rattle.context_books.specs.Live.{was_live, looked_up_plan, add_line}
use Rattle.context_books.specs.Standing.{standing_at, call_refusal}
use Rattle.context_books.specs.LaneCalls.{lane_calls}
use Rattle.lane_workers.specs.declared.works.LaneWork.{LaneWork}
use Rattle.lane_workers.specs.declared.live_lane.LiveLane.{LiveLane}
use Rattle.lane_workers.specs.Served.{seen_of}
use Rattle.lane_workers.specs.Turns.{views}
use Rattle.lane_workers.specs.Lanes.{HasSeat, LaneIsAt, AreShared}
use Rattle.lane_workers.specs.LiveServed.{noted_from, NotesItsCall, NotesInOrder}
use Rattle.lane_workers.specs.Readings.{hears}

-- ---- `add` lines

-- why an `add` line is refused by its psk inputs (RFC 9180, 5.1, VerifyPSKInputs)
abbrev pub fault_refusal : Result (Unit {0}) PskFault → Option CallRefusal
fault_refusal (Ok nothing) = None
fault_refusal (Err Inconsistent) = Some refusals.PskPair
fault_refusal (Err Unneeded) = Some refusals.PskExtra
fault_refusal (Err Missing) = Some refusals.PskMissing

abbrev pub line_refusal : Plan → Option ContextLine → Option CallRefusal
line_refusal plan None = None
line_refusal plan (Some line) =
    fault_refusal (verify_psk_inputs line.mode (span_bytes plan.pool line.psk)
    (span_bytes plan.pool line.psk_id))

abbrev pub add_refusal : Plan → ℕ → Option CallRefusal
add_refusal plan name = line_refusal plan (slice_get plan.contexts (line_count plan + name))

-- ---- what all lanes share

pub record LiveView : Type 0 where
  pub plan : Plan
  pub contexts : List (Option SharedView)
  pub table : TableView
  pub counter : Option (Bor CounterView)

abbrev pub lives : Plan → List (Option SharedView) → TableView → Option (Bor CounterView) → LiveView
lives plan contexts table counter =
    record { plan = plan; contexts = contexts; table = table; counter = counter }

-- the contexts that stand
abbrev pub standing : LiveView → List (Option ContextView)
standing v = views v.contexts

-- a line that adds a context adds one of the plan's
abbrev pub AddsOneOf : ℕ → CallLine → Type 0
AddsOneOf added (calls.Add name) = name < added
AddsOneOf added call = Unit {0}

-- The contexts are those of the case that each may be called, and each lane may note all that its
-- calls note. An added context stands just where its psk inputs are in order.
pub record AreSharedLive (v : LiveView) : Type 0 where
  pub within : IsWithinLimits v.plan
  pub named : All (All (AddsOneOf v.plan.added)) v.plan.lanes
  pub shared : AreShared (all_live v.plan) v.contexts v.counter
  pub stands : (name : ℕ) → name < v.plan.added
      → (add_refusal v.plan name ≡ None) ↔ IsSome (standing_at (standing v) (line_count v.plan + name))
  pub names : v.table.names ≡ v.plan.added
  pub counted : (stamps : Bor CounterView) × (v.counter ≡ Some stamps)
      × (v.table.lock.terms.counter ≡ stamps.now.id)
  pub lanes : length v.table.lock.terms.quotas ≡ length v.plan.lanes
  pub quotas : (lane : ℕ) → lane < length v.plan.lanes
      → length (noted_from v.plan (standing v) lane 0 (lane_calls v.plan lane))
      ≤ slice_index v.table.lock.terms.quotas lane

-- the replies to the `add` lines are those that their psk inputs give
abbrev pub adding_line : Option CallRefusal → List ℕ
adding_line None = added_line
adding_line (Some refusal) = refused_line refusal

abbrev pub AddsAre : Plan → List ContextReply → Type 0
AddsAre plan contexts = (name : ℕ) → name < plan.added
    → add_line (slice_get contexts (line_count plan + name)) ≡ adding_line (add_refusal plan name)

-- a call on a context
abbrev pub IsOnContext : CallLine → Type 0
IsOnContext (calls.Add name) = ⊥
IsOnContext (calls.Retire name) = ⊥
IsOnContext call = Unit {0}

-- ---- for the proofs: the replies of a lane, and those that stand for them

-- Of one call its replies, those that stand for them where the lane is read as one of a plan whose
-- contexts stay, and its guesses.
pub record Chunk : Type 0 where
  pub given : List Reply
  pub heard : List Reply
  pub guesses : List Batch

abbrev pub all_given : List Chunk → List Reply
all_given chunks = flat_map (λ (c : Chunk). c.given) chunks

abbrev pub all_heard : List Chunk → List Reply
all_heard chunks = flat_map (λ (c : Chunk). c.heard) chunks

abbrev pub all_guesses : List Chunk → List Batch
all_guesses chunks = flat_map (λ (c : Chunk). c.guesses) chunks

-- the reply to a line that adds a context, and to one that retires a name
abbrev pub add_reply : Option CallRefusal → Reply
add_reply None = replies.Added
add_reply (Some refusal) = replies.Refused refusal

abbrev pub retire_reply : Bool → Reply
retire_reply true = replies.Retired
retire_reply false = replies.Refused refusals.NoContext

-- the call is on a context line's context, or found its own
abbrev pub finds : List Entry → ℕ → ℕ → CallLine → Bool
finds notes lane number call =
    nat_lt (context_of call) first_name || was_live notes (place lane number 0)

-- the reply to a call that no context answers
abbrev pub own_reply : Plan → List Entry → ℕ → ℕ → CallLine → Option Reply
own_reply plan notes lane number (calls.Add name) = Some (add_reply (add_refusal plan name))
own_reply plan notes lane number (calls.Retire name) =
    Some (retire_reply (was_live notes (place lane number 0)))
own_reply plan notes lane number call =
    if finds notes lane number call then None else Some (replies.Refused refusals.NoContext)

-- a call that its context answers, at its place: the same replies stand for its own
pub record IsKept (v : LiveView) (call : CallLine) (c : Chunk) : Type 0 where
  pub has : HasReplies (at_position v.plan call) c.given c.guesses
  pub each : length c.given + length c.guesses
      ≡ served_or (call_refusal (standing v) (at_position v.plan call))
      (items_of call + served_batches call) 1
  pub given : All (λ reply. is_given reply ≡ true) c.given
  pub heard : c.heard ≡ c.given

-- a call that none answers is read as one on a context that isn't there
abbrev pub IsHeardAs : LiveView → CallLine → Option Reply → Chunk → Type 0
IsHeardAs v call None c = IsKept v call c
IsHeardAs v call (Some reply) c =
    c ≡ record {
      given = reply ∷ [];
      heard = replies.Refused refusals.NoContext ∷ [];
      guesses = [];
    }

-- of each of a lane's calls, from this number on
abbrev pub AreHeard : LiveView → List Entry → ℕ → ℕ → List CallLine → List Chunk → Type 0
AreHeard v notes lane number [] [] = Unit {0}
AreHeard v notes lane number [] (c ∷ chunks) = ⊥
AreHeard v notes lane number (call ∷ calls) [] = ⊥
AreHeard v notes lane number (call ∷ calls) (c ∷ chunks) =
    IsHeardAs v call (own_reply v.plan notes lane number call) c
    × AreHeard v notes lane (number + 1) calls chunks

-- ---- for the proofs: a lane between two of its calls

-- of a lane's first calls both tables tell the same
abbrev pub TellsAs : ℕ → ℕ → List Entry → List Entry → Type 0
TellsAs lane k seen notes = (call : ℕ) → call < k
    → was_live notes (place lane call 0) ≡ was_live seen (place lane call 0)

-- The lane, whose first k calls are answered by these replies, as one of the plan that this table
-- makes.
pub record ReadsAs (v : LiveView) (lane k : ℕ) (chunks : List Chunk) (w : LaneWork)
    (notes : List Entry) : Type 0 where
  pub blanks : ℕ
  pub spare : ℕ
  pub enough : blanks ≤ w.progress.left
  pub is_at : LaneIsAt (looked_up_plan v.plan notes) v.contexts v.counter lane k (hears (record {
    plan = looked_up_plan v.plan notes;
    replies = all_heard chunks;
    blanks = blanks;
    spare = spare;
  }) w)
  pub are_heard : AreHeard v notes lane 0 (take k (lane_calls v.plan lane)) chunks

-- A lane whose first t calls are noted, and whose first k calls are answered. Which plan its later
-- calls make isn't known yet: it is read as one of each plan that the table may still make.
pub record LiveLaneIsAt (v : LiveView) (lane t k : ℕ) (l : LiveLane) : Type 0 where
  pub lane_is : l.work.lane ≡ lane
  pub pass : PassView
  pub holds : l.pass ≡ Some pass
  pub of : pass.lock ≡ v.table.lock
  pub number : pass.number ≡ lane
  pub turns : pass.turns ≤ t
  pub next : pass.next_call ≤ t
  pub places : entry_places (own lane pass.seen)
      ≡ noted_from v.plan (standing v) lane 0 (take t (lane_calls v.plan lane))
  pub acts : All (NotesItsCall v.plan (standing v)) (own lane pass.seen)
  -- its stamps
  pub low : ℕ
  pub seat : HasSeat v.counter low l.work.seat
  pub noted : NotesInOrder lane pass.seen (seen_of l.work.passes.items)
  pub notes_below : (e : Entry) → Contains (own lane pass.seen) e → e.stamp < low
  pub below : (c : ℕ) (e : Entry) → Contains (own lane (seen_of l.work.passes.items c)) e
      → e.stamp < low
  -- its answers
  pub chunks : List Chunk
  pub given : l.work.progress.replies ≡ all_given chunks
  pub guesses : l.work.progress.batches ≡ all_guesses chunks
  pub reads : (notes : List Entry) → TellsAs lane t pass.seen notes
      → ReadsAs v lane k chunks l.work notes

-- the lane's next call may be answered
pub record MayAnswerLive (v : LiveView) (call : ℕ) (line : CallLine) (l : LiveLane) : Type 0 where
  pub shared : AreSharedLive v
  pub there : l.work.lane < length v.plan.lanes
  pub at : slice_get (lane_calls v.plan l.work.lane) call ≡ Some line
  pub is_at : LiveLaneIsAt v l.work.lane call call l

-- it is noted, if it has a note, and isn't answered yet
pub record IsNotedLive (v : LiveView) (call : ℕ) (old new : LiveLane) : Type 0 where
  pub lane : new.work.lane ≡ old.work.lane
  pub is_at : LiveLaneIsAt v old.work.lane (call + 1) call new

-- and the table tells this of it
pub record IsToldLive (v : LiveView) (call : ℕ) (live : Bool) (old new : LiveLane) : Type 0 where
  pub noted : IsNotedLive v call old new
  pub tells : was_live noted.is_at.pass.seen (place old.work.lane call 0) ≡ live

-- one call more is answered
pub record IsOneOnLive (v : LiveView) (call : ℕ) (old new : LiveLane) : Type 0 where
  pub lane : new.work.lane ≡ old.work.lane
  pub is_at : LiveLaneIsAt v old.work.lane (call + 1) (call + 1) new
