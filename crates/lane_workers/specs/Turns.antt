-- ---- for the proofs: one turn of a lane at a context, and what it leaves as it was.
use Rattle.std.specs.Prelude.{ℕ, ◌≡◌, ◌+◌, ◌<◌, ◌≤◌, true, List, length, map, take, slice_index_or, slice_set, sum_by, Option, Some, None}
use Rattle.std.specs.Borrow.{Bor}
use Rattle.call_places.specs.declared.spans.Item.{Item}
use Rattle.call_places.specs.Entries.{seq_of}
use Rattle.turn_lock.specs.Passes.{PassView, AddedByOthers}
use Rattle.stamp_counter.specs.Seats.{SeatView, CounterView}
use Rattle.hpke_context.specs.Answers.{run}
use Rattle.hpke_context.specs.Contexts.{ContextView, cipher_of}
use Rattle.context_books.specs.declared.book.Draw.{Draw}
use Rattle.context_books.specs.Openings.{opening_steps, opening_misses, unseals}
use Rattle.shared_context.specs.Stamped.{IsNote}
use Rattle.shared_context.specs.Calls.{SharedView, MayCall, HasDrawn, HasCommitted}
use Rattle.speculative_open.specs.Tables.{TableView}
use Rattle.batch_plans.specs.declared.plan.Plan.{Plan}
use Rattle.batch_plans.specs.declared.plan.CallLine.{CallLine}
use Rattle.batch_plans.specs.Calls.{context_of, keeps_guess}
use Rattle.batch_plans.specs.Room.{opened_room}
use Rattle.batch_plans.specs.Progress.{Progress}
use Rattle.context_books.specs.Runs.{answer_line}
use Rattle.context_books.specs.LaneCalls.{opening_items}
use Rattle.context_books.specs.Writing.{PutsReplies}
use Rattle.lane_workers.specs.declared.works.LaneWork.{LaneWork}

-- the context of this number, where there is one and it stands
abbrev pub shared_at : List (Option SharedView) → ℕ → Option SharedView
shared_at contexts number = slice_index_or contexts number None

abbrev pub pass_at : List (Option PassView) → ℕ → Option PassView
pass_at passes number = slice_index_or passes number None

abbrev pub view_in : Option SharedView → Option ContextView
view_in None = None
view_in (Some s) = Some s.context

-- what is lent of a context
abbrev pub view_of : Option (Bor SharedView) → Option ContextView
view_of None = None
view_of (Some s) = Some s.now.context

abbrev pub with_progress : LaneWork → Progress → LaneWork
with_progress w progress = record w { progress = progress }

abbrev pub with_table : LaneWork → TableView → LaneWork
with_table w table = record w { table = table }

-- the contexts that stand
abbrev pub views : List (Option SharedView) → List (Option ContextView)
views contexts = map view_in contexts

-- ---- before a turn

-- the lane may take a turn at this call, and add so many entries
pub record CanTurn (w : LaneWork) (s : SharedView) (counter : Option (Bor CounterView))
    (number call count : ℕ) : Type 0 where
  pub pass : PassView
  pub holds : pass_at w.passes.items number ≡ Some pass
  pub low : number < length w.passes.items
  pub may : MayCall s.lock pass call count
  -- a turn more, for an opening's look at the number that is due
  pub turns : pass.turns + 1 < 4294967295
  pub seat : SeatView
  pub has : w.seat ≡ Some seat
  pub stamps : Bor CounterView
  pub counter_is : counter ≡ Some stamps
  pub same : s.lock.terms.counter ≡ stamps.now.id
  pub note : IsNote stamps.now.id seat

-- ---- after it

-- what a turn leaves as it was
pub record IsSame (old new : LaneWork) : Type 0 where
  pub lane : new.lane ≡ old.lane
  pub table : new.table ≡ old.table
  pub progress : new.progress ≡ old.progress

pub record Draws (old new : LaneWork) (number call : ℕ) (drawn : Draw) : Type 0 where
  pub pass : PassView
  pub was : pass_at old.passes.items number ≡ Some pass
  pub after : PassView
  pub seat : SeatView
  pub had : old.seat ≡ Some seat
  pub back : SeatView
  pub has_drawn : HasDrawn pass after seat back call drawn
  pub passes : new.passes.items ≡ slice_set old.passes.items number (Some after)
  pub seat_is : new.seat ≡ Some back
  pub same : IsSame old new
  pub steps : new.steps.items ≡ old.steps.items
  pub checks : new.checks ≡ old.checks

-- the same pass, a turn later or in no turn more
pub record IsSoonAfter (old new : PassView) : Type 0 where
  pub lock : new.lock ≡ old.lock
  pub number : new.number ≡ old.number
  pub turns : new.turns ≤ old.turns + 1

-- How the call of this line comes to its guess. An opening of several messages keeps its guess: it
-- looks at the number that is due, and guesses that. An opening of one message may look too, or take
-- no turn, and then it guesses any number. The pass comes back with what it had seen and entries of
-- other passes, if it has looked.
pub record HasGuessed (old new : PassView) (line : CallLine) (guess : ℕ) : Type 0 where
  pub after : IsSoonAfter old new
  pub next_call : new.next_call ≡ old.next_call
  pub others : AddedByOthers old.number old.seen new.seen
  pub due : keeps_guess line ≡ true → guess ≡ seq_of new.seen

pub record Guesses (old new : LaneWork) (line : CallLine) (number guess : ℕ) : Type 0 where
  pub pass : PassView
  pub was : pass_at old.passes.items number ≡ Some pass
  pub after : PassView
  pub has_guessed : HasGuessed pass after line guess
  pub passes : new.passes.items ≡ slice_set old.passes.items number (Some after)
  pub seat : new.seat ≡ old.seat
  pub same : IsSame old new
  pub steps : new.steps.items ≡ old.steps.items
  pub checks : new.checks ≡ old.checks

pub record Commits (old new : LaneWork) (view : ContextView) (number call : ℕ) (pool : List ℕ)
    (items : List Item) (first missed : ℕ) : Type 0 where
  pub pass : PassView
  pub was : pass_at old.passes.items number ≡ Some pass
  pub after : PassView
  pub seat : SeatView
  pub had : old.seat ≡ Some seat
  pub back : SeatView
  pub has_committed : HasCommitted pass after seat back call (opening_steps view first pool items)
      first
  pub passes : new.passes.items ≡ slice_set old.passes.items number (Some after)
  pub seat_is : new.seat ≡ Some back
  pub same : IsSame old new
  pub steps : take (length items) new.steps.items ≡ opening_steps view first pool items
  pub room : length new.steps.items ≡ length old.steps.items
  pub missed_is : missed ≡ opening_misses view first pool items old.table.guess
  pub checks : new.checks ≤ old.checks + missed

-- an opening, but that its guess isn't told yet: the guess, the test of the tags, the commit, and the
-- replies
pub record Opens (plan : Plan) (s : SharedView) (old new : LaneWork) (call : ℕ) (line : CallLine)
    (guess missed : ℕ) : Type 0 where
  pub guessed : LaneWork
  pub table : TableView
  pub committed : LaneWork
  pub first : ℕ
  pub guesses : Guesses old guessed line (context_of line) guess
  pub guess_is : table.guess ≡ guess
  pub rows : table.room ≡ old.table.room
  pub commits : Commits (with_table guessed table) committed s.context (context_of line) call plan.pool
      (opening_items plan line) first missed
  pub progress : Progress
  pub puts : PutsReplies old.progress progress (sum_by opened_room (opening_items plan line))
      (map answer_line (run (cipher_of s.context) first
      (unseals plan.pool (opening_items plan line))))
  pub new_is : new ≡ with_progress committed progress
