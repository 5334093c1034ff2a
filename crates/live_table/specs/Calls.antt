-- What a note does to a pass, and to the seat of its lane.
use Rattle.std.specs.Prelude.{ℕ, ◌≡◌, ◌+◌, Bool, List, [], ◌∷◌, ◌++◌}
use Rattle.call_places.specs.declared.entries.Act.{Act}
use Rattle.call_places.specs.declared.entries.Entry.{Entry}
use Rattle.call_places.specs.Notes.{note_entry, live_at}
use Rattle.turn_lock.specs.Passes.{LockId, PassView, AddedByOthers}
use Rattle.stamp_counter.specs.Seats.{SeatView}
use Rattle.stamp_counter.specs.Stamps.{ComesAfter}
use Rattle.stamp_counter.specs.Turns.{IsAfter}

-- how many names there are, the lock round the notes, and how many passes there are
pub record TableView : Type 0 where
  pub names : ℕ
  pub lock : LockId
  pub passes : ℕ

-- A note. The pass comes back with what it had seen, entries of other passes, and the entry of this
-- note, whose stamp comes after theirs. It tells whether the name was live after the entries before it.
pub record HasNoted (old new : PassView) (seat back : SeatView) (call name : ℕ) (act : Act)
    (live : Bool) : Type 0 where
  pub after : IsAfter old new
  pub next_call : new.next_call ≡ call + 1
  pub before : List Entry
  pub others : AddedByOthers old.number old.seen before
  pub stamp : ℕ
  pub stamps : ComesAfter old.lock.terms.counter seat back before stamp 1
  pub added : new.seen
      ≡ before ++ note_entry (record { lane = old.number; call = call; item = 0 }) stamp name act live ∷ []
  pub tells : live ≡ live_at before name
