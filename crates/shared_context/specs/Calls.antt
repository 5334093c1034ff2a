-- What the calls of a shared context do to a pass, and to the seat of its lane.
use Rattle.std.specs.Prelude.{ℕ, ◌≡◌, ◌↔◌, ◌+◌, ◌<◌, ◌≤◌, List, [], ◌∷◌, ◌++◌, length}
use Rattle.call_places.specs.declared.entries.Entry.{Entry}
use Rattle.call_places.specs.declared.entries.Step.{Step}
use Rattle.call_places.specs.Entries.{seq_of}
use Rattle.turn_lock.specs.Passes.{LockId, PassView, AddedByOthers, next_after}
use Rattle.stamp_counter.specs.Seats.{SeatView}
use Rattle.hpke_context.specs.Contexts.{ContextView}
use Rattle.context_books.specs.Batches.{place}
use Rattle.context_books.specs.Entries.{entry, entries_from}
use Rattle.context_books.specs.Books.{drawn_step}
use Rattle.context_books.specs.declared.book.Draw.{Draw}
use Rattle.context_books.specs.declared.book.Draw.TheVariants.{Number, Limit}
use Rattle.stamp_counter.specs.Stamps.{ComesAfter}
pub use Rattle.stamp_counter.specs.Turns.{MayCall, IsAfter}

-- a context, the lock round its book, and how many passes there are
pub record SharedView : Type 0 where
  pub context : ContextView
  pub lock : LockId
  pub passes : ℕ

-- A draw. The pass comes back with what it had seen, entries of other passes, and the entry of this
-- draw, whose stamp comes after theirs.
pub record HasDrawn (old new : PassView) (seat back : SeatView) (call : ℕ) (d : Draw) : Type 0 where
  pub after : IsAfter old new
  pub next_call : new.next_call ≡ call + 1
  pub before : List Entry
  pub others : AddedByOthers old.number old.seen before
  pub stamp : ℕ
  pub stamps : ComesAfter old.lock.terms.counter seat back before stamp 1
  pub added : new.seen
      ≡ before ++ entry (place old.number call 0) stamp (drawn_step d) ∷ []
  -- the number is that of the entry, and there is none exactly where that is LIMIT
  pub limit : (d ≡ Limit) ↔ (seq_of before ≡ old.lock.terms.limit)
  pub number : (n : ℕ) → d ≡ Number n → (n ≡ seq_of before) × (n < old.lock.terms.limit)

-- A look at the number that is due. The pass comes back with what it had seen and entries of other
-- passes.
pub record HasPeeked (old new : PassView) (number : ℕ) : Type 0 where
  pub after : IsAfter old new
  pub next_call : new.next_call ≡ old.next_call
  pub others : AddedByOthers old.number old.seen new.seen
  pub due : number ≡ seq_of new.seen
  pub most : number ≤ old.lock.terms.limit

-- An opening with these steps. The pass comes back with what it had seen, entries of other passes,
-- and the entries of this call side by side, whose stamps follow one another and come after theirs.
pub record HasCommitted (old new : PassView) (seat back : SeatView) (call : ℕ) (steps : List Step)
    (number : ℕ) : Type 0 where
  pub after : IsAfter old new
  pub before : List Entry
  pub others : AddedByOthers old.number old.seen before
  pub first : ℕ
  pub stamps : ComesAfter old.lock.terms.counter seat back before first (length steps)
  pub added : new.seen ≡ before ++ entries_from old.number call 0 first steps
  pub next_call : new.next_call
      ≡ next_after old.next_call (entries_from old.number call 0 first steps)
  -- the number is that which was due before the first of them
  pub due : number ≡ seq_of before
  pub most : number ≤ old.lock.terms.limit
