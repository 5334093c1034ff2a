-- What contracts see of a lock, of its passes, and of a value that is held.
use Rattle.std.specs.Prelude.{ℕ, ◌≡◌, ◌≢◌, ◌+◌, zero, suc, List, [], ◌∷◌, ◌++◌, Option, Some, None, All}
use mathlib.Core.List.{IsPrefix}
use Rattle.atomic_table.specs.Seated.{TableId}
use Rattle.call_places.specs.declared.entries.Entry.{Entry}
use Rattle.call_places.specs.declared.listed.Terms.{Terms}
use Rattle.call_places.specs.Entries.{own, IsOwn, CallsWithin, PlacesRise}
use Rattle.call_places.specs.Orders.{last_of}

-- which lock it is, and the terms of its value, which never change
pub record LockId : Type 0 where
  pub table : TableId
  pub terms : Terms

-- a lock, and how many passes it was made with
pub record LockView : Type 0 where
  pub lock : LockId
  pub passes : ℕ

-- a pass: its entries are those of the lane with its number
pub record PassView : Type 0 where
  pub lock : LockId
  pub number : ℕ
  -- the entries that the value had when the pass last came back, the oldest first
  pub seen : List Entry
  pub turns : ℕ
  pub next_call : ℕ

-- passes that are left, and how many there were when the list was made
pub record PassListView : Type 0 where
  pub passes : List PassView
  pub made : ℕ

-- a value that a pass holds. What was seen are the value's entries when it was taken
pub record HeldView (V : Type 0) : Type 0 where
  pub lock : LockId
  pub number : ℕ
  pub seen : List Entry
  pub turns : ℕ
  pub next_call : ℕ
  pub value : V

-- ---- passes that have taken no turn

abbrev pub fresh_pass : LockId → ℕ → PassView
fresh_pass lock number =
    record { lock = lock; number = number; seen = []; turns = 0; next_call = 0 }

-- so many of them, numbered from here on
abbrev pub fresh_from : LockId → ℕ → ℕ → List PassView
fresh_from lock number zero = []
fresh_from lock number (suc n) = fresh_pass lock number ∷ fresh_from lock (number + 1) n

-- ---- a turn

-- the value is held by this pass
pub record IsHeldBy {V : Type 0} (held : HeldView V) (pass : PassView) : Type 0 where
  pub lock : held.lock ≡ pass.lock
  pub number : held.number ≡ pass.number
  pub turns : held.turns ≡ pass.turns
  pub next_call : held.next_call ≡ pass.next_call

-- only entries of other passes than the one with this number were added
abbrev pub AddedByOthers : ℕ → List Entry → List Entry → Type 0
AddedByOthers number before after =
    (others : List Entry) × (after ≡ before ++ others) × (own number others ≡ [])

-- these entries were added, and the pass may add them: they are its own, their places rise, and their
-- calls are at least its next call and leave room for one more
pub record MayAdd (number next_call : ℕ) (before after added : List Entry) : Type 0 where
  pub adds : after ≡ before ++ added
  pub mine : IsOwn number added
  pub calls : CallsWithin next_call 4294967295 added
  pub rise : PlacesRise added

-- one above the call of this entry, where there is one
abbrev pub next_above : ℕ → Option Entry → ℕ
next_above next_call None = next_call
next_above next_call (Some e) = e.place.call + 1

-- the next call, once these entries were added: one above the last one's
abbrev pub next_after : ℕ → List Entry → ℕ
next_after next_call added = next_above next_call (last_of added)

-- ---- the close

-- each pass is of this lock
abbrev pub AllOf : LockId → List PassView → Type 0
AllOf lock passes = All (λ p. p.lock ≡ lock) passes

-- the entries begin with what the pass has seen, which has all of the pass's own entries
pub record IsShown (entries : List Entry) (pass : PassView) : Type 0 where
  pub begins : IsPrefix pass.seen entries
  pub whole : own pass.number pass.seen ≡ own pass.number entries

-- no pass has this number
abbrev pub NoneHas : ℕ → List PassView → Type 0
NoneHas number passes = All (λ p. p.number ≢ number) passes

-- no entry has a lane that is no pass's number
abbrev pub NoOthers : List Entry → List PassView → Type 0
NoOthers entries passes = (number : ℕ) → NoneHas number passes → own number entries ≡ []
