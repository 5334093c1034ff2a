-- The rule of the lock: what holds between any two atomic steps, whatever the schedule.
-- Word 0 is the turn, word 1 the ticket that is given out next, word 2 a mark of those who sleep, of
-- which the rule says nothing. Slot 0 has the value at home, or is empty while the one seat whose
-- ticket is the turn has it. The log is the list of entries of the value at home, or else the list
-- that its holder saw when it took the value.
use Rattle.std.specs.Prelude.{ℕ, ◌≡◌, ◌⊎◌, ◌+◌, ◌*◌, ◌<◌, ◌≤◌, true, List, [], ◌∷◌, Option, Some}
use mathlib.Core.Option.{some, none}
use mathlib.Core.Option as maybe
use mathlib.Core.List.{IsPrefix}
use lib.ListN.{get_elem?}
use Rattle.atomic_table.specs.Table.{State}
use Rattle.call_places.specs.declared.entries.Entry.{Entry}
use Rattle.call_places.specs.declared.listed.Terms.{Terms}
use Rattle.call_places.specs.Entries.{own}
use Rattle.turn_lock.specs.declared.views.View.{View}
use Rattle.turn_lock.specs.declared.views.Part.{Part}
use Rattle.turn_lock.specs.declared.views.Phase.{Phase}
use Rattle.turn_lock.specs.declared.views.Phase.TheVariants.{Idle, Waiting, Holding}
use Rattle.turn_lock.specs.Views.{part, most_turns, once_below, ticket_of, number_of, parts_of, tickets_of, total}

-- what was seen under a number begins the log, and has all of the log's entries of this lane
pub record Fits (log : List Entry) (p : Part) : Type 0 where
  pub begins : IsPrefix p.seen log
  pub whole : own p.number p.seen ≡ own p.number log

module _ {S : Type 0} (turn : ℕ) (homes : List (maybe.Option (Option S))) (log : List Entry)
    (parts : List Part) where
  -- whoever holds the value has the turn and one number, and saw the whole log; the slot is empty
  abbrev pub Holds : ℕ → Type 0
  Holds ticket = (ticket ≡ turn) × (homes ≡ none ∷ []) × ((n : ℕ) × (parts ≡ part n log ∷ []))

  -- what a seat's phase says of the table
  abbrev pub InPhase : Phase → Type 0
  InPhase Idle = Unit {0}
  InPhase (Waiting ticket) = Unit {0}
  InPhase (Holding ticket) = Holds ticket

-- what holds of the seat with this index, which has this view
pub record Seated {S : Type 0} (lock_terms : Terms) (turn count makes : ℕ)
    (homes : List (maybe.Option (Option S))) (log : List Entry) (seat : ℕ) (v : View) : Type 0 where
  -- each of its parts fits
  pub fits : (k : ℕ) (p : Part) → get_elem? v.parts k ≡ some p → Fits log p
  pub phase : InPhase turn homes log v.parts v.phase
  -- a bound for each number: summed over all seats, it keeps the ticket below 2 ^ 64
  pub few : tickets_of v ≤ most_turns * parts_of v
  -- one seat makes the numbers, and knows how many there are
  pub maker : v.makes ≡ true → (seat ≡ makes) × (v.made ≡ count)
  pub terms : 0 < parts_of v → v.terms ≡ lock_terms

module _ {S : Type 0} (entries : S → List Entry) (terms_of : S → Terms) (terms : Terms) (turn : ℕ)
    (log : List Entry) (s : State (Option S) View) where
  -- the value is in the slot
  pub record IsHome : Type 0 where
    pub value : S
    pub is : s.homes ≡ some (Some value) ∷ []
    pub entries_are : entries value ≡ log
    pub terms_are : terms_of value ≡ terms

  -- the value is with the seat whose ticket is the turn
  pub record IsOut : Type 0 where
    pub is : s.homes ≡ none ∷ []
    pub by : ℕ
    pub holder : View
    pub at : get_elem? s.views by ≡ some holder
    pub holds : holder.phase ≡ Holding turn

-- the rule of a lock with so many passes and these terms
pub record Kept {S : Type 0} (entries : S → List Entry) (terms_of : S → Terms) (passes : ℕ)
    (terms : Terms) (s : State (Option S) View) : Type 0 where
  pub turn : ℕ
  pub ticket : ℕ
  pub mark : ℕ
  pub log : List Entry
  -- how many numbers were made, and which seat makes them
  pub count : ℕ
  pub makes : ℕ
  -- the three words
  pub words : s.words ≡ turn ∷ ticket ∷ mark ∷ []
  -- the seats that wait or hold have the tickets from the turn on, each once
  pub tickets : (k : ℕ) → total (ticket_of k) s.views + once_below k turn ≡ once_below k ticket
  -- the value is in the slot, or with the seat that has the turn
  pub slot : IsHome entries terms_of terms turn log s ⊎ IsOut entries terms_of terms turn log s
  -- what each seat has seen begins the log and has all entries of its own; the terms are the lock's
  pub each : (seat : ℕ) (v : View) → get_elem? s.views seat ≡ some v
      → Seated terms turn count makes s.homes log seat v
  -- each ticket was taken by some seat
  pub taken : total tickets_of s.views ≡ ticket
  -- each number that was made is with one seat, once
  pub numbers : (k : ℕ) → total (number_of k) s.views ≡ once_below k count
  pub parts : total parts_of s.views ≡ count
  -- a number that was not made has no entry
  pub unmade : (k : ℕ) → count ≤ k → own k log ≡ []
  -- no more numbers are made than there are passes, which keeps the ticket below 2 ^ 64
  pub few : count ≤ passes
  pub room : passes < 65536
