-- What the rule of the lock gives, and that it holds at the start and over each atomic step.
use Rattle.std.specs.Prelude.{ℕ, ◌≡◌, ◌+◌, ◌%◌, ◌^◌, ◌==◌, ◌<◌, ◌≤◌, true, List, [], ◌∷◌, ◌++◌, Option, Some}
use mathlib.Core.Option.{some}
use prog.Atomic.{either}
use lib.ListN.{get_elem?}
use Rattle.atomic_table.specs.Table.{State, Me, Allows, Splits, Joins, opening}
use Rattle.call_places.specs.declared.entries.Entry.{Entry}
use Rattle.call_places.specs.declared.listed.Terms.{Terms}
use Rattle.call_places.specs.Entries.{IsOwn}
use Rattle.turn_lock.specs.declared.views.View.{View}
use Rattle.turn_lock.specs.declared.views.Phase.TheVariants.{Idle, Waiting, Holding}
use Rattle.turn_lock.specs.Views.{part, most_turns, parts_of, number_of}
use Rattle.turn_lock.specs.Rule.{Kept}
use Rattle.turn_lock.specs.Steps.{first_view, staying_view, new_view, joined_view, spent_view, TriedTicket, Unchanged, Looked, GaveValue}

module _ {S : Type 0} (entries : S → List Entry) (terms_of : S → Terms) (passes : ℕ)
    (terms : Terms) where
  abbrev pub TheState : Type 0
  TheState = State (Option S) View

  abbrev pub Seat : Type 0
  Seat = Me (Option S) View

  abbrev pub TheRule : TheState → Type 0
  TheRule = Kept entries terms_of passes terms

  -- the turn is no later than the ticket that is given out next
  abbrev pub TurnIsGivenOut : Type 0
  TurnIsGivenOut = (s : TheState) (r : TheRule s) → r.turn ≤ r.ticket

  -- two seats that hold the value are one
  abbrev pub OneHolds : Type 0
  OneHolds = (s : TheState) (i j k l : ℕ) (u v : View) → TheRule s
      → get_elem? s.views i ≡ some u → get_elem? s.views j ≡ some v
      → u.phase ≡ Holding k → v.phase ≡ Holding l → i ≡ j

  -- two seats that wait with one ticket are one
  abbrev pub OneWaits : Type 0
  OneWaits = (s : TheState) (i j k : ℕ) (u v : View) → TheRule s
      → get_elem? s.views i ≡ some u → get_elem? s.views j ≡ some v
      → u.phase ≡ Waiting k → v.phase ≡ Waiting k → i ≡ j

  -- two seats that have one number are one
  abbrev pub OneHasNumber : Type 0
  OneHasNumber = (s : TheState) (i j n : ℕ) (u v : View) → TheRule s
      → get_elem? s.views i ≡ some u → get_elem? s.views j ≡ some v
      → 1 ≤ number_of n u → 1 ≤ number_of n v → i ≡ j

  -- the rule holds of a new table, and each step keeps it, whatever state it finds
  pub record StepsKeep : Type 0 where
    pub start : (value : S) → entries value ≡ [] → terms_of value ≡ terms
        → 0 < passes → passes < 65536
        → TheRule (opening (0 ∷ 0 ∷ 0 ∷ []) (Some value ∷ []) (first_view terms))
    -- an idle seat takes a ticket: one is added to word 1, where it is this ticket
    pub ticket : (slots id : ℕ) (me : Seat) (n old : ℕ) (seen : List Entry)
        → me.0.phase ≡ Idle → me.0.parts ≡ part n seen ∷ [] → me.0.turns < most_turns
        → Allows TheRule slots id me 1 (λ found. either (found == old) ((old + 1) % 2 ^ 64) found)
        (TriedTicket old me)
    -- any seat marks word 2
    pub marks : (slots id : ℕ) (me : Seat) (new : ℕ)
        → Allows TheRule slots id me 2 (λ _. new) (λ _. Unchanged me)
    -- a seat that waits looks at word 0, and takes the slot where the turn is its own
    pub look : (slots id : ℕ) (me : Seat) (k n : ℕ) (seen : List Entry)
        → me.0.phase ≡ Waiting k → me.0.parts ≡ part n seen ∷ []
        → Allows TheRule slots id me 0 (λ found. found) (Looked entries terms_of me)
    -- the holder gives the slot, with entries of its own added, and advances word 0
    pub advance : (slots id : ℕ) (me : Seat) (k n : ℕ) (seen added : List Entry) (value : S)
        → me.0.phase ≡ Holding k → me.0.parts ≡ part n seen ∷ [] → me.1 ≡ (0, Some value) ∷ []
        → terms_of value ≡ me.0.terms → entries value ≡ seen ++ added → IsOwn n added
        → Allows TheRule slots id me 0 (λ _. k + 1) (λ _. GaveValue entries me)
    -- the seat that makes the numbers is split
    pub split : (id : ℕ) (v : View)
        → v.phase ≡ Idle → v.makes ≡ true → v.made < passes → 0 < parts_of v
        → Splits TheRule id v (staying_view v) (new_view v)
    -- an idle seat takes in another
    pub join : (id : ℕ) (v : View) (other : ℕ) (w : View)
        → v.phase ≡ Idle → w.phase ≡ Idle → 0 < parts_of v
        → Joins TheRule id v other w (joined_view v w) spent_view
