-- The atomic steps of the lock: what becomes of a seat's view, and what a step tells its caller.
use Rattle.std.specs.Prelude.{ℕ, ◌≡◌, ◌≢◌, ◌+◌, ◌^◌, ◌<◌, true, false, ◌||◌, if◌then◌else◌, List, [], ◌∷◌, ◌++◌, Option, Some}
use mathlib.Core.List.{IsPrefix}
use Rattle.atomic_table.specs.Table.{Me}
use Rattle.call_places.specs.declared.entries.Entry.{Entry}
use Rattle.call_places.specs.declared.listed.Terms.{Terms}
use Rattle.call_places.specs.Entries.{own}
use Rattle.turn_lock.specs.declared.views.View.{View}
use Rattle.turn_lock.specs.declared.views.Phase.TheVariants.{Idle, Waiting, Holding}
use Rattle.call_places.specs.Terms.{no_terms}
use Rattle.turn_lock.specs.Views.{part}

-- the first seat has the number 0, and makes the others
abbrev pub first_view : Terms → View
first_view terms = record {
  phase = Idle;
  parts = part 0 [] ∷ [];
  turns = 0;
  makes = true;
  made = 1;
  terms = terms;
}

-- ---- a seat is split: one pass more

-- the seat that stays counts the number that was made
abbrev pub staying_view : View → View
staying_view v = record v { made = v.made + 1 }

-- the new seat has this number, and has seen nothing
abbrev pub new_view : View → View
new_view v = record {
  phase = Idle;
  parts = part v.made [] ∷ [];
  turns = 0;
  makes = false;
  made = 0;
  terms = v.terms;
}

-- ---- two seats are joined, at the close

-- the seat that stays has the numbers and turns of both
abbrev pub joined_view : View → View → View
joined_view v w = record {
  phase = Idle;
  parts = w.parts ++ v.parts;
  turns = v.turns + w.turns;
  makes = v.makes || w.makes;
  made = if v.makes then v.made else w.made;
  terms = v.terms;
}

-- the other is spent: it has no number
abbrev pub spent_view : View
spent_view = record {
  phase = Idle;
  parts = [];
  turns = 0;
  makes = false;
  made = 0;
  terms = no_terms;
}

-- ---- the steps of a turn. A seat is its view, and the slots that it has out with what is in them

module _ {S : Type 0} where
  -- a ticket was taken, and it is not the last that a word can count
  abbrev pub TookTicket : Me (Option S) View → ℕ → Me (Option S) View → Type 0
  TookTicket before ticket after =
      (ticket + 1 < 2 ^ 64) × (after.0 ≡ record before.0 { phase = Waiting ticket })
      × (after.1 ≡ before.1)

  -- a ticket was taken where this one was found, and else nothing changed
  abbrev pub TriedTicket : ℕ → Me (Option S) View → ℕ → Me (Option S) View → Type 0
  TriedTicket ticket before found after =
      (found ≡ ticket → TookTicket before ticket after) × (found ≢ ticket → after ≡ before)

  -- a step that tells nothing
  abbrev pub Unchanged : Me (Option S) View → Me (Option S) View → Type 0
  Unchanged before after = after ≡ before

  -- the value was taken: its entries begin with those seen, and it has no others of this number
  pub record TookValue (entries : S → List Entry) (terms_of : S → Terms) (before : Me (Option S) View)
      (turn : ℕ) (after : Me (Option S) View) : Type 0 where
    pub value : S
    pub number : ℕ
    pub seen : List Entry
    pub was : before.0.parts ≡ part number seen ∷ []
    pub view : after.0
        ≡ record before.0 { phase = Holding turn; parts = part number (entries value) ∷ [] }
    pub slots : after.1 ≡ (0, Some value) ∷ before.1
    pub begins : IsPrefix seen (entries value)
    pub whole : own number seen ≡ own number (entries value)
    pub terms_are : terms_of value ≡ before.0.terms

  -- a look at the turn takes the value where the turn is the ticket, and else changes nothing
  abbrev pub Looked : (S → List Entry) → (S → Terms)
      → Me (Option S) View → ℕ → Me (Option S) View → Type 0
  Looked entries terms_of before turn after =
      (before.0.phase ≡ Waiting turn → TookValue entries terms_of before turn after)
      × (before.0.phase ≢ Waiting turn → after ≡ before)

  -- the value was given back, and the turn went on
  pub record GaveValue (entries : S → List Entry) (before after : Me (Option S) View) : Type 0 where
    pub value : S
    pub number : ℕ
    pub seen : List Entry
    pub was : before.0.parts ≡ part number seen ∷ []
    pub slots : before.1 ≡ (0, Some value) ∷ after.1
    pub view : after.0 ≡ record before.0 {
      phase = Idle;
      parts = part number (entries value) ∷ [];
      turns = before.0.turns + 1;
    }
