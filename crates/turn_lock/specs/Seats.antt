-- What a pass, a list of passes and a held value keep: the seat at the lock's table behind each.
use Rattle.std.specs.Prelude.{ℕ, ◌≡◌, ◌+◌, ◌^◌, ◌==◌, ◌&&◌, nat_le, if◌then◌else◌, ◌<◌, List, [], ◌∷◌, Option, Some, None}
use Rattle.atomic_table.specs.Seated.{TableId}
use Rattle.atomic_table.specs.Table.{Me}
use Rattle.call_places.specs.declared.entries.Entry.{Entry}
use Rattle.call_places.specs.declared.listed.Terms.{Terms}
use Rattle.call_places.specs.Entries.{own, CallsWithin}
use Rattle.turn_lock.specs.declared.views.View.{View}
use Rattle.turn_lock.specs.declared.views.Part.{Part}
use Rattle.turn_lock.specs.declared.views.Phase.TheVariants.{Idle, Holding}
use Rattle.call_places.specs.Terms.{no_terms}
use Rattle.turn_lock.specs.Views.{part}
use Rattle.turn_lock.specs.Steps.{first_view, TookTicket}
use Rattle.turn_lock.specs.Passes.{PassView}

-- ---- for the proofs

-- the entries seen under the first number
abbrev pub seen_in : List Part → List Entry
seen_in [] = []
seen_in (p ∷ parts) = p.seen

-- the same of a badge's first view
abbrev pub seen_of : List View → List Entry
seen_of [] = []
seen_of (v ∷ views) = seen_in v.parts

-- the terms in a badge's first view
abbrev pub terms_of : List View → Terms
terms_of [] = no_terms
terms_of (v ∷ views) = v.terms

-- the one view of a pass's badge: it is idle, and has one number
pub record IsIdle (views : List View) (number turns next_call : ℕ) : Type 0 where
  pub view : View
  pub is : views ≡ view ∷ []
  pub idle : view.phase ≡ Idle
  pub parts : view.parts ≡ part number (seen_of views) ∷ []
  pub turns_are : view.turns ≡ turns
  pub calls : CallsWithin 0 next_call (own number (seen_of views))

-- the seat of a held value: it has the turn, and the slot is empty
pub record IsHolding {V : Type 0} (me : Me (Option V) View)
    (ticket number turns next_call : ℕ) : Type 0 where
  pub holds : me.0.phase ≡ Holding ticket
  pub parts : me.0.parts ≡ part number (seen_in me.0.parts) ∷ []
  pub slots : me.1 ≡ (0, None) ∷ []
  pub turns_are : me.0.turns ≡ turns
  pub more_turns : turns < 4294967295
  pub more_tickets : ticket + 1 < 2 ^ 64
  pub calls : CallsWithin 0 next_call (own number (seen_in me.0.parts))

-- a seat that may take a ticket
pub record MayTake {V : Type 0} (me : Me (Option V) View) : Type 0 where
  pub number : ℕ
  pub seen : List Entry
  pub idle : me.0.phase ≡ Idle
  pub parts : me.0.parts ≡ part number seen ∷ []
  pub more_turns : me.0.turns < 4294967295

-- it took the ticket, or nothing changed
abbrev pub HasTried : {V : Type 0} → Me (Option V) View → Me (Option V) View → Option ℕ → Type 0
HasTried before after None = after ≡ before
HasTried before after (Some ticket) = TookTicket before ticket after

-- the seat of a pass
abbrev pub IsSeatOf : {S : Type 0} → PassView → TableId → Me S View → Type 0
IsSeatOf pass table me =
    (table ≡ pass.lock.table) × (me.1 ≡ []) × (me.0.phase ≡ Idle)
    × (me.0.parts ≡ part pass.number pass.seen ∷ [])

-- the badge of a pass that has taken no turn
pub record IsFresh (views : List View) (number : ℕ) : Type 0 where
  pub view : View
  pub is : views ≡ view ∷ []
  pub idle : view.phase ≡ Idle
  pub parts : view.parts ≡ part number [] ∷ []
  pub turns_are : view.turns ≡ 0

-- the view of the first seat, once so many numbers were made
abbrev pub dealing_view : Terms → ℕ → View
dealing_view terms made = record (first_view terms) { made = made }

-- the parts of a seat that these passes were joined into
abbrev pub parts_from : List PassView → List Part
parts_from [] = []
parts_from (p ∷ passes) = part p.number p.seen ∷ parts_from passes

-- the next call of a pass, from the last entry of the value that it held: one above it, where it is
-- the pass's own and no earlier one
abbrev pub next_from : ℕ → ℕ → Option Entry → ℕ
next_from number next_call None = next_call
next_from number next_call (Some e) =
    if (e.place.lane == number) && nat_le next_call e.place.call then e.place.call + 1
    else next_call
