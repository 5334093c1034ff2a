-- What one seat at the lock's table knows, and sums over all seats.
use Rattle.std.specs.Prelude.{ℕ, zero, suc, ◌+◌, ◌==◌, if◌then◌else◌, List, [], ◌∷◌, length}
use Rattle.call_places.specs.declared.entries.Entry.{Entry}
use Rattle.turn_lock.specs.declared.views.View.{View}
use Rattle.turn_lock.specs.declared.views.Part.{Part}
use Rattle.turn_lock.specs.declared.views.Phase.{Phase}
use Rattle.turn_lock.specs.declared.views.Phase.TheVariants.{Idle, Waiting, Holding}

-- a number, with the entries that were seen under it
abbrev pub part : ℕ → List Entry → Part
part number seen = record { number = number; seen = seen }

-- no pass takes more turns
abbrev pub most_turns : ℕ
most_turns = 4294967295

-- 1 where the two are equal, else 0
abbrev pub once : ℕ → ℕ → ℕ
once k n = if n == k then 1 else 0

-- 1 where k is below n, else 0
abbrev pub once_below : ℕ → ℕ → ℕ
once_below k zero = 0
once_below k (suc n) = once k n + once_below k n

-- how often a phase has the ticket k
abbrev pub ticket_in : ℕ → Phase → ℕ
ticket_in k Idle = 0
ticket_in k (Waiting ticket) = once k ticket
ticket_in k (Holding ticket) = once k ticket

-- how many tickets are in use in a phase
abbrev pub tickets_in_use : Phase → ℕ
tickets_in_use Idle = 0
tickets_in_use (Waiting ticket) = 1
tickets_in_use (Holding ticket) = 1

-- how often the number k is among these parts
abbrev pub number_in : ℕ → List Part → ℕ
number_in k [] = 0
number_in k (p ∷ parts) = once k p.number + number_in k parts

-- how often a view has the ticket k
abbrev pub ticket_of : ℕ → View → ℕ
ticket_of k v = ticket_in k v.phase

-- how often a view has the number k
abbrev pub number_of : ℕ → View → ℕ
number_of k v = number_in k v.parts

-- how many numbers a view has
abbrev pub parts_of : View → ℕ
parts_of v = length v.parts

-- how many tickets a view took: one for each turn that is over, and the one in use
abbrev pub tickets_of : View → ℕ
tickets_of v = v.turns + tickets_in_use v.phase

-- the sum of a count over all views
abbrev pub total : (View → ℕ) → List View → ℕ
total count [] = 0
total count (v ∷ views) = count v + total count views
