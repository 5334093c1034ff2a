-- ---- for the proofs: places that are put where their stamps say
use Rattle.std.specs.Prelude.{ℕ, ◌≡◌, ◌+◌, ◌&&◌, nat_lt, Bool, List, [], ◌∷◌, ◌++◌, length, slice_get, Some}
use Rattle.call_places.specs.declared.entries.Mark.{Mark}
use Rattle.context_books.specs.Batches.{Spot, block, spots}
use Rattle.context_books.specs.Histories.{marks_at}
use Rattle.context_books.specs.Lists.{In}
use Rattle.journal_check.specs.declared.asks.Asked.{Asked}

abbrev pub spot_of : ℕ → Mark → Spot
spot_of context m = record { context = context; place = m.place }

-- each mark's place is that of the history at its stamp
abbrev pub AreAt : List Spot → ℕ → List Mark → Type 0
AreAt history context marks = (m : Mark) → In m marks
    → slice_get history m.stamp ≡ Some (spot_of context m)

-- at this stamp both histories have the same place, or none
abbrev pub Agree : List Spot → List Spot → ℕ → Type 0
Agree history other stamp = slice_get other stamp ≡ slice_get history stamp

-- what a journal puts into a list of spots: of any history that has all its places, those places
pub record Puts (old new : List Spot) (context : ℕ) (marks : List Mark) : Type 0 where
  pub size : length new ≡ length old
  pub kept : (history : List Spot) (stamp : ℕ) → length history ≡ length old
      → AreAt history context marks → Agree history old stamp → Agree history new stamp
  pub put : (history : List Spot) (m : Mark) → length history ≡ length old
      → AreAt history context marks → In m marks → Agree history new m.stamp

abbrev pub AllAt : List Spot → ℕ → List (List Mark) → Type 0
AllAt history first journals = (c : ℕ) → AreAt history (first + c) (marks_at journals c)

-- the same of the journals of all contexts, from this number on
pub record PutsAll (old new : List Spot) (first : ℕ) (journals : List (List Mark)) : Type 0 where
  pub size : length new ≡ length old
  pub kept : (history : List Spot) (stamp : ℕ) → length history ≡ length old
      → AllAt history first journals → Agree history old stamp → Agree history new stamp
  pub put : (history : List Spot) (c : ℕ) (m : Mark) → length history ≡ length old
      → AllAt history first journals → In m (marks_at journals c) → Agree history new m.stamp

-- the places of a call, each with its context
abbrev pub spots_asked : ℕ → ℕ → Asked → List Spot
spots_asked lane number asked = spots asked.context (block lane number 0 asked.count)

-- those of calls, from this number on
abbrev pub spots_from : ℕ → ℕ → List Asked → List Spot
spots_from lane number [] = []
spots_from lane number (asked ∷ more) =
    spots_asked lane number asked ++ spots_from lane (number + 1) more

-- a spot is on one of so many contexts, and of one of so many lanes
abbrev pub is_within : ℕ → ℕ → Spot → Bool
is_within contexts lanes s = nat_lt s.context contexts && nat_lt s.place.lane lanes
