-- Journals lane by lane: what the places of each lane are.
use Rattle.std.specs.Prelude.{ℕ, ◌≡◌, List, ◌+◌, [], ◌∷◌, ◌++◌, ◌==◌, ◌<◌, filter, Contains}
use Rattle.call_places.specs.declared.entries.Place.{Place}
use Rattle.context_books.specs.Batches.{Batch, block, lane_of, own_places, Ask, Spot, asked, on, spots, place}
use Rattle.context_books.specs.Legal.{OpensOn, StandTogether}

-- the places that all calls of a lane ask for, from this call on, in order
abbrev pub all_asked : ℕ → ℕ → List Ask → List Spot
all_asked lane call [] = []
all_asked lane call (ask ∷ asks) = asked lane call ask ++ all_asked lane (call + 1) asks

-- those on one context
abbrev pub lane_places : ℕ → ℕ → List Ask → List Place
lane_places context lane asks = on context (all_asked lane 0 asks)

-- A journal of one context: the places of each lane are those that it asks for, in order, and
-- openings of several messages stand together.
pub record MergesLanes (batch : Batch) (context : ℕ) (journal : List Place) : Type 0 where
  pub lanes : (lane : ℕ) → own_places lane journal ≡ lane_places context lane (lane_of batch lane)
  pub together : (lane call n : ℕ) → OpensOn batch context lane call n
      → StandTogether journal (block lane call 0 n)

-- the places of one lane in a history, in their order
abbrev pub own_spots : ℕ → List Spot → List Spot
own_spots lane ss = filter (λ s. s.place.lane == lane) ss

-- a list of places of so many contexts is a history of the batch
pub record IsHistory (batch : Batch) (contexts : ℕ) (history : List Spot) : Type 0 where
  pub within : (s : Spot) → Contains history s → s.context < contexts
  -- each lane's places are those that it asks for, in order
  pub lanes : (lane : ℕ) → own_spots lane history ≡ all_asked lane 0 (lane_of batch lane)
  -- those of one opening of several messages stand next to one another
  pub together : (context lane call n : ℕ) → OpensOn batch context lane call n
      → (front after : List Spot)
      × (history ≡ front ++ (spots context (block lane call 0 n) ++ after))
