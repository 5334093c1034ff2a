-- ---- for the proofs: places that are dealt to piles, by the number of a context or of a lane
use Rattle.std.specs.Prelude.{ℕ, ◌≡◌, ◌≤◌, ◌<◌, ◌+◌, Bool, List, [], ◌∷◌, ◌++◌, length, map, take, slice_set, slice_index_or, None}
use Rattle.std.specs.List.{flat_map, range_with_len}
use Rattle.call_places.specs.declared.entries.Place.{Place}
use Rattle.call_places.specs.declared.entries.Mark.{Mark}
use Rattle.context_books.specs.Batches.{Batch, Spot, spots, lane_of, own_places}
use Rattle.context_books.specs.Merging.{all_asked, lane_places, own_spots}
use Rattle.context_books.specs.Histories.{marks_at, places}
use Rattle.result_lines.specs.Journals.{broken_journal}

-- an item goes onto the pile of this number, where there is one
abbrev pub put_on : {X : Type 0} → List (List X) → ℕ → X → List (List X)
put_on piles number x = slice_set piles number (slice_index_or piles number [] ++ x ∷ [])

-- the place of each spot goes onto the pile of its context
abbrev pub by_context : List (List Place) → List Spot → List (List Place)
by_context piles [] = piles
by_context piles (s ∷ ss) = by_context (put_on piles s.context s.place) ss

-- the spots of several lists, one list after another
abbrev pub joined : List (List Spot) → List Spot
joined lists = flat_map (λ list. list) lists

-- those of the journals of contexts, from this one on
abbrev pub spots_told : ℕ → List (List Mark) → List Spot
spots_told context [] = []
spots_told context (marks ∷ more) = spots context (places marks) ++ spots_told (context + 1) more

-- the spots of each of so many lanes in a history
abbrev pub lanes_told : ℕ → List Spot → List (List Spot)
lanes_told lanes history = map (λ lane. own_spots lane history) (range_with_len 0 lanes)

-- those that each lane of a batch asks for
abbrev pub lanes_asked : Batch → List (List Spot)
lanes_asked batch =
    map (λ lane. all_asked lane 0 (lane_of batch lane)) (range_with_len 0 (length batch))

-- the places of so many lanes, lane by lane
abbrev pub in_lanes : ℕ → List Place → List Place
in_lanes lanes ps = flat_map (λ lane. own_places lane ps) (range_with_len 0 lanes)

-- those that all lanes ask for on a context, lane by lane
abbrev pub asked_on : Batch → ℕ → List Place
asked_on batch context =
    flat_map (λ lane. lane_places context lane (lane_of batch lane)) (range_with_len 0 (length batch))

-- of each journal of contexts from this one on, one place more than are asked for on it, or all
abbrev pub kept_from : Batch → ℕ → List (List Mark) → List (List Mark)
kept_from batch context [] = []
kept_from batch context (marks ∷ more) =
    take (length (asked_on batch context) + 1) marks ∷ kept_from batch (context + 1) more

-- what is kept of journals: no more places than may be legal, and of legal ones all
pub record IsKept (batch : Batch) (journals kept : List (List Mark)) : Type 0 where
  pub size : length kept ≡ length journals
  pub few : (c : ℕ) → c < length journals
      → length (marks_at kept c) ≤ length (asked_on batch c) + 1
  pub broken : (stamps : Bool)
      → broken_journal stamps batch 0 kept ≡ broken_journal stamps batch 0 journals
  pub whole : (stamps : Bool) → broken_journal stamps batch 0 journals ≡ None → kept ≡ journals
