-- Spots that are dealt to piles one after another, and the lists of lanes that are made so.
use Rattle.std.specs.Prelude.{ℕ, ◌+◌, List, [], ◌∷◌}
use Rattle.call_places.specs.declared.entries.Mark.{Mark}
use Rattle.context_books.specs.Batches.{Spot}
use Rattle.context_books.specs.Histories.{mark}
use Rattle.journal_check.specs.declared.asks.Asked.{Asked}
use Rattle.journal_check.specs.Histories.{spots_from}
use Rattle.journal_check.specs.Piles.{put_on}

-- each spot goes onto the pile of its lane
abbrev pub by_lane : List (List Spot) → List Spot → List (List Spot)
by_lane piles [] = piles
by_lane piles (s ∷ ss) = by_lane (put_on piles s.place.lane s) ss

-- the place of each spot of a history goes onto the pile of its context, with its stamp; the first
-- has this one
abbrev pub by_context_stamped : List (List Mark) → ℕ → List Spot → List (List Mark)
by_context_stamped piles stamp [] = piles
by_context_stamped piles stamp (s ∷ ss) =
    by_context_stamped (put_on piles s.context (mark s.place stamp)) (stamp + 1) ss

-- those that lanes ask for, from this lane on
abbrev pub lanes_from : ℕ → List (List Asked) → List (List Spot)
lanes_from lane [] = []
lanes_from lane (calls ∷ more) = spots_from lane 0 calls ∷ lanes_from (lane + 1) more
