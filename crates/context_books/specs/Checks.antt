-- Tests of given journals and guesses, which compute. The laws say that they pass exactly where the
-- definitions hold.
use Rattle.std.specs.Prelude.{ℕ, ◌+◌, ◌==◌, ◌&&◌, ◌||◌, not, nat_lt, nat_le, Bool, true, false, List, [], ◌∷◌, ◌++◌, length, map, filter, flat_map, slice_get, Option, Some, None}
use Rattle.std.specs.List.{list_all, range_with_len}
use Rattle.call_places.specs.declared.entries.Place.{Place}
use Rattle.call_places.specs.declared.entries.Mark.{Mark}
use Rattle.hpke_context.specs.Answers.{Cipher}
use Rattle.context_books.specs.Batches.{Batch, Ask, Nothing, ToSeal, ToOpen, ToOpenAll, Spot, spots, place, lane_of, own_places}
use Rattle.context_books.specs.Merging.{lane_places, all_asked, own_spots}
use Rattle.context_books.specs.Legal.{is_same_place}
use Rattle.context_books.specs.Guesses.{least_guess, greatest_guess}
use Rattle.context_books.specs.Histories.{places, all_stamps, journals_of}

-- ---- a journal

-- the same list, where the test tells which elements are the same
abbrev pub are_same : {X : Type 0} → (X → X → Bool) → List X → List X → Bool
are_same test [] [] = true
are_same test [] (y ∷ ys) = false
are_same test (x ∷ xs) [] = false
are_same test (x ∷ xs) (y ∷ ys) = test x y && are_same test xs ys

-- the places of this lane are those that it asks for, in order
abbrev pub has_lane : Batch → ℕ → List Place → ℕ → Bool
has_lane batch context journal lane =
    are_same is_same_place (own_places lane journal) (lane_places context lane (lane_of batch lane))

-- no place is of a lane that isn't there; each lane's places are those that it asks for, in order
abbrev pub has_lanes : Batch → ℕ → List Place → Bool
has_lanes batch context journal =
    list_all (λ p. nat_lt p.lane (length batch)) journal
    && list_all (has_lane batch context journal) (range_with_len 0 (length batch))

-- the item of this number is followed by another one of its opening
abbrev pub goes_on_in : Option Ask → ℕ → Bool
goes_on_in None i = false
goes_on_in (Some Nothing) i = false
goes_on_in (Some (ToSeal context aad text)) i = false
goes_on_in (Some (ToOpen context aad ct)) i = false
goes_on_in (Some (ToOpenAll context messages)) i = nat_lt (i + 1) (length messages)

abbrev pub goes_on : Batch → Place → Bool
goes_on batch p = goes_on_in (slice_get (lane_of batch p.lane) p.call) p.item

-- where an opening goes on after a place, its next item stands next
abbrev pub is_unbroken : Batch → List Place → Bool
is_unbroken batch [] = true
is_unbroken batch (p ∷ []) = not (goes_on batch p)
is_unbroken batch (p ∷ q ∷ ps) =
    (not (goes_on batch p) || is_same_place q (place p.lane p.call (p.item + 1)))
    && is_unbroken batch (q ∷ ps)

-- the journal of a context is legal
abbrev pub is_legal : Batch → ℕ → List Place → Bool
is_legal batch context journal = has_lanes batch context journal && is_unbroken batch journal

-- ---- a guess

-- the guess of an opening in a legal journal may have been made
abbrev pub is_guessed : Batch → Cipher → List Place → ℕ → ℕ → ℕ → Bool
is_guessed batch c journal lane call guess =
    nat_le (least_guess batch c journal lane call) guess
    && nat_le guess (greatest_guess batch c journal lane call)

-- ---- all journals

abbrev pub is_same_spot : Spot → Spot → Bool
is_same_spot s t = (s.context == t.context) && is_same_place s.place t.place

abbrev pub is_same_mark : Mark → Mark → Bool
is_same_mark m k = is_same_place m.place k.place && (m.stamp == k.stamp)

-- the places with this stamp in the journals of contexts from this one on
abbrev pub spots_stamped : ℕ → ℕ → List (List Mark) → List Spot
spots_stamped stamp context [] = []
spots_stamped stamp context (marks ∷ journals) =
    spots context (places (filter (λ m. m.stamp == stamp) marks))
    ++ spots_stamped stamp (context + 1) journals

-- all places by their stamps
abbrev pub by_stamps : List (List Mark) → List Spot
by_stamps journals =
    flat_map (λ stamp. spots_stamped stamp 0 journals)
    (range_with_len 0 (length (all_stamps journals)))

-- the places of this lane in a history are those that it asks for, in order
abbrev pub has_lane_spots : Batch → List Spot → ℕ → Bool
has_lane_spots batch history lane =
    are_same is_same_spot (own_spots lane history) (all_asked lane 0 (lane_of batch lane))

-- a list of places of so many contexts is a history of the batch
abbrev pub is_history : Batch → ℕ → List Spot → Bool
is_history batch contexts history =
    list_all (λ s. nat_lt s.context contexts && nat_lt s.place.lane (length batch)) history
    && list_all (has_lane_spots batch history) (range_with_len 0 (length batch))
    && is_unbroken batch (map (λ s. s.place) history)

-- the journals of all contexts are a legal history
abbrev pub is_legal_history : Batch → List (List Mark) → Bool
is_legal_history batch journals =
    are_same (are_same is_same_mark) journals (journals_of (length journals) (by_stamps journals))
    && is_history batch (length journals) (by_stamps journals)
