-- ---- for the proofs: what a lane on its way shows
use Rattle.std.specs.Prelude.{ℕ, ◌≡◌, ◌<◌, List, [], ◌∷◌}
use Rattle.call_places.specs.declared.entries.Place.{Place}
use Rattle.call_places.specs.declared.entries.Entry.{Entry}
use Rattle.call_places.specs.Entries.{own}
use Rattle.call_places.specs.Orders.{IsBefore}
use Rattle.hpke_context.specs.Answers.{Cipher, Answer}
use Rattle.context_books.specs.Batches.{Batch, Ask}
use Rattle.context_books.specs.Merging.{lane_places}
use Rattle.context_books.specs.Histories.{entry_places}
use Rattle.context_books.specs.Lists.{EachFrom, In}
use Rattle.lane_workers.specs.Showing.{AnsweredAt}

-- what holds of the entries of a lane
abbrev pub OfLane : ℕ → (ℕ → Entry → Type 0) → ℕ → Entry → Type 0
OfLane l P n e = e.place.lane ≡ l → P n e

-- the lane has made these calls, and this is what it shows of the context
pub record LaneIs (batch : Batch) (context : ℕ) (c : Cipher) (lane : ℕ) (replies : Place → Answer) (done : List Ask) (seen : List Entry) : Type 0 where
  pub places : entry_places (own lane seen) ≡ lane_places context lane done
  pub answered : EachFrom (OfLane lane (AnsweredAt batch context c replies)) 0 seen

-- the places of a list and the answers to their items
abbrev pub AllReplied : (Place → Answer) → List Place → List Answer → Type 0
AllReplied replies [] [] = Unit {0}
AllReplied replies [] (a ∷ answers) = ⊥
AllReplied replies (p ∷ ps) [] = ⊥
AllReplied replies (p ∷ ps) (a ∷ answers) = (replies p ≡ a) × AllReplied replies ps answers

-- the lane has made so many calls, all its stamps are below this one, and they are in its order
pub record StampsAre (lane calls : ℕ) (seen : ℕ → List Entry) (low : ℕ) : Type 0 where
  pub calls_below : (c : ℕ) (e : Entry) → In e (own lane (seen c)) → e.place.call < calls
  pub below : (c : ℕ) (e : Entry) → In e (own lane (seen c)) → e.stamp < low
  pub in_order : (c d : ℕ) (e f : Entry) → In e (own lane (seen c)) → In f (own lane (seen d)) → IsBefore e.place f.place → e.stamp < f.stamp
