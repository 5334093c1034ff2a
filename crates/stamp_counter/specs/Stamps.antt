-- A list of entries with the seat that its stamps are drawn from, and stamps that come after others.
use Rattle.std.specs.Prelude.{ℕ, ◌≡◌, ◌+◌, ◌≤◌, List, [], length, sum}
use Rattle.call_places.specs.declared.entries.Entry.{Entry}
use Rattle.call_places.specs.Entries.{stamps_of, StampsBelow}
use Rattle.stamp_counter.specs.Seats.{SeatView}

-- the seat has drawn the stamps of the entries, in their order, may draw as many more as the quotas
-- leave, and its low is above them
pub record IsStamped (quotas : List ℕ) (entries : List Entry) (seat : SeatView) : Type 0 where
  pub drawn : seat.drawn ≡ stamps_of entries
  pub left : seat.left + length entries ≡ sum quotas
  pub below : StampsBelow seat.low entries

-- a seat of this counter that has drawn nothing, and may draw nothing: it only knows of the count.
-- A lane has such a seat
pub record IsNote (counter : List ℕ) (seat : SeatView) : Type 0 where
  pub counter_is : seat.counter ≡ counter
  pub drawn : seat.drawn ≡ []
  pub left : seat.left ≡ 0

-- So many stamps, from `first` on, come after all that the lane's seat knew, and after the stamps of
-- the entries before. The seat that comes back knows of them, and of all that the old one knew.
pub record ComesAfter (counter : List ℕ) (seat back : SeatView) (before : List Entry)
    (first count : ℕ) : Type 0 where
  pub least : seat.low ≤ first
  pub later : StampsBelow first before
  pub above : first + count ≤ back.low
  pub note : IsNote counter back
