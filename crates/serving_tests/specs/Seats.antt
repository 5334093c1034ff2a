-- What the tests' functions say of a seat.
use Rattle.std.specs.Prelude.{ℕ, ◌≡◌, ◌+◌, List, [], length}
use Rattle.stamp_counter.specs.Seats.{SeatView}

-- a seat of this counter that has drawn nothing, and may draw 250 stamps
abbrev pub MayDraw : List ℕ → SeatView → Type 0
MayDraw counter seat = (seat.counter ≡ counter) × (seat.drawn ≡ []) × (seat.left ≡ 250)

-- one that has drawn, and may still draw, 250 together
abbrev pub Holds : List ℕ → SeatView → Type 0
Holds counter seat = (seat.counter ≡ counter) × (length seat.drawn + seat.left ≡ 250)
