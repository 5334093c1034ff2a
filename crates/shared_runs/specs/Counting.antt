-- ---- for the proofs: the counter of a table, and the seats that draw from it.
use Rattle.std.specs.Prelude.{ℕ, ◌≡◌, ◌+◌, List, map, sum}
use Rattle.stamp_counter.specs.Seats.{fresh_seat, fresh_seats}
use Rattle.shared_runs.specs.declared.sharing.Counted.{Counted}

-- Each list of quotas may draw as many stamps as these allow, and other lists so many. The seat of
-- which lanes get notes draws none.
pub record AreCounted (all : List (List ℕ)) (others : ℕ) (c : Counted) : Type 0 where
  pub all_is : c.counter.all ≡ sum (map sum all) + others
  pub seat_is : c.seat ≡ fresh_seat c.counter.id 0
  pub other_is : c.other ≡ fresh_seat c.counter.id others
  pub seats_are : c.seats ≡ fresh_seats c.counter.id (map sum all)
