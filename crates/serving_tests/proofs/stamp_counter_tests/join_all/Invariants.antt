use Rattle.std.proofs.Common.{◌≡◌, ◌+◌, ◌*◌, length, vec_len, All}
use Rattle.serving_tests.specs.Seats.{Holds}
use Rattle.serving_tests.proofs.stamp_counter_tests.join_all.Given as goal

abbrev pub invariant-loop-seat : goal.invariant-loop-seat
invariant-loop-seat l = (l.all.counter ≡ l.counter.id)
    × (length l.all.drawn + l.all.left + 250 * vec_len l.seats ≡ 250 * vec_len l.fn.seats)
    × All (Holds l.counter.id) l.seats.items

abbrev pub decreases-loop-seat : goal.decreases-loop-seat
decreases-loop-seat l = goal.left-loop-seat l
