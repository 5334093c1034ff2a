use Rattle.std.proofs.Common.{◌≡◌, ◌++◌, length}
use Rattle.serving_tests.proofs.stamp_counter_tests.hand_out.Given as goal

abbrev pub invariant-loop-seat : goal.invariant-loop-seat
invariant-loop-seat l = l.seats.items ++ l.list ≡ l.fn.list

abbrev pub decreases-loop-seat : goal.decreases-loop-seat
decreases-loop-seat l = length l.list
