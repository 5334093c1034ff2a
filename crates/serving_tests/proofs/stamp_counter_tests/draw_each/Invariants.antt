use Rattle.std.proofs.Common.{◌≤◌, ◌+◌}
use Rattle.serving_tests.specs.Seats.{Holds}
use Rattle.serving_tests.proofs.stamp_counter_tests.draw_each.Given as goal

abbrev pub invariant-loop : goal.invariant-loop
invariant-loop l = Holds l.counter-2.id l.seat × (250 ≤ l.seat.left + l.counter)
