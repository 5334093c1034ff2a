use Rattle.std.proofs.Common.{◌≡◌, ◌≤◌}
use Rattle.serving_tests.proofs.turn_lock_tests.add_each.Given as goal

abbrev pub invariant-loop-call : goal.invariant-loop-call
invariant-loop-call g l = (l.pass.lock ≡ l.lock.lock) × (l.pass.turns ≡ l.call) × (l.pass.next_call ≤ l.call)
