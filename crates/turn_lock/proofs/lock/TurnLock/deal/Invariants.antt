use Rattle.std.proofs.Common.{◌≡◌, ◌-◌, ◌≤◌, [], vec_capacity}
use Rattle.turn_lock.specs.Passes.{fresh_from}
use Rattle.turn_lock.specs.Seats.{dealing_view}
use Rattle.turn_lock.proofs.lock.TurnLock.deal.Given as goal

abbrev pub invariant-loop-number : goal.invariant-loop-number
invariant-loop-number g l =
    (l.seat.table_id ≡ l.self.lock.table) × (l.seat.me ≡ (dealing_view l.self.lock.terms l.number, []))
    × (l.list.items ≡ fresh_from l.self.lock 1 (l.number - 1))
    × (l.passes ≤ vec_capacity l.list)
