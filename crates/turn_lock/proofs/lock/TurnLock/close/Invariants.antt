use Rattle.std.proofs.Common.{◌≡◌, List, [], ◌∷◌, ◌++◌}
use Rattle.turn_lock.specs.declared.views.Phase.TheVariants.{Idle}
use Rattle.turn_lock.specs.Passes.{PassView}
use Rattle.turn_lock.specs.Seats.{parts_from}
use Rattle.turn_lock.proofs.lock.TurnLock.close.Given as goal

abbrev pub invariant-loop-pass : goal.invariant-loop-pass
invariant-loop-pass g l =
    (l.seat.table_id ≡ l.initial.seat.table_id) × (l.seat.me.1 ≡ []) × (l.seat.me.0.phase ≡ Idle)
    × ((taken : List PassView) × (last : PassView) × (l.fn.passes.passes ≡ l.passes.items ++ last ∷ taken) × (l.seat.me.0.parts ≡ parts_from (last ∷ taken)))

abbrev pub decreases-loop-pass : goal.decreases-loop-pass
decreases-loop-pass g l = goal.left-loop-pass g l
