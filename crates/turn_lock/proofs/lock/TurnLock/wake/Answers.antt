use Rattle.std.proofs.Common.{◌∙◌, sym, ap, arith}
use Rattle.turn_lock.proofs.Steps.{marks}
use Rattle.turn_lock.proofs.lock.TurnLock.wake.Goals as goal

pub peek-requires : goal.peek-requires
peek-requires g c = omega (arith, c.self.invariant.0)

pub swap-requires : goal.swap-requires
swap-requires g c = (
  c.requires ∙ sym (ap (λ l. l.lock.table) c.self.view_is),
  omega arith,
  marks g.V.Listed.entries g.V.Listed.terms _ _ _ _ c.args.seat.now.me _,
)

pub wake_one-requires : goal.wake_one-requires
wake_one-requires g c = omega (arith, c.self.invariant.0)
