use Rattle.std.proofs.Common.{◌∙◌, sym, ap, arith}
use Rattle.turn_lock.proofs.Steps.{marks}
use Rattle.turn_lock.proofs.lock.TurnLock.take_ticket.Goals as goal

pub store-requires : goal.store-requires
store-requires g c = (
  c.loop.invariant.0 ∙ c.look.ensures.table ∙ c.requires.table ∙ sym (ap (λ l. l.lock.table) c.self.view_is),
  omega arith,
  marks g.V.Listed.entries g.V.Listed.terms _ _ _ _ c.loop.seat.me _,
)
