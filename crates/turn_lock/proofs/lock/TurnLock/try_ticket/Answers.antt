use Rattle.std.proofs.Common.{◌∙◌, sym, ap, arith}
use Rattle.turn_lock.proofs.Steps.{queues}
use Rattle.turn_lock.proofs.lock.TurnLock.try_ticket.Goals as goal

pub compare_exchange-requires : goal.compare_exchange-requires
compare_exchange-requires g c =
    let m = c.requires.seat in (
      c.requires.table ∙ sym (ap (λ l. l.lock.table) c.self.view_is),
      omega arith,
      queues g.V.Listed.entries g.V.Listed.terms _ _ _ _ c.args.seat.now.me m.number _ m.seen m.idle m.parts m.more_turns,
    )
