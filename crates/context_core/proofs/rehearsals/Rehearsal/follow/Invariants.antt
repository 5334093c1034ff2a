use Rattle.std.proofs.Common.{take}
use Rattle.context_core.specs.Core.{Core, all_happen}
use Rattle.context_books.specs.Asks.{batch_of, cipher_at}
use Rattle.context_core.specs.Following.{IsRehearsal}
use Rattle.context_core.proofs.rehearsals.Rehearsal.follow.Given as goal

abbrev pub invariant-events : goal.invariant-events
invariant-events g l =
    (w : Core) → IsRehearsal l.plan l.contexts w l.initial.self.lanes.items l.initial.self.books
    → IsRehearsal l.plan l.contexts (all_happen (batch_of l.plan l.contexts)
    (cipher_at l.contexts) w (take l.number-index l.schedule)) l.self.lanes.items l.self.books
