use Rattle.std.proofs.Common.{◌*◌}
use Rattle.std.specs.Prelude.{replicate}
use Rattle.context_core.specs.Core.{Core, all_happen}
use Rattle.context_books.specs.Asks.{batch_of, cipher_at}
use Rattle.context_core.specs.Following.{IsRehearsal}
use Rattle.context_core.proofs.rehearsals.Rehearsal.end.Given as goal

abbrev pub invariant-calls : goal.invariant-calls
invariant-calls g l =
    (w : Core) → IsRehearsal l.plan l.contexts w l.initial.self.lanes.items l.initial.self.books
    → IsRehearsal l.plan l.contexts (all_happen (batch_of l.plan l.contexts)
    (cipher_at l.contexts) w (replicate (4 * l._call) l.number)) l.self.lanes.items l.self.books
