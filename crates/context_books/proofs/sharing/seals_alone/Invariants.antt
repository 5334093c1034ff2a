use Rattle.std.proofs.Common.{ℕ, ◌<◌}
use Rattle.context_books.specs.Sharing.{Seals, NoOtherSeals}
use Rattle.context_books.proofs.sharing.seals_alone.Given as goal

abbrev pub invariant-lanes : goal.invariant-lanes
invariant-lanes l = (k : ℕ) → k < l.lane → Seals l.fn.plan l.fn.at k
    → NoOtherSeals l.fn.plan l.fn.at k
