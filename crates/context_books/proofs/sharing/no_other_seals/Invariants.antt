use Rattle.std.proofs.Common.{ℕ, ◌≡◌, ◌⊎◌, ◌<◌}
use Rattle.context_books.specs.Sharing.{Seals, ChangesName}
use Rattle.context_books.proofs.sharing.no_other_seals.Given as goal

abbrev pub invariant-others : goal.invariant-others
invariant-others l = (k : ℕ) → k < l.other
    → Seals l.fn.plan l.fn.at k ⊎ ChangesName l.fn.plan l.fn.at k → k ≡ l.fn.lane
