use Rattle.std.proofs.Common.{ℕ, ◌<◌}
use Rattle.context_books.specs.Sharing.{Seals, NoOtherSeals}
use Rattle.context_books.proofs.sharing.may_run_again.Given as goal

abbrev pub invariant-contexts : goal.invariant-contexts
invariant-contexts l = (k lane : ℕ) → k < l.at → Seals l.fn.plan k lane
    → NoOtherSeals l.fn.plan k lane
