use Rattle.std.proofs.Common.{◌≡◌, [], drop}
use Rattle.std.specs.Prelude.{replicate}
use Rattle.journal_check.proofs.PileLists.{by_context_stamped}
use Rattle.journal_check.proofs.dealing.marks_of.Given as goal

abbrev pub invariant-history : goal.invariant-history
invariant-history l =
    by_context_stamped l.piles.items l.stamp (drop l.stamp l.history) ≡ by_context_stamped (replicate l.count []) 0 l.history
