use Rattle.std.proofs.Common.{List, drop}
use Rattle.context_books.specs.Batches.{Spot}
use Rattle.journal_check.specs.Histories.{PutsAll}
use Rattle.journal_check.proofs.histories.put_journals.Given as goal

abbrev pub invariant-journals : goal.invariant-journals
invariant-journals l = (final : List Spot) → PutsAll l.history final l.context (drop l.context l.journals) → PutsAll l.initial.history final 0 l.journals
