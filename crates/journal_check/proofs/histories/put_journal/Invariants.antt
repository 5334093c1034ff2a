use Rattle.std.proofs.Common.{List, drop}
use Rattle.context_books.specs.Batches.{Spot}
use Rattle.journal_check.specs.Histories.{Puts}
use Rattle.journal_check.proofs.histories.put_journal.Given as goal

abbrev pub invariant-marks : goal.invariant-marks
invariant-marks l = (final : List Spot) → Puts l.history final l.context (drop l.mark-index l.marks) → Puts l.initial.history final l.context l.marks
