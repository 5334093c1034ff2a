use Rattle.std.proofs.Common.{◌≡◌, ◌++◌, drop}
use Rattle.context_books.specs.Batches.{spots}
use Rattle.context_books.specs.Histories.{places}
use Rattle.journal_check.proofs.dealing.push_journal.Given as goal

abbrev pub invariant-marks : goal.invariant-marks
invariant-marks l =
    l.spots.items ++ spots l.context (places (drop l.mark-index l.marks)) ≡ l.initial.spots.items ++ spots l.context (places l.marks)
