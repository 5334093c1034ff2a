use Rattle.std.proofs.Common.{◌≡◌, ◌+◌, length, drop}
use Rattle.context_books.specs.Histories.{all_stamps}
use Rattle.journal_check.proofs.histories.one_each.Given as goal

abbrev pub invariant-journals : goal.invariant-journals
invariant-journals l = length l.spots.items + length (all_stamps (drop l.marks-index l.journals)) ≡ length (all_stamps l.journals)
