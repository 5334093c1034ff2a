use Rattle.std.proofs.Common.{◌≡◌, ◌++◌, map, drop}
use Rattle.std.specs.List.{list_all}
use Rattle.context_books.specs.LiveChecks.{call_mark}
use Rattle.journal_check.specs.Tables.{is_low}
use Rattle.journal_check.proofs.tables.call_marks.Given as goal

abbrev pub invariant-marks : goal.invariant-marks
invariant-marks l = record {
  made : l.marks.items ++ map call_mark (drop l.mark-index l.journal) ≡ map call_mark l.journal;
  low : list_all is_low (drop l.mark-index l.journal) ≡ list_all is_low l.journal;
}
