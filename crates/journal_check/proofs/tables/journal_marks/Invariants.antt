use Rattle.std.proofs.Common.{◌≡◌, ◌++◌, map, drop}
use Rattle.std.specs.List.{list_all}
use Rattle.context_books.specs.LiveChecks.{call_mark}
use Rattle.journal_check.specs.Tables.{is_low}
use Rattle.journal_check.proofs.tables.journal_marks.Given as goal

abbrev pub invariant-journals : goal.invariant-journals
invariant-journals l = record {
  made : l.marks.items ++ map (map call_mark) (drop l.journal-index l.journals) ≡ map (map call_mark) l.journals;
  low : list_all (list_all is_low) (drop l.journal-index l.journals) ≡ list_all (list_all is_low) l.journals;
}
