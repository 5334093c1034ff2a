use Rattle.std.proofs.Common.{◌≡◌, ◌++◌, map, drop}
use Rattle.std.specs.List.{list_all}
use Rattle.context_books.specs.LiveChecks.{note_mark}
use Rattle.journal_check.specs.Tables.{is_low_note}
use Rattle.journal_check.proofs.tables.note_marks.Given as goal

abbrev pub invariant-notes : goal.invariant-notes
invariant-notes l = record {
  made : l.marks.items ++ map note_mark (drop l.entry-index l.notes) ≡ map note_mark l.notes;
  low : list_all is_low_note (drop l.entry-index l.notes) ≡ list_all is_low_note l.notes;
}
