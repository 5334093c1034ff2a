use Rattle.std.proofs.Common.{◌≡◌, length}
use Rattle.field_text.specs.Cuts.{lines_of}
use Rattle.result_lines.specs.Tables.{behind_table}
use Rattle.result_lines.proofs.tables.behind_table.Given as goal

abbrev pub invariant-lines : goal.invariant-lines
invariant-lines l = behind_table (lines_of l.rest) ≡ behind_table (lines_of l.text)

abbrev pub decreases-lines : goal.decreases-lines
decreases-lines l = length l.rest
