use Rattle.std.proofs.Common.{◌≡◌, ◌≤◌, ◌-◌, drop}
use Rattle.result_lines.specs.Journals.{stamps_rise}
use Rattle.journal_check.proofs.journals.stamps_rise.Given as goal

abbrev pub invariant-marks : goal.invariant-marks
invariant-marks l = record {
  rise : stamps_rise (drop (l.i - 1) l.marks) ≡ stamps_rise l.marks;
  some : 1 ≤ l.i;
}
