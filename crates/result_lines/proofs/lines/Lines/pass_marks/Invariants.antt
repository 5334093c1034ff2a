use Rattle.std.proofs.Common.{◌≡◌, length}
use Rattle.result_lines.specs.Places.{marks_of}
use Rattle.result_lines.proofs.lines.Lines.pass_marks.Given as goal

abbrev pub invariant-marks : goal.invariant-marks
invariant-marks l = (marks_of l.stamps l.self).lines ≡ (marks_of l.stamps l.initial.self).lines

abbrev pub decreases-marks : goal.decreases-marks
decreases-marks l = length l.self.parts
