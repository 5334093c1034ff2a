use Rattle.std.proofs.Common.{◌≡◌, ◌-◌, ◌++◌}
use Rattle.std.specs.Prelude.{take}
use Rattle.result_lines.specs.Places.{marks_of}
use Rattle.result_lines.proofs.lines.Lines.first_marks.Given as goal

abbrev pub invariant-marks : goal.invariant-marks
invariant-marks l =
    l.marks.items ++ take (l.most - l._mark) (marks_of l.stamps l.self).marks ≡ take l.most (marks_of l.stamps l.initial.self).marks
