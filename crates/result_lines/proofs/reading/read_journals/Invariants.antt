use Rattle.std.proofs.Common.{◌≡◌, drop}
use Rattle.result_lines.specs.Told.{with_journals}
use Rattle.result_lines.proofs.reading.read_journals.Given as goal

abbrev pub invariant-journals : goal.invariant-journals
invariant-journals l =
    with_journals l.stamps l.number (drop l.number l.lines) l.told ≡ with_journals l.stamps 0 l.lines l.initial.told
