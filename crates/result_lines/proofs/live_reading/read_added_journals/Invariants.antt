use Rattle.std.proofs.Common.{◌≡◌, drop}
use Rattle.result_lines.specs.ToldLive.{with_added_journals}
use Rattle.result_lines.proofs.live_reading.read_added_journals.Given as goal

abbrev pub invariant-journals : goal.invariant-journals
invariant-journals l =
    with_added_journals l.name (drop l.name l.lines) l.told ≡ with_added_journals 0 l.lines l.initial.told
