use Rattle.std.proofs.Common.{◌≡◌, drop}
use Rattle.result_lines.specs.Told.{with_lanes}
use Rattle.result_lines.proofs.reading.read_lanes.Given as goal

abbrev pub invariant-lanes : goal.invariant-lanes
invariant-lanes l =
    with_lanes l.contexts l.number (drop l.number l.lanes) l.told ≡ with_lanes l.contexts 0 l.lanes l.initial.told
