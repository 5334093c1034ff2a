use Rattle.std.proofs.Common.{◌≡◌, ◌++◌, string_bytes}
use Rattle.demo_runs.specs.Texts.{front_text, sealing_lanes}
use Rattle.demo_runs.proofs.texts.sealing_text.Given as goal

abbrev pub invariant-lanes : goal.invariant-lanes
invariant-lanes l =
    string_bytes l.text ≡ front_text l.seed ++ sealing_lanes l.messages l.lanes l.lane
