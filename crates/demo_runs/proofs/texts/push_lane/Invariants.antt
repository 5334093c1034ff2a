use Rattle.std.proofs.Common.{◌≡◌, ◌++◌, string_bytes}
use Rattle.std.specs.List.{flat_map}
use Rattle.demo_runs.specs.Texts.{seal_line, share_of}
use Rattle.demo_runs.proofs.texts.push_lane.Given as goal

abbrev pub invariant-messages : goal.invariant-messages
invariant-messages l =
    string_bytes l.text ≡ string_bytes l.initial.text ++ flat_map (λ j. seal_line) (share_of l.j l.lanes l.lane)
