use Rattle.std.proofs.Common.{◌≡◌, [], drop}
use Rattle.std.specs.Prelude.{replicate}
use Rattle.journal_check.proofs.PileLists.{by_lane}
use Rattle.journal_check.proofs.dealing.lanes_in.Given as goal

abbrev pub invariant-history : goal.invariant-history
invariant-history l =
    by_lane l.lanes.items (drop l.spot-index l.history) ≡ by_lane (replicate l.count []) l.history
