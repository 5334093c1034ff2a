use Rattle.std.proofs.Common.{◌≡◌, ◌++◌, map, drop}
use Rattle.journal_check.specs.Asks.{size_in}
use Rattle.journal_check.proofs.asks.all_sizes.Given as goal

abbrev pub invariant-lanes : goal.invariant-lanes
invariant-lanes l =
    l.asks.items ++ map (map (size_in l.contexts)) (drop l.calls-index l.lanes) ≡ map (map (size_in l.contexts)) l.lanes
