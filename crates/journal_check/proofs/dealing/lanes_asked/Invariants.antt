use Rattle.std.proofs.Common.{◌≡◌, ◌++◌, drop}
use Rattle.journal_check.proofs.PileLists.{lanes_from}
use Rattle.journal_check.proofs.dealing.lanes_asked.Given as goal

abbrev pub invariant-lanes : goal.invariant-lanes
invariant-lanes l = l.lists.items ++ lanes_from l.lane (drop l.lane l.asks) ≡ lanes_from 0 l.asks
