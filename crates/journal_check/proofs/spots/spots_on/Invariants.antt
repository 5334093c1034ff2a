use Rattle.std.proofs.Common.{◌≡◌, ◌++◌, drop}
use Rattle.journal_check.specs.Histories.{spots_from}
use Rattle.journal_check.proofs.spots.spots_on.Given as goal

abbrev pub invariant-calls : goal.invariant-calls
invariant-calls l =
    l.spots.items ++ spots_from l.lane l.number (drop l.number l.calls) ≡ spots_from l.lane 0 l.calls
