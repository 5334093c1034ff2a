use Rattle.std.proofs.Common.{◌≡◌, drop}
use Rattle.std.specs.List.{list_all}
use Rattle.journal_check.specs.Histories.{is_within}
use Rattle.journal_check.proofs.histories.are_within.Given as goal

abbrev pub invariant-history : goal.invariant-history
invariant-history l =
    list_all (is_within l.contexts l.lanes) (drop l.spot-index l.history) ≡ list_all (is_within l.contexts l.lanes) l.history
