use Rattle.std.proofs.Common.{◌≡◌, ◌++◌, drop}
use Rattle.journal_check.specs.Asks.{batch_from}
use Rattle.journal_check.specs.Piles.{kept_from}
use Rattle.journal_check.proofs.kept.first_places.Given as goal

abbrev pub invariant-journals : goal.invariant-journals
invariant-journals l =
    l.kept.items ++ kept_from (batch_from l.asks) l.number (drop l.number l.journals) ≡ kept_from (batch_from l.asks) 0 l.journals
