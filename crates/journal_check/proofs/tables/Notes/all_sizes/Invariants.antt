use Rattle.std.proofs.Common.{◌≡◌, ◌++◌, drop}
use Rattle.journal_check.specs.Tables.{all_pairs_by}
use Rattle.journal_check.proofs.tables.Notes.all_sizes.Given as goal

abbrev pub invariant-lanes : goal.invariant-lanes
invariant-lanes l =
    l.asks.items ++ all_pairs_by l.self.plan.now l.self.contexts.now l.self.table (drop l.lane l.calls) (drop l.lane l.self.plan.now.lanes)
    ≡ all_pairs_by l.self.plan.now l.self.contexts.now l.self.table l.calls l.self.plan.now.lanes
