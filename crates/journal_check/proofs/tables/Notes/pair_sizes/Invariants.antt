use Rattle.std.proofs.Common.{◌≡◌, ◌++◌, drop}
use Rattle.journal_check.specs.Tables.{pairs_by}
use Rattle.journal_check.proofs.tables.Notes.pair_sizes.Given as goal

abbrev pub invariant-calls : goal.invariant-calls
invariant-calls l =
    l.sizes.items ++ pairs_by l.self.plan.now l.self.contexts.now l.self.table (drop l.number l.calls) (drop l.number l.served)
    ≡ pairs_by l.self.plan.now l.self.contexts.now l.self.table l.calls l.served
