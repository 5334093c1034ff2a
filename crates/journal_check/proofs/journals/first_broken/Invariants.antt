use Rattle.std.proofs.Common.{◌≡◌, drop}
use Rattle.journal_check.specs.Asks.{batch_from}
use Rattle.result_lines.specs.Journals.{broken_journal}
use Rattle.journal_check.proofs.journals.first_broken.Given as goal

abbrev pub invariant-journals : goal.invariant-journals
invariant-journals l =
    broken_journal l.stamps (batch_from l.asks) l.number (drop l.number l.journals)
    ≡ broken_journal l.stamps (batch_from l.asks) 0 l.journals
