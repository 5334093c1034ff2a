use Rattle.std.proofs.Common.{◌≡◌, length}
use Rattle.journal_check.specs.Runs.{AreRuns}
use Rattle.journal_check.proofs.runs.run_journals.Given as goal

abbrev pub invariant-journals : goal.invariant-journals
invariant-journals l = record {
  runs : AreRuns l.plan l.initial.contexts l.journals l.runs.items;
  count : length l.runs.items ≡ l.number;
  kept : l.contexts ≡ l.initial.contexts;
}
