-- How a verdict ends a run, and the exit statuses.
use Rattle.std.specs.Prelude.{ℕ}
use Rattle.result_lines.specs.declared.verdicts.Verdict.{Verdict}
use Rattle.result_lines.specs.declared.verdicts.Verdict.TheVariants.{Legal}
use Rattle.batch_serving.specs.declared.outcomes.Outcome.{Outcome}
use Rattle.batch_serving.specs.declared.outcomes.Outcome.TheVariants as outcomes

-- a legal result is done, and another is broken
abbrev pub outcome_on : Verdict → Outcome
outcome_on Legal = outcomes.Done
outcome_on verdict = outcomes.Broken verdict

abbrev pub status_of : Outcome → ℕ
status_of outcomes.Done = 0
status_of outcomes.Usage = 2
status_of (outcomes.BadBatch line reason) = 3
status_of outcomes.ReadFault = 4
status_of outcomes.WriteFault = 5
status_of outcomes.OutOfMemory = 6
status_of (outcomes.Broken verdict) = 7
