use Rattle.std.proofs.Common.{◌<◌, ℕ, get_or}
use Rattle.batch_plans.specs.declared.plan.ContextLine.{ContextLine}
use Rattle.batch_plans.specs.Within.{IsContextWithin}
use Rattle.context_tests.proofs.set_ups.plans.assert_contexts.Given as goal

abbrev pub invariant-loop-line : goal.invariant-loop-line
invariant-loop-line g l = (k : ℕ) (d : ContextLine) → k < l.line-index
    → IsContextWithin l.seed l.pool (get_or l.contexts k d)
