use Rattle.std.proofs.Common.{◌<◌, ℕ, get_or}
use Rattle.batch_plans.specs.declared.plan.KeyLine.{KeyLine}
use Rattle.batch_plans.specs.Within.{IsKeyWithin}
use Rattle.context_tests.proofs.set_ups.plans.assert_keys.Given as goal

abbrev pub invariant-loop-line : goal.invariant-loop-line
invariant-loop-line g l = (k : ℕ) (d : KeyLine) → k < l.line-index
    → IsKeyWithin l.seed l.pool (get_or l.keys k d)
