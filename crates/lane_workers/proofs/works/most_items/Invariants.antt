use Rattle.std.proofs.Common.{ℕ, ◌<◌, ◌≤◌, get_or}
use Rattle.batch_plans.specs.declared.plan.CallLine.{CallLine}
use Rattle.batch_plans.specs.Limits.{items_of}
use Rattle.lane_workers.proofs.works.most_items.Given as goal

abbrev pub invariant-calls : goal.invariant-calls
invariant-calls l = (k : ℕ) (d : CallLine) → k < l.call-index → items_of (get_or l.calls k d) ≤ l.most
