use Rattle.std.proofs.Common.{◌≡◌, ◌<◌, ◌≤◌, ℕ, List, length, get_or, vec_capacity}
use Rattle.batch_plans.specs.declared.plan.CallLine.{CallLine}
use Rattle.context_core.specs.declared.lanes.Lane.{Lane}
use Rattle.context_core.specs.Preparing.{IsFresh}
use Rattle.context_core.proofs.preparing.lanes.Given as goal

abbrev pub invariant-lanes : goal.invariant-lanes
invariant-lanes l = record {
  count : length l.lanes.items ≡ l.calls-index;
  fresh : (k : ℕ) (calls : List CallLine) (lane : Lane) → k < l.calls-index
      → IsFresh (get_or l.all k calls) (get_or l.lanes.items k lane);
  room : length l.all ≤ vec_capacity l.lanes;
}
