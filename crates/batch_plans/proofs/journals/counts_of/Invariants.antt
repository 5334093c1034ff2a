use Rattle.std.proofs.Common.{◌≡◌, ◌<◌, ℕ, length, take, get_or}
use Rattle.batch_plans.specs.Room.{all_items_on}
use Rattle.batch_plans.proofs.journals.counts_of.Given as goal

abbrev pub invariant-lanes : goal.invariant-lanes
invariant-lanes l =
    let lanes = take l.calls-index l.calls-items in
    record {
      size : length l.counts.items ≡ length l.contexts;
      counted : (k : ℕ) → k < length l.counts.items
          → get_or l.counts.items k 0 ≡ all_items_on l.contexts l.export_limits k lanes;
    }
