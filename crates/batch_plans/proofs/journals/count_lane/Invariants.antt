use Rattle.std.proofs.Common.{◌≡◌, ◌<◌, ◌+◌, ℕ, length, take, get_or}
use Rattle.std.specs.List.{sum_by}
use Rattle.batch_plans.specs.Room.{items_on}
use Rattle.batch_plans.proofs.journals.count_lane.Given as goal

abbrev pub invariant-calls : goal.invariant-calls
invariant-calls l =
    let calls = take l.call-index l.calls in
    (k : ℕ) → k < length l.counts
    → get_or l.counts k 0
    ≡ get_or l.initial.counts k 0 + sum_by (items_on l.contexts l.export_limits k) calls
