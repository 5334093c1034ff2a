use Rattle.std.proofs.Common.{◌≡◌, ◌<◌, ◌≤◌, ℕ, length, vec_capacity}
use Rattle.lane_workers.specs.Turns.{pass_at}
use Rattle.lane_workers.specs.Handing.{list_at, Takes}
use Rattle.lane_workers.proofs.passes.take_passes.Given as goal

abbrev pub invariant-lists : goal.invariant-lists
invariant-lists l =
    (length l.passes.items ≡ l.list-index)
    × (length l.fn.lists ≤ vec_capacity l.passes)
    × ((k : ℕ) → k < l.list-index
    → Takes (list_at l.fn.lists k) (list_at l.lists k) (pass_at l.passes.items k))
    × ((k : ℕ) → l.list-index ≤ k → list_at l.lists k ≡ list_at l.fn.lists k)
