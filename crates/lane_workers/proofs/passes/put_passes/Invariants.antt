use Rattle.std.proofs.Common.{◌≡◌, ◌<◌, ◌≤◌, ℕ, length}
use Rattle.lane_workers.specs.Turns.{pass_at}
use Rattle.lane_workers.specs.Handing.{list_at, Puts}
use Rattle.lane_workers.proofs.passes.put_passes.Given as goal

abbrev pub invariant-lists : goal.invariant-lists
invariant-lists l = record {
  passes_count : length l.passes.items ≡ length l.fn.passes;
  done : (k : ℕ) → k < l.i
      → Puts (list_at l.fn.lists k) (list_at l.lists k) (pass_at l.fn.passes k);
  left : (k : ℕ) → l.i ≤ k → list_at l.lists k ≡ list_at l.fn.lists k;
  kept : (k : ℕ) → l.i ≤ k → pass_at l.passes.items k ≡ pass_at l.fn.passes k;
}
