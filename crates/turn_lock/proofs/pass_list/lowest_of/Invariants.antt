use Rattle.std.proofs.Common.{ℕ, ◌≤◌, ◌<◌, length}
use Rattle.std.specs.Prelude.{slice_index_or}
use Rattle.turn_lock.specs.Passes.{PassView}
use Rattle.turn_lock.proofs.pass_list.lowest_of.Given as goal

abbrev pub invariant-loop-i : goal.invariant-loop-i
invariant-loop-i l = (l.lowest < length l.passes) × ((k : ℕ) (d : PassView) → k < l.i → (slice_index_or l.passes l.lowest d).number ≤ (slice_index_or l.passes k d).number)
