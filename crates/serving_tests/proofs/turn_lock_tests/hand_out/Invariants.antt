use Rattle.std.proofs.Common.{◌≡◌, ◌+◌, All, length, vec_len}
use Rattle.serving_tests.specs.Passes.{IsNew}
use Rattle.serving_tests.proofs.turn_lock_tests.hand_out.Given as goal

abbrev pub invariant-loop-pass : goal.invariant-loop-pass
invariant-loop-pass l = All (IsNew l.lock.lock) l.list.passes × All (IsNew l.lock.lock) l.passes.items
    × (vec_len l.passes + length l.list.passes ≡ length l.fn.list.passes) × (l.list.made ≡ l.fn.list.made)

abbrev pub decreases-loop-pass : goal.decreases-loop-pass
decreases-loop-pass l = length l.list.passes
