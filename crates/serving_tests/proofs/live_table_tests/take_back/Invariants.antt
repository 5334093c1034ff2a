use Rattle.std.proofs.Common.{◌≡◌, ◌≤◌, ◌+◌, length, vec_len}
use Rattle.turn_lock.specs.Passes.{AllOf}
use Rattle.serving_tests.proofs.live_table_tests.take_back.Given as goal

abbrev pub invariant-loop-pass : goal.invariant-loop-pass
invariant-loop-pass l = AllOf l.table.lock l.list.passes × AllOf l.table.lock l.passes.items
    × (length l.list.passes + vec_len l.passes ≡ vec_len l.fn.passes) × (vec_len l.fn.passes ≤ l.list.made)

abbrev pub decreases-loop-pass : goal.decreases-loop-pass
decreases-loop-pass l = vec_len l.passes
