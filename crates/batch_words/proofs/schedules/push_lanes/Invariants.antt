use Rattle.std.proofs.Common.{◌≡◌, ◌≤◌, length, map, Some, vec_len}
use Rattle.batch_words.specs.Words.{lanes}
use Rattle.batch_words.specs.declared.schedules.TheConstants.{MOST_STEPS}
use Rattle.batch_words.proofs.schedules.push_lanes.Given as goal

abbrev pub invariant-loop-part : goal.invariant-loop-part
invariant-loop-part l =
    record { read : lanes (map (λ x. x.now) l.yielded) ≡ Some l.lanes.items; count : vec_len l.lanes ≡ length l.yielded; most : vec_len l.lanes ≤ MOST_STEPS }
