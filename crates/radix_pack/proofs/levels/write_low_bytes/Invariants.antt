use Rattle.std.proofs.Common.{◌++◌}
use Rattle.radix_pack.specs.Radix.{bytes_in, radix_in, low_bytes, above_bytes}
use Rattle.radix_pack.proofs.Turns.{Writing}
use Rattle.radix_pack.proofs.levels.write_low_bytes.Given as goal

abbrev pub invariant-loop-left : goal.invariant-loop-left
invariant-loop-left l =
    Writing l.limit (l.initial.out.items ++ low_bytes (bytes_in 2 l.limit l.fn.digit.radix) l.fn.digit.value) (above_bytes (bytes_in 2 l.limit l.fn.digit.radix) l.fn.digit.value) (radix_in 2 l.limit l.fn.digit.radix) l.left.value l.left.radix l.out.items

abbrev pub decreases-loop-left : goal.decreases-loop-left
decreases-loop-left l = l.left.radix
