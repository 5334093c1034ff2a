use Rattle.std.proofs.Common.{ℕ}
use Rattle.radix_pack.specs.Radix.{bytes_in, radix_in}
use Rattle.radix_pack.proofs.Turns.{Counting}
use Rattle.radix_pack.proofs.parts.radix_left.Given as goal

abbrev pub invariant-loop-left : goal.invariant-loop-left
invariant-loop-left l = (count : ℕ) × Counting l.limit (bytes_in 2 l.limit l.radix) (radix_in 2 l.limit l.radix) l.left count

abbrev pub decreases-loop-left : goal.decreases-loop-left
decreases-loop-left l = l.left
