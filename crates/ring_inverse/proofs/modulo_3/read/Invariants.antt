use Rattle.std.proofs.Common.{◌≡◌, length}
use Rattle.ring_core.specs.Bounds.{IsWithin}
use Rattle.ring_inverse.proofs.modulo_3.read.Given as goal

abbrev pub invariant-loop-k : goal.invariant-loop-k
invariant-loop-k l = (length l.list.items ≡ l.k) × IsWithin 1 l.list.items
