use Rattle.std.proofs.Common.{◌≡◌, length}
use Rattle.ring_core.specs.Bounds.{IsWithin}
use Rattle.lattice_tests.proofs.ring_inverse_tests.made.Given as goal

abbrev pub invariant-loop-k : goal.invariant-loop-k
invariant-loop-k g l = (length l.list.items ≡ l.k) × IsWithin 1 l.list.items
