use Rattle.std.proofs.Common.{◌≡◌, length}
use Rattle.ring_inverse.proofs.modulo_q.read.Given as goal

abbrev pub invariant-loop-k : goal.invariant-loop-k
invariant-loop-k l = length l.list.items ≡ l.k
