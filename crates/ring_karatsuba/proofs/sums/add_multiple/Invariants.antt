use Rattle.ring_core.proofs.Row.{RowDone}
use Rattle.ring_karatsuba.proofs.sums.add_multiple.Given as goal

abbrev pub invariant-loop-j : goal.invariant-loop-j
invariant-loop-j l = RowDone l.initial.sums l.sums l.list l.factor l.j
