use Rattle.std.proofs.Common.{pos}
use Rattle.ring_core.proofs.Row.{RowDone}
use Rattle.ring_core.proofs.small_rows.add_row.Given as goal

abbrev pub invariant-loop-j : goal.invariant-loop-j
invariant-loop-j l = RowDone l.initial.sums l.sums l.row (pos 1) l.j
