use Rattle.std.proofs.Common.{negsuc}
use Rattle.ring_core.proofs.Row.{RowDone}
use Rattle.ring_core.proofs.small_rows.subtract_row.Given as goal

abbrev pub invariant-loop-j : goal.invariant-loop-j
invariant-loop-j l = RowDone l.initial.sums l.sums l.row (negsuc 0) l.j
