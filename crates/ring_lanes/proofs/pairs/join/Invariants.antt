use Rattle.std.proofs.Common.{pos}
use Rattle.ring_core.proofs.Row.{RowDone}
use Rattle.ring_lanes.proofs.pairs.join.Given as goal

abbrev pub invariant-loop-k : goal.invariant-loop-k
invariant-loop-k l = RowDone l.initial.first l.first l.second (pos 2048) l.k
