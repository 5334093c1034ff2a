use Rattle.std.proofs.Common.{◌≡◌, ◌≤◌, ◌++◌, length, vec_capacity}
use Rattle.shared_runs.specs.Serving.{InOrder}
use Rattle.shared_runs.proofs.serving.prepare_all.Given as goal

abbrev pub invariant-lanes : goal.invariant-lanes
invariant-lanes g l = record {
  front : l.fn.answers.items ≡ l.yielded ++ l.answers-iterator.rest.items;
  room : length l.fn.answers.items ≤ vec_capacity l.lanes;
  given : g.K.RunsLanes.given l.shared (length l.yielded) l.left;
  ready : InOrder (g.K.RunsLanes.ready l.shared) (length l.yielded) l.lanes.items;
}
