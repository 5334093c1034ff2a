use Rattle.std.proofs.Common.{◌≡◌, ◌≤◌, ◌++◌, length, vec_capacity}
use Rattle.shared_runs.proofs.serving.take_all_back.Given as goal

abbrev pub invariant-lanes : goal.invariant-lanes
invariant-lanes g l = record {
  front : l.fn.lanes.items ≡ l.yielded ++ l.lane-iterator.rest.items;
  count : length l.answers.items ≡ length l.yielded;
  room : length l.fn.lanes.items ≤ vec_capacity l.answers;
  back : g.K.RunsLanes.back l.shared l.left l.answers.items;
}
