use Rattle.std.proofs.Common.{◌≡◌, ◌≤◌, length, take, map, vec_capacity}
use Rattle.shared_runs.specs.Noting.{note_quota}
use Rattle.shared_runs.proofs.noting.note_quotas.Given as goal

abbrev pub invariant-lanes : goal.invariant-lanes
invariant-lanes l = record {
  done : l.quotas.items ≡ map (note_quota l.plan l.contexts) (take l.calls-index l.lanes);
  room : length l.lanes ≤ vec_capacity l.quotas;
}
