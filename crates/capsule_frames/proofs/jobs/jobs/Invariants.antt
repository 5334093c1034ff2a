use Rattle.std.proofs.Common.{◌≡◌, ◌≤◌, ◌++◌, length, drop}
use Rattle.std.specs.Prelude.{All}
use Rattle.capsule_frames.specs.Orders.{IsJobWithin, jobs_from}
use Rattle.capsule_frames.proofs.jobs.jobs.Given as goal

abbrev pub invariant-lines : goal.invariant-lines
invariant-lines l = record {
  found : l.jobs.items ++ jobs_from l.asks (drop l.line-index l.lines) ≡ jobs_from 0 l.lines;
  within : All (IsJobWithin (length l.plan.plan.pool)) l.jobs.items;
  count : l.asks ≤ l.line-index;
}
