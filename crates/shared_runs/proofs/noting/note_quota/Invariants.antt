use Rattle.std.proofs.Common.{◌≡◌, take}
use Rattle.shared_runs.specs.Noting.{note_quota}
use Rattle.shared_runs.proofs.noting.note_quota.Given as goal

abbrev pub invariant-calls : goal.invariant-calls
invariant-calls l = l.sum ≡ note_quota l.plan l.contexts (take l.call-index l.calls)
