use Rattle.std.proofs.Common.{◌≡◌, drop}
use Rattle.batch_alone.specs.Tables.{after_calls}
use Rattle.batch_alone.specs.Turns.{so_far, KeepsLive}
use Rattle.batch_alone.proofs.tables.InTurn.serve_lane.Given as goal

abbrev pub invariant-calls : goal.invariant-calls
invariant-calls l = record {
  so_far : after_calls l.plan l.contexts l.lane l.number (drop l.number l.calls) (so_far l.self)
      ≡ after_calls l.plan l.contexts l.lane 0 l.calls (so_far l.initial.self);
  live : KeepsLive l.plan.added l.self;
}
