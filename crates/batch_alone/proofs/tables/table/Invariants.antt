use Rattle.std.proofs.Common.{◌≡◌, drop}
use Rattle.batch_alone.specs.Tables.{after_lanes, table_of}
use Rattle.batch_alone.specs.Turns.{so_far, KeepsLive}
use Rattle.batch_alone.proofs.tables.table.Given as goal

abbrev pub invariant-lanes : goal.invariant-lanes
invariant-lanes l = record {
  so_far : after_lanes l.plan l.contexts l.lane (drop l.lane l.plan.lanes) (so_far l.table)
      ≡ table_of l.plan l.contexts;
  live : KeepsLive l.plan.added l.table;
}
