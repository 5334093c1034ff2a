use Rattle.std.proofs.Common.{◌-◌}
use Rattle.stamp_counter.specs.Stamps.{IsNote}
use Rattle.serving_tests.specs.Passes.{MayDraw}
use Rattle.serving_tests.proofs.live_table_tests.note_cases.Given as goal

abbrev pub invariant-loop-call : goal.invariant-loop-call
invariant-loop-call g l = MayDraw l.table.lock l.call (14 - l.call) l.pass × IsNote l.counter.id l.seat
