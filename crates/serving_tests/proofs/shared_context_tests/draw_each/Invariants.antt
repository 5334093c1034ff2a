use Rattle.std.proofs.Common.{◌-◌}
use Rattle.stamp_counter.specs.Stamps.{IsNote}
use Rattle.serving_tests.specs.Passes.{MayDraw}
use Rattle.serving_tests.proofs.shared_context_tests.draw_each.Given as goal

abbrev pub invariant-loop-call : goal.invariant-loop-call
invariant-loop-call g l = MayDraw l.context.lock l.call (1000 - l.call) l.pass × IsNote l.counter.id l.seat
