use Rattle.std.proofs.Common.{◌≡◌, ◌+◌, All, length, vec_len}
use Rattle.stamp_counter.specs.Stamps.{IsNote}
use Rattle.serving_tests.specs.Passes.{MayDraw}
use Rattle.serving_tests.proofs.shared_context_tests.hand_out.Given as goal

abbrev pub invariant-loop-pass : goal.invariant-loop-pass
invariant-loop-pass l = record {
  waiting : All (MayDraw l.context.lock 0 1000) l.passes.passes;
  ready : All (λ m. MayDraw l.context.lock 0 1000 m.0 × IsNote l.counter.id m.1) l.lanes.items;
  count : vec_len l.lanes + length l.passes.passes ≡ length l.fn.passes.passes;
  made : l.passes.made ≡ l.fn.passes.made;
  seat : IsNote l.counter.id l.seat;
}

abbrev pub decreases-loop-pass : goal.decreases-loop-pass
decreases-loop-pass l = length l.passes.passes
