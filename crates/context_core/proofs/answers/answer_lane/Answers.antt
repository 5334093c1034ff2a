use Rattle.std.proofs.Common.{◌≡◌, length, get_or, refl, sym, ap, ◌∙◌, subst, arith}
use Rattle.context_books.specs.Answered.{KeepsUp}
use Rattle.context_books.specs.LaneCalls.{lane_calls}
use Rattle.context_core.specs.Following.{run_of}
use Rattle.context_core.proofs.Answering.{begun_up, may_reply}
use Rattle.context_core.proofs.answers.answer_lane.Goals as goal

pub calls-init : goal.calls-init
calls-init c = record {
  keeps = λ w d. begun_up c.args.plan.now c.args.contexts.now c.requires.within c.requires.standing
      c.args.number c.requires.there w c.args.lane.now d;
  steps = refl;
  done = refl;
}

pub answer_call-requires : goal.answer_call-requires
answer_call-requires c =
    let w = c.requires.done.0 in
    let d = c.requires.done.1 in
    let plan = c.args.plan.now in
    let lane = c.args.lane.now in
    let calls_are = sym c.calls_of-calls.ensures in (
      w,
      c.args.number,
      c.calls.k,
      lane.settled,
      may_reply plan c.args.contexts.now c.requires.within c.requires.standing c.args.number
          c.requires.there w lane d c.calls.k c.calls_of-calls.result.now _ _
          c.as_slice.result.now c.index.result.now c.calls.lane.progress calls_are
          c.calls-test.true refl
          (c.as_slice.ensures.value ∙ c.calls.invariant.steps)
          (c.index.ensures ∙ ap (λ ss. get_or ss c.calls.k c.index.result.now) c.calls.invariant.done)
          (c.calls.invariant.keeps w d),
    )

pub calls-preserved : goal.calls-preserved
calls-preserved c =
    let plan = c.args.plan.now in
    let lane = c.args.lane.now in
    let calls_are = sym c.calls_of-calls.ensures in
    record {
      keeps = λ w d. c.answer_call.ensures w c.args.number c.calls.k lane.settled
          (may_reply plan c.args.contexts.now c.requires.within c.requires.standing c.args.number
          c.requires.there w lane d c.calls.k c.calls_of-calls.result.now _ _
          c.as_slice.result.now c.index.result.now c.calls.lane.progress calls_are
          c.calls-test.true refl (c.as_slice.ensures.value ∙ c.calls.invariant.steps)
          (c.index.ensures ∙ ap (λ ss. get_or ss c.calls.k c.index.result.now) c.calls.invariant.done)
          (c.calls.invariant.keeps w d));
      steps = c.calls.invariant.steps;
      done = c.calls.invariant.done;
    }

pub returns : goal.returns
returns c = λ w d.
    let plan = c.args.plan.now in
    let calls_are = sym c.calls_of-calls.ensures in
    let end : c.calls.k ≡ length (lane_calls plan c.args.number) = omega (
      arith,
      c.calls-test.false,
      c.calls.auto.k-end,
      ap length calls_are,
    ) in
    subst (λ n. KeepsUp (run_of plan c.args.contexts.now w) c.args.number n c.calls.lane.progress) end
    (c.calls.invariant.keeps w d)
