use Rattle.std.proofs.Common.{◌≡◌, ◌<◌, length, sym, ap, ◌∙◌, subst, arith, inl, inr}
use Rattle.std.specs.Prelude.{slice_get, slice_set}
use Rattle.std.proofs.lemmas.Bool.{cases_lt}
use Rattle.std.proofs.lemmas.Option.{slice_get_within, slice_get-get_or}
use Rattle.context_core.proofs.ScheduleLists.{one_value, slice_get-set_same, slice_get-set_other}
use Rattle.context_core.specs.declared.lanes.Lane.{Lane}
use Rattle.context_core.specs.Following.{LaneIsAnswered}
use Rattle.context_core.proofs.answerers.ByCallerAnswerer.answer_lanes.Goals as goal

pub answer_lane-requires-clause-done : goal.answer_lane-requires-clause-done
answer_lane-requires-clause-done c =
    let n = c.lanes.number in
    let low : n < length c.lanes.lanes = omega (arith, c.lanes-test.true, c.lanes.auto.lanes) in (
      c.requires.done.0,
      c.requires.done.1 n _ (sym (c.lanes.invariant.left n (omega arith))
          ∙ slice_get-get_or c.lanes.lanes n c.index-lanes-number.result low),
    )

pub answer_lane-requires-clause-there : goal.answer_lane-requires-clause-there
answer_lane-requires-clause-there c = omega (arith, c.lanes-test.true, c.requires.count)

pub lanes-preserved : goal.lanes-preserved
lanes-preserved c =
    let n = c.lanes.number in
    let lanes = c.lanes.lanes in
    let new = c.answer_lane.new.lane in
    let low : n < length lanes = omega (arith, c.lanes-test.true, c.lanes.auto.lanes) in
    let here = slice_get-get_or lanes n c.index-lanes-number.result low in
    record {
      answered = λ w done k lane less at. elim (cases_lt k n) [
        | inl before ↦ c.lanes.invariant.answered w done k lane before
            (sym (slice_get-set_other lanes n k new (λ e. let f : k ≡ n = e in omega arith)) ∙ at)
        | inr after ↦ (let same : n ≡ k = omega arith in
            let is : new ≡ lane = one_value new lane (sym (slice_get-set_same lanes n new _ here)
            ∙ ap (slice_get (slice_set lanes n new)) same ∙ at) in
            subst (λ i. LaneIsAnswered c.args.plan.now c.args.contexts.now w i lane.progress) same
            (subst (λ (x : Lane). LaneIsAnswered c.args.plan.now c.args.contexts.now w n x.progress) is
            (c.answer_lane.ensures w (done n _ (sym (c.lanes.invariant.left n (omega arith))
            ∙ here)))))
      ];
      left = λ k high. slice_get-set_other lanes n k new (λ e. let f : k ≡ n = e in omega arith)
          ∙ c.lanes.invariant.left k (omega arith);
    }

pub returns : goal.returns
returns c = λ w done l lane at.
    let low = slice_get_within c.lanes.lanes l lane at in
    c.lanes.invariant.answered w done l lane (omega (arith, low, c.lanes-test.false, c.lanes.auto.lanes))
    at
