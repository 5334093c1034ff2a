use Rattle.std.proofs.Common.{◌≡◌, ◌≢◌, ◌<◌, ◌+◌, ◌≤◌, ℕ, length, set, get_or, inl, inr, sym, ap, ◌∙◌, subst, arith, get_or-set_other}
use Rattle.std.proofs.lemmas.List.{get_or_default, get_or-set_same}
use Rattle.batch_plans.specs.declared.replies.LaneAnswers.{LaneAnswers}
use Rattle.batch_plans.specs.Progress.{Progress, begun}
use Rattle.context_books.proofs.Lists.{is_cases}
use Rattle.context_core.specs.declared.lanes.Lane.{Lane}
use Rattle.context_core.specs.Preparing.{with_answers}
use Rattle.context_core.proofs.rehearsals.hand_out.Goals as goal

pub lanes-preserved : goal.lanes-preserved
lanes-preserved c =
    let inv = c.lanes.invariant in
    let i = c.lanes.i in
    let lanes = c.lanes.lanes in
    let answers = c.lanes.answers in
    let low = c.lanes-test.true in
    let there : i < length lanes = (let same = c.lanes.auto.lanes in omega arith) in
    let filled : i < length answers =
    (let same = c.lanes.auto.answers in let count = c.requires.count in omega arith) in
    let old : Lane = get_or lanes i c.index-lanes-i.result in
    let new : Lane = record old { progress = c.new.result } in
    let old_is : (lane : Lane) → old ≡ get_or c.args.lanes.now i lane = λ lane.
    get_or_default lanes i c.index-lanes-i.result lane there ∙ inv.left i lane (omega arith) in
    let given_is : (given : LaneAnswers) → c.replace-given.result ≡ get_or c.args.answers.now i given =
    λ given. c.replace-given.ensures.value
    ∙ get_or_default answers i c.index-answers-i.result given filled ∙ inv.given i given (omega arith) in
    record {
      done = λ k lane given below. elim (is_cases k i) [
        | inl same ↦ subst (λ j. get_or (set lanes i new) j lane
            ≡ with_answers (get_or c.args.lanes.now j lane) (get_or c.args.answers.now j given))
            (sym same) (get_or-set_same lanes i new lane there
            ∙ ap (λ (l : Lane). record l { progress = c.new.result }) (old_is lane)
            ∙ ap (λ (p : Progress). record (get_or c.args.lanes.now i lane) { progress = p })
            (c.new.ensures ∙ ap begun (given_is given)))
        | inr apart ↦ get_or-set_other lanes i k new lane apart
            ∙ inv.done k lane given (below_it k i below apart)
      ];
      left = λ k lane above. get_or-set_other lanes i k new lane (λ e. not_it k i above e)
          ∙ inv.left k lane (omega arith);
      given = λ k given above. get_or-set_other answers i k c.replace-given.new.dest given
          (λ e. not_it k i above e) ∙ inv.given k given (omega arith);
    }
  where
    below_it : (k i : ℕ) → k < i + 1 → k ≢ i → k < i
    below_it k i low apart = omega arith

    not_it : (k i : ℕ) → i + 1 ≤ k → k ≡ i → ⊥
    not_it k i above e = omega arith
