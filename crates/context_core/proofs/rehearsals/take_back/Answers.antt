use Rattle.std.proofs.Common.{◌≡◌, ◌≢◌, ◌<◌, ◌+◌, ◌≤◌, ℕ, length, set, get_or, inl, inr, sym, ap, ◌∙◌, subst, arith, get_or-set_other}
use Rattle.std.proofs.lemmas.List.{get_or_default, get_or-set_same}
use Rattle.batch_plans.specs.Replies.{IsPrintable}
use Rattle.context_books.proofs.Lists.{is_cases}
use Rattle.context_core.specs.declared.lanes.Lane.{Lane}
use Rattle.context_core.specs.Preparing.{answers_of}
use Rattle.context_core.proofs.rehearsals.take_back.Goals as goal

pub lanes-preserved : goal.lanes-preserved
lanes-preserved c =
    let inv = c.lanes.invariant in
    let i = c.lanes.i in
    let lanes = c.lanes.lanes in
    let answers = c.lanes.answers in
    let given_back = c.finish.result in
    let is = c.finish.ensures in
    let low = c.lanes-test.true in
    let there : i < length lanes = (let same = c.lanes.auto.lanes in omega arith) in
    let filled : i < length answers =
    (let same = c.lanes.auto.answers in let count = c.requires.count in omega arith) in
    let back : (lane : Lane) → given_back ≡ answers_of (get_or c.args.lanes.now i lane).progress =
    λ lane. (λ h. record { pool = is.pool h; replies = is.replies h; batches = is.batches h })
    ∙ ap answers_of (c.replace-progress.ensures.value ∙ ap (λ (l : Lane). l.progress)
    (get_or_default lanes i c.index-lanes-i.result lane there ∙ inv.left i lane (omega arith))) in
    record {
      done = λ k lane given below. elim (is_cases k i) [
        | inl same ↦ subst (λ j. get_or (set answers i given_back) j given
            ≡ answers_of (get_or c.args.lanes.now j lane).progress) (sym same)
            (get_or-set_same answers i given_back given filled ∙ back lane)
        | inr apart ↦ get_or-set_other answers i k given_back given apart
            ∙ inv.done k lane given (below_it k i below apart)
      ];
      printable = λ k given below. elim (is_cases k i) [
        | inl same ↦ subst (λ j. IsPrintable (get_or (set answers i given_back) j given)) (sym same)
            (subst IsPrintable (sym (get_or-set_same answers i given_back given filled)) is.printable)
        | inr apart ↦ subst IsPrintable (sym (get_or-set_other answers i k given_back given apart))
            (inv.printable k given (below_it k i below apart))
      ];
      left = λ k lane above. get_or-set_other lanes i k _ lane (λ e. not_it k i above e)
          ∙ inv.left k lane (omega arith);
    }
  where
    below_it : (k i : ℕ) → k < i + 1 → k ≢ i → k < i
    below_it k i low apart = omega arith

    not_it : (k i : ℕ) → i + 1 ≤ k → k ≡ i → ⊥
    not_it k i above e = omega arith
