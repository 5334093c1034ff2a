use Rattle.std.proofs.Common.{◌≡◌, ◌<◌, ℕ, [], List, length, sym, ap, ◌∙◌, subst}
use Rattle.std.specs.List.{All}
use Rattle.call_places.specs.declared.entries.Entry.{Entry}
use Rattle.call_places.specs.declared.entries.Mark.{Mark}
use Rattle.batch_plans.specs.declared.plan.CallLine.{CallLine}
use Rattle.batch_plans.specs.declared.plan.Plan.{Plan}
use Rattle.batch_plans.specs.Within.{IsWithinLimits}
use Rattle.batch_plans.specs.AnswersText.{IsAnswered}
use Rattle.context_books.specs.Live.{looked_up_plan}
use Rattle.context_core.specs.Rehearsals.{rehearsed, AreAnswersOf}
use Rattle.result_lines.proofs.LookedLimits.{looked_lanes}
use Rattle.batch_alone.specs.Tables.{SoFar, table_of}
use Rattle.batch_alone.proofs.Whole.{placed_within, is_a_live_run, stamps_within}
use Rattle.batch_alone.proofs.Made.{Gives, made, is_made, is_answered, used_by_calls}
use Rattle.batch_alone.proofs.runs.run_live_in_order.Goals as goal

pub answer_as_served-requires-clause-within : goal.answer_as_served-requires-clause-within
answer_as_served-requires-clause-within g c =
    let plan = c.args.plan.now in
    let contexts = c.args.contexts.now in
    let notes_are = ap (λ (t : SoFar). t.notes) c.in_ok-notes.ensures in
    let served_are : c.in_ok-served.served ≡ (looked_up_plan plan (table_of plan contexts).notes).lanes =
    c.in_ok-served.ensures
    ∙ ap (λ (ns : List Entry). (looked_up_plan plan ns).lanes) (c.deref.ensures.value ∙ notes_are) in
    subst (λ (ls : List (List CallLine)). IsWithinLimits (record plan { lanes = ls; added = 0 }))
    (sym served_are) (placed_within plan contexts c.requires.within c.requires.standing [])

pub put_own_replies-requires-clause-count : goal.put_own_replies-requires-clause-count
put_own_replies-requires-clause-count g c =
    let plan = c.args.plan.now in
    let contexts = c.args.contexts.now in
    let notes_are = ap (λ (t : SoFar). t.notes) c.in_ok-notes.ensures in
    let served_are : c.in_ok-served.served ≡ (looked_up_plan plan (table_of plan contexts).notes).lanes =
    c.in_ok-served.ensures
    ∙ ap (λ (ns : List Entry). (looked_up_plan plan ns).lanes) (c.deref.ensures.value ∙ notes_are) in
    let mid = c.in_ok-answers.answers in
    let mid_is = subst (λ (ls : List (List CallLine)).
    AreAnswersOf (rehearsed (record plan { lanes = ls; added = 0 }) contexts []) mid) served_are
    c.in_ok-answers.ensures.answered in
    let mid_lanes : length mid.lanes ≡ length plan.lanes = c.in_ok-answers.ensures.printable.lanes
    ∙ ap length served_are ∙ looked_lanes plan (table_of plan contexts).notes c.requires.within in
    ap length c.as_mut_slice.ensures.items ∙ mid_lanes
    ∙ sym (ap (λ (p : Plan). length p.lanes) c.in_ok-answers.ensures.plan)

pub put_own_replies-requires-clause-used : goal.put_own_replies-requires-clause-used
put_own_replies-requires-clause-used g c =
    let plan = c.args.plan.now in
    let contexts = c.args.contexts.now in
    let notes_are = ap (λ (t : SoFar). t.notes) c.in_ok-notes.ensures in
    let served_are : c.in_ok-served.served ≡ (looked_up_plan plan (table_of plan contexts).notes).lanes =
    c.in_ok-served.ensures
    ∙ ap (λ (ns : List Entry). (looked_up_plan plan ns).lanes) (c.deref.ensures.value ∙ notes_are) in
    let mid = c.in_ok-answers.answers in
    let mid_is = subst (λ (ls : List (List CallLine)).
    AreAnswersOf (rehearsed (record plan { lanes = ls; added = 0 }) contexts []) mid) served_are
    c.in_ok-answers.ensures.answered in
    let mid_lanes : length mid.lanes ≡ length plan.lanes = c.in_ok-answers.ensures.printable.lanes
    ∙ ap length served_are ∙ looked_lanes plan (table_of plan contexts).notes c.requires.within in
    used_by_calls plan contexts c.requires.within c.requires.standing mid c.answer_as_served.new.plan
    c.as_mut_slice.result.now mid_is c.in_ok-answers.ensures.plan c.as_mut_slice.ensures.items

pub restamp-requires : goal.restamp-requires
restamp-requires g c =
    let plan = c.args.plan.now in
    let contexts = c.args.contexts.now in
    let notes_are = ap (λ (t : SoFar). t.notes) c.in_ok-notes.ensures in
    let served_are : c.in_ok-served.served ≡ (looked_up_plan plan (table_of plan contexts).notes).lanes =
    c.in_ok-served.ensures
    ∙ ap (λ (ns : List Entry). (looked_up_plan plan ns).lanes) (c.deref.ensures.value ∙ notes_are) in
    let mid = c.in_ok-answers.answers in
    let mid_is = subst (λ (ls : List (List CallLine)).
    AreAnswersOf (rehearsed (record plan { lanes = ls; added = 0 }) contexts []) mid) served_are
    c.in_ok-answers.ensures.answered in
    let mid_lanes : length mid.lanes ≡ length plan.lanes = c.in_ok-answers.ensures.printable.lanes
    ∙ ap length served_are ∙ looked_lanes plan (table_of plan contexts).notes c.requires.within in
    let stamps_are = ap (λ (t : SoFar). t.stamps) c.in_ok-notes.ensures in
    let below = stamps_within plan contexts c.requires.within c.requires.standing mid mid_is in
    subst (λ (js : List (List Mark)). All (All (λ (m : Mark). m.stamp < length c.deref-3.result.now)) js)
    (sym c.as_mut_slice-2.ensures.items)
    (subst (λ (ss : List ℕ). All (All (λ (m : Mark). m.stamp < length ss)) mid.journals)
    (sym (c.deref-3.ensures.value ∙ stamps_are)) below)

pub returns-clause-run : goal.returns-clause-run
returns-clause-run g c =
    let plan = c.args.plan.now in
    let contexts = c.args.contexts.now in
    let notes_are = ap (λ (t : SoFar). t.notes) c.in_ok-notes.ensures in
    let served_are : c.in_ok-served.served ≡ (looked_up_plan plan (table_of plan contexts).notes).lanes =
    c.in_ok-served.ensures
    ∙ ap (λ (ns : List Entry). (looked_up_plan plan ns).lanes) (c.deref.ensures.value ∙ notes_are) in
    let mid = c.in_ok-answers.answers in
    let mid_is = subst (λ (ls : List (List CallLine)).
    AreAnswersOf (rehearsed (record plan { lanes = ls; added = 0 }) contexts []) mid) served_are
    c.in_ok-answers.ensures.answered in
    let mid_lanes : length mid.lanes ≡ length plan.lanes = c.in_ok-answers.ensures.printable.lanes
    ∙ ap length served_are ∙ looked_lanes plan (table_of plan contexts).notes c.requires.within in
    let stamps_are = ap (λ (t : SoFar). t.stamps) c.in_ok-notes.ensures in
    let gives : Gives plan contexts c.requires.within c.requires.standing mid
    c.answer_as_served.new.plan c.as_slice-adds.result.now c.deref-2.result.now c.deref-3.result.now
    c.as_mut_slice.result.now c.put_own_replies.new.answers c.as_mut_slice-2.result.now
    c.restamp.new.journals = record {
      mid_is = mid_is;
      mid_lanes = mid_lanes;
      plan_is = c.in_ok-answers.ensures.plan;
      adds_are = c.as_slice-adds.ensures.items;
      notes_are = c.deref-2.ensures.value ∙ notes_are;
      stamps_are = c.deref-3.ensures.value ∙ stamps_are;
      lanes_are = c.as_mut_slice.ensures.items;
      size = c.put_own_replies.auto.answers;
      each = c.in_ok-put_own_replies.ensures.each;
      journals_are = c.as_mut_slice-2.ensures.items;
      marks_size = c.restamp.auto.journals;
      marks_are = c.restamp.ensures;
    } in
    let noted_are = c.from_vec.ensures.items ∙ notes_are in
    is_a_live_run plan contexts c.requires.within c.requires.standing mid
    (made plan contexts c.requires.within c.requires.standing mid c.put_own_replies.new.answers
    c.restamp.new.journals c.from_vec.result)
    (is_made plan contexts c.requires.within c.requires.standing mid c.answer_as_served.new.plan
    c.as_slice-adds.result.now c.deref-2.result.now c.deref-3.result.now c.as_mut_slice.result.now
    c.put_own_replies.new.answers c.as_mut_slice-2.result.now c.restamp.new.journals gives
    c.from_vec.result noted_are)

pub returns-clause-printable : goal.returns-clause-printable
returns-clause-printable g c =
    let plan = c.args.plan.now in
    let contexts = c.args.contexts.now in
    let notes_are = ap (λ (t : SoFar). t.notes) c.in_ok-notes.ensures in
    let served_are : c.in_ok-served.served ≡ (looked_up_plan plan (table_of plan contexts).notes).lanes =
    c.in_ok-served.ensures
    ∙ ap (λ (ns : List Entry). (looked_up_plan plan ns).lanes) (c.deref.ensures.value ∙ notes_are) in
    let mid = c.in_ok-answers.answers in
    let mid_is = subst (λ (ls : List (List CallLine)).
    AreAnswersOf (rehearsed (record plan { lanes = ls; added = 0 }) contexts []) mid) served_are
    c.in_ok-answers.ensures.answered in
    let mid_lanes : length mid.lanes ≡ length plan.lanes = c.in_ok-answers.ensures.printable.lanes
    ∙ ap length served_are ∙ looked_lanes plan (table_of plan contexts).notes c.requires.within in
    let stamps_are = ap (λ (t : SoFar). t.stamps) c.in_ok-notes.ensures in
    let gives : Gives plan contexts c.requires.within c.requires.standing mid
    c.answer_as_served.new.plan c.as_slice-adds.result.now c.deref-2.result.now c.deref-3.result.now
    c.as_mut_slice.result.now c.put_own_replies.new.answers c.as_mut_slice-2.result.now
    c.restamp.new.journals = record {
      mid_is = mid_is;
      mid_lanes = mid_lanes;
      plan_is = c.in_ok-answers.ensures.plan;
      adds_are = c.as_slice-adds.ensures.items;
      notes_are = c.deref-2.ensures.value ∙ notes_are;
      stamps_are = c.deref-3.ensures.value ∙ stamps_are;
      lanes_are = c.as_mut_slice.ensures.items;
      size = c.put_own_replies.auto.answers;
      each = c.in_ok-put_own_replies.ensures.each;
      journals_are = c.as_mut_slice-2.ensures.items;
      marks_size = c.restamp.auto.journals;
      marks_are = c.restamp.ensures;
    } in
    let noted_are = c.from_vec.ensures.items ∙ notes_are in
    is_answered plan contexts c.requires.within c.requires.standing mid c.answer_as_served.new.plan
    c.as_slice-adds.result.now c.deref-2.result.now c.deref-3.result.now c.as_mut_slice.result.now
    c.put_own_replies.new.answers c.as_mut_slice-2.result.now c.restamp.new.journals gives
    c.from_vec.result noted_are
    (subst (λ (ls : List (List CallLine)). IsAnswered (record plan { lanes = ls; added = 0 }) mid)
    served_are c.in_ok-answers.ensures.printable)
