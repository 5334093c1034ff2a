use Rattle.std.proofs.Common.{◌≡◌, ◌<◌, ℕ, List, [], length, get_or, sym, ap, ◌∙◌, subst, arith, Some, None}
use Rattle.std.specs.Prelude.{slice_get}
use Rattle.std.specs.List.{All, refill}
use Rattle.call_places.specs.declared.entries.Mark.{Mark}
use Rattle.batch_plans.specs.declared.replies.Answers.{Answers}
use Rattle.batch_plans.specs.declared.replies.LaneAnswers.{LaneAnswers}
use Rattle.batch_plans.specs.Replies.{IsPrintable}
use Rattle.batch_plans.specs.AnswersText.{lanes_lines, UsesUp}
use Rattle.context_books.specs.LaneCalls.{lane_calls}
use Rattle.context_core.specs.Core.{core}
use Rattle.context_books.specs.ContextLines.{export_limits}
use Rattle.context_books.specs.Asks.{batch_of, cipher_at}
use Rattle.context_core.specs.declared.lanes.Lane.{Lane}
use Rattle.context_core.specs.Books.{book_at}
use Rattle.context_books.specs.Journals.{written, HasRoom}
use Rattle.context_core.specs.Following.{AreDone}
use Rattle.context_core.specs.Preparing.{answers_of, IsEnded}
use Rattle.context_core.proofs.Ended.{refill_is, answered_are, all_done, ended, lines_are, used, has_room, journals_are, lane_count, journals_count}
use Rattle.context_core.proofs.rehearsals.rehearse_with.Goals as goal

pub begun-requires-clause-within : goal.begun-requires-clause-within
begun-requires-clause-within g c = c.requires.within

pub begun-requires-clause-room : goal.begun-requires-clause-room
begun-requires-clause-room g c = ap (λ (a : Answers). a.lanes) c.requires.room

pub run-requires-clause-begun : goal.run-requires-clause-begun
run-requires-clause-begun g c = c.in_ok-rehearsal.ensures.begun

pub answer_lanes-requires-clause-count : goal.answer_lanes-requires-clause-count
answer_lanes-requires-clause-count g c = ap length c.as_mut_slice.ensures.value ∙ c.run.ensures.count

pub answer_lanes-requires-clause-done : goal.answer_lanes-requires-clause-done
answer_lanes-requires-clause-done g c = (
  core (batch_of c.args.plan.now c.args.contexts.now) (cipher_at c.args.contexts.now)
      c.args.schedule.now,
  subst (λ (xs : List Lane). AreDone c.args.plan.now c.args.contexts.now
      (core (batch_of c.args.plan.now c.args.contexts.now) (cipher_at c.args.contexts.now)
      c.args.schedule.now) xs) (sym c.as_mut_slice.ensures.value)
      (all_done c.args.plan.now c.args.contexts.now c.args.schedule.now c.requires.within
      c.requires.standing c.run.new.self.lanes.items c.run.new.self.books c.run.ensures),
)

pub take_back-requires-clause-count : goal.take_back-requires-clause-count
take_back-requires-clause-count g c =
    let room = ap (λ (a : Answers). a.lanes) c.requires.room in
    let size = c.answer_lanes.auto.lanes in
    let same : length c.as_mut_slice-2.result.now ≡ length c.run.new.self.lanes.items =
    ap length (answered_are c.run.new.self.lanes.len c.run.new.self.lanes.items
    c.answer_lanes.new.lanes c.as_mut_slice-2.result.now c.run.new.self.lanes.ok.0
    (size ∙ ap length c.as_mut_slice.ensures.value) c.as_mut_slice-2.ensures.value) ∙ size
    ∙ ap length c.as_mut_slice.ensures.value in
    ap length c.as_mut_slice-3.ensures.items ∙ c.in_ok-rehearsal.ensures.count
    ∙ lane_count c.args.plan.now (export_limits c.args.contexts.now) c.args.answers.now.lanes room
    ∙ sym c.run.ensures.count ∙ sym same

pub take_back-requires-clause-ended : goal.take_back-requires-clause-ended
take_back-requires-clause-ended g c =
    let plan = c.args.plan.now in
    let contexts = c.args.contexts.now in
    let schedule = c.args.schedule.now in
    let lanes = c.run.new.self.lanes.items in
    let w = core (batch_of plan contexts) (cipher_at contexts) schedule in
    let t = c.run.ensures in
    let done = all_done plan contexts schedule c.requires.within c.requires.standing lanes
    c.run.new.self.books t in
    let size = c.answer_lanes.auto.lanes ∙ ap length c.as_mut_slice.ensures.value in
    let after = c.answer_lanes.new.lanes in
    let answered = c.answer_lanes.ensures w (subst (λ (xs : List Lane). AreDone plan contexts w xs)
    (sym c.as_mut_slice.ensures.value) done) in
    subst (λ (xs : List Lane). All IsEnded xs) (sym (answered_are c.run.new.self.lanes.len lanes after
    c.as_mut_slice-2.result.now c.run.new.self.lanes.ok.0 size c.as_mut_slice-2.ensures.value))
    (ended plan contexts schedule c.requires.within c.requires.standing lanes c.run.new.self.books t
    after size answered)

pub write_journals-requires-clause-count : goal.write_journals-requires-clause-count
write_journals-requires-clause-count g c =
    let room = ap (λ (a : Answers). a.journals) c.requires.room in
    ap length c.as_mut_slice-4.ensures.items
    ∙ journals_count c.args.plan.now (export_limits c.args.contexts.now)
    c.args.answers.now.journals room
    ∙ sym c.requires.standing.count ∙ sym c.run.ensures.books_follow.count
    ∙ sym (ap length c.deref.ensures.value)

pub write_journals-requires-clause-room : goal.write_journals-requires-clause-room
write_journals-requires-clause-room g c =
    let last = c.run.new.self in
    let t = c.run.ensures in
    λ n low.
    let there : n < length c.args.plan.now.contexts = omega (
      arith,
      low,
      ap length c.deref.ensures.value,
      t.books_follow.count,
      c.requires.standing.count,
    ) in
    let has = has_room c.args.plan.now c.args.contexts.now c.args.schedule.now c.requires.within
    c.requires.standing last.lanes.items last.books t c.args.answers.now.journals
    (ap (λ (a : Answers). a.journals) c.requires.room) n there in
    subst (λ books. HasRoom (get_or books n None) (get_or c.as_mut_slice-4.result.now n []))
    (sym c.deref.ensures.value)
    (subst (λ (js : List (List Mark)). HasRoom (book_at last.books n) (get_or js n []))
    (sym c.as_mut_slice-4.ensures.items) has)

pub returns-clause-answered : goal.returns-clause-answered
returns-clause-answered g c =
    let plan = c.args.plan.now in
    let contexts = c.args.contexts.now in
    let schedule = c.args.schedule.now in
    let last = c.run.new.self in
    let t = c.run.ensures in
    let w = core (batch_of plan contexts) (cipher_at contexts) schedule in
    let done = all_done plan contexts schedule c.requires.within c.requires.standing last.lanes.items
    last.books t in
    let size : length c.answer_lanes.new.lanes ≡ length last.lanes.items =
    c.answer_lanes.auto.lanes ∙ ap length c.as_mut_slice.ensures.value in
    let after = c.answer_lanes.new.lanes in
    let answered = c.answer_lanes.ensures w (subst (λ (xs : List Lane). AreDone plan contexts w xs)
    (sym c.as_mut_slice.ensures.value) done) in
    let lanes_are = answered_are last.lanes.len last.lanes.items after c.as_mut_slice-2.result.now
    last.lanes.ok.0 size c.as_mut_slice-2.ensures.value in
    let mid = c.begun.new.answers in
    let back = c.take_back.new.answers in
    let back_size : length back ≡ length mid =
    c.take_back.auto.answers ∙ ap length c.as_mut_slice-3.ensures.items in
    let count : length mid ≡ length plan.lanes = c.in_ok-rehearsal.ensures.count
    ∙ lane_count plan (export_limits contexts) c.args.answers.now.lanes
    (ap (λ (a : Answers). a.lanes) c.requires.room) in
    let old = c.args.answers.now.journals in
    let journals = c.write_journals.new.journals in
    let journals_size : length journals ≡ length old =
    c.write_journals.auto.journals ∙ ap length c.as_mut_slice-4.ensures.items in
    let room = ap (λ (a : Answers). a.journals) c.requires.room in
    let back_count = back_size ∙ count ∙ sym t.count ∙ sym size in
    let given = subst (λ (xs : List Lane). (l : ℕ) (lane : Lane) (given : LaneAnswers) → l < length xs
    → get_or back l given ≡ answers_of (get_or xs l lane).progress)
    lanes_are c.take_back.ensures.answers in
    record {
      lanes = ap (lanes_lines plan.lanes) (refill_is (length mid) mid back back_size)
          ∙ lines_are plan contexts schedule c.requires.within c.requires.standing last.lanes.items
          last.books t after size answered back back_count given;
      used = subst (λ (xs : List LaneAnswers). (l : ℕ) (one : LaneAnswers)
          → slice_get xs l ≡ Some one → UsesUp (lane_calls plan l) one.replies one.batches)
          (sym (refill_is (length mid) mid back back_size))
          (used plan contexts schedule c.requires.within c.requires.standing last.lanes.items
          last.books t after size answered back back_count given);
      journals = refill_is (length old) old journals journals_size
          ∙ journals_are plan contexts schedule c.requires.within c.requires.standing
          last.lanes.items last.books t old room journals
          (journals_size ∙ journals_count plan (export_limits contexts) old room)
          (λ n low.
          let there : n < length c.deref.result.now = omega (
            arith,
            low,
            ap length c.deref.ensures.value,
            t.books_follow.count,
            c.requires.standing.count,
          ) in
          c.write_journals.ensures n there
          ∙ ap (λ books. written (get_or books n None) (get_or c.as_mut_slice-4.result.now n []))
          c.deref.ensures.value
          ∙ ap (λ (js : List (List Mark)). written (book_at last.books n) (get_or js n []))
          c.as_mut_slice-4.ensures.items);
    }

pub returns-clause-printable : goal.returns-clause-printable
returns-clause-printable g c =
    let plan = c.args.plan.now in
    let limits = export_limits c.args.contexts.now in
    let mid = c.begun.new.answers in
    let back = c.take_back.new.answers in
    let back_size : length back ≡ length mid =
    c.take_back.auto.answers ∙ ap length c.as_mut_slice-3.ensures.items in
    let back_is : refill (length mid) mid back ≡ back = refill_is (length mid) mid back back_size in
    let old = c.args.answers.now.journals in
    let journals = c.write_journals.new.journals in
    let size : length journals ≡ length old =
    c.write_journals.auto.journals ∙ ap length c.as_mut_slice-4.ensures.items in
    record {
      keys = c.requires.replies.0;
      contexts = c.requires.replies.1;
      lanes = ap length back_is ∙ back_size ∙ c.in_ok-rehearsal.ensures.count
          ∙ lane_count plan limits c.args.answers.now.lanes
          (ap (λ (a : Answers). a.lanes) c.requires.room);
      journals = ap length (refill_is (length old) old journals size) ∙ size
          ∙ journals_count plan limits old (ap (λ (a : Answers). a.journals) c.requires.room);
      printable = subst (λ (xs : List LaneAnswers). All IsPrintable xs) (sym back_is)
          c.take_back.ensures.printable;
    }
