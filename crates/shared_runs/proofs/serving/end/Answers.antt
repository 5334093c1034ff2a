use Rattle.std.proofs.Common.{◌<◌, ◌≤◌, ℕ, List, [], Option, length, map, refl, sym, ap, ◌∙◌, subst, arith, slice_index_or}
use Rattle.std.specs.List.{refill}
use Rattle.std.proofs.lemmas.List.{length-map}
use Rattle.std.proofs.lemmas.List.FromFn.{length-map-range_with_len}
use Rattle.call_places.specs.declared.entries.Mark.{Mark}
use Rattle.call_places.specs.Entries.{mark_of}
use Rattle.context_books.specs.Books.{BookView}
use Rattle.batch_plans.specs.declared.replies.Answers.{Answers}
use Rattle.batch_plans.specs.declared.replies.LaneAnswers.{LaneAnswers}
use Rattle.batch_plans.specs.Room.{lane_room, journal_room}
use Rattle.context_books.specs.ContextLines.{export_limits}
use Rattle.shared_runs.specs.Closing.{entries_of}
use Rattle.shared_runs.proofs.Closed.{book_at}
use Rattle.shared_runs.proofs.Handed.{written_back}
use Rattle.shared_runs.proofs.Written.{room_size}
use Rattle.shared_runs.proofs.serving.end.Goals as goal

pub take_all_back-requires-clause-room : goal.take_all_back-requires-clause-room
take_all_back-requires-clause-room g c =
    let plan = g.K.RunsLanes.plan c.args.shared in
    let limits = export_limits (g.K.RunsLanes.contexts c.args.shared) in
    let r = c.requires.room in
    let lanes = ap (λ (a : Answers). length a.lanes) r.2 in
    let size = length-map plan.lanes (lane_room plan limits) in
    omega (arith, c.requires.done.count_is, r.1.answers_room, lanes, size)

pub close-notes-requires-clause-room : goal.close-notes-requires-clause-room
close-notes-requires-clause-room g c =
    let plan = g.K.RunsLanes.plan c.args.shared in
    let limits = export_limits (g.K.RunsLanes.contexts c.args.shared) in
    let r = c.requires.room in
    let rooms = ap (λ (a : Answers). length a.journals) r.2 in
    let size = length-map-range_with_len (journal_room plan.contexts limits plan.lanes) 0
    (length plan.contexts) in
    omega (arith, rooms, size, r.1.books_room, c.requires.contexts)

pub put_journals-requires-clause-count : goal.put_journals-requires-clause-count
put_journals-requires-clause-count g c =
    let plan = g.K.RunsLanes.plan c.args.shared in
    let limits = export_limits (g.K.RunsLanes.contexts c.args.shared) in
    let r = c.requires.room in
    let rooms = ap length (c.as_mut_slice.ensures.items ∙ r.1.journals
    ∙ ap (λ (a : Answers). a.journals) r.2) in
    let size = length-map-range_with_len (journal_room plan.contexts limits plan.lanes) 0
    (length plan.contexts) in
    omega (
      arith,
      rooms,
      size,
      c.requires.contexts,
      c.close-notes.ensures.count,
      ap length c.deref.ensures.value,
    )

pub put_journals-requires-clause-room : goal.put_journals-requires-clause-room
put_journals-requires-clause-room g c =
    let plan = g.K.RunsLanes.plan c.args.shared in
    let limits = export_limits (g.K.RunsLanes.contexts c.args.shared) in
    let r = c.requires.room in
    let rooms = c.as_mut_slice.ensures.items ∙ r.1.journals ∙ ap (λ (a : Answers). a.journals) r.2 in
    let count = c.close-notes.ensures.count ∙ c.requires.contexts in
    subst (λ (books : List (Option BookView)). (n : ℕ) → n < length books
    → length (entries_of (book_at books n))
    ≤ length (slice_index_or c.as_mut_slice.result.now n [])) (sym c.deref.ensures.value)
    (λ n low. omega (
      arith,
      c.close-notes.ensures.few n,
      room_size plan.contexts limits plan.lanes c.as_mut_slice.result.now rooms n
          (omega (arith, count)),
    ))

pub returns-clause-run : goal.returns-clause-run
returns-clause-run g c =
    let run = g.K.RunsLanes.run c.args.shared in
    let answers = c.take_all_back.new.answers.items in
    let notes = c.close-notes.result in
    let old = c.args.begun.journals in
    let new = c.put_journals.new.journals in
    let marks = λ (books : List (Option BookView)). map (map mark_of) (map entries_of books) in
    let written = written_back (length old) old new refl
    (c.put_journals.auto.journals ∙ ap length c.as_mut_slice.ensures.items) in
    subst (λ (ls : List LaneAnswers). run ls (refill (length old) old new) notes) (sym c.from_vec.ensures.items)
    (subst (λ (js : List (List Mark)). run answers js notes)
    (sym (written ∙ c.put_journals.ensures ∙ ap marks c.deref.ensures.value))
    (c.close-notes.ensures.run answers c.take_all_back.ensures.back c.take_all_back.ensures.all))

pub returns-clause-set_up : goal.returns-clause-set_up
returns-clause-set_up g c = λ room is. (is.keys, is.contexts)

pub returns-clause-lanes : goal.returns-clause-lanes
returns-clause-lanes g c = ap length c.from_vec.ensures.items ∙ c.take_all_back.ensures.all

pub returns-clause-journals : goal.returns-clause-journals
returns-clause-journals g c =
    let plan = g.K.RunsLanes.plan c.args.shared in
    let limits = export_limits (g.K.RunsLanes.contexts c.args.shared) in
    let old = c.args.begun.journals in
    let new = c.put_journals.new.journals in
    let size = c.put_journals.auto.journals ∙ ap length c.as_mut_slice.ensures.items in
    let r = c.requires.room in
    ap length (written_back (length old) old new refl size) ∙ size
    ∙ ap length (r.1.journals ∙ ap (λ (a : Answers). a.journals) r.2)
    ∙ length-map-range_with_len (journal_room plan.contexts limits plan.lanes) 0 (length plan.contexts)
