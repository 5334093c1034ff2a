use Rattle.std.proofs.Common.{length, refl, ap, ◌∙◌, arith}
use Rattle.batch_plans.specs.declared.replies.Answers.{Answers}
use Rattle.shared_runs.proofs.serving.begin.Goals as goal

pub prepare_all-requires-clause-room : goal.prepare_all-requires-clause-room
prepare_all-requires-clause-room g c κs within =
    c.into_vec-rooms.ensures.items ∙ ap (λ (a : Answers). a.lanes) c.requires.room

pub returns-clause-begun : goal.returns-clause-begun
returns-clause-begun g c = record {
  keys = refl;
  contexts = refl;
  journals = refl;
  no_answers = c.in_ok-answers.ensures.items;
  answers_room = omega (
    arith,
    ap length c.into_vec-rooms.ensures.items,
    c.into_vec-rooms.result.ok.0,
    c.len.ensures,
    c.in_ok-answers.ensures.capacity,
  );
  no_books = c.in_ok-books.ensures.items;
  books_room = omega (
    arith,
    ap length c.as_slice.ensures.items,
    c.in_ok-books.ensures.capacity,
  );
}
