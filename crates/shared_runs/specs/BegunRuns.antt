-- ---- for the proofs: a run that is begun.
use Rattle.std.specs.Prelude.{◌≡◌, ◌≤◌, [], length, vec_capacity}
use Rattle.batch_plans.specs.declared.replies.Answers.{Answers}
use Rattle.shared_runs.specs.declared.begun_run.BegunRun.{BegunRun}

-- what of the answers is no lane's is kept, and there is room for the answers of their lanes and for a
-- book to each of their journals
pub record IsBegun {L : Type 0} (answers : Answers) (b : BegunRun L) : Type 0 where
  pub keys : b.keys ≡ answers.keys
  pub contexts : b.contexts ≡ answers.contexts
  pub journals : b.journals ≡ answers.journals
  pub no_answers : b.answers.items ≡ []
  pub answers_room : length answers.lanes ≤ vec_capacity b.answers
  pub no_books : b.books.items ≡ []
  pub books_room : length answers.journals ≤ vec_capacity b.books
