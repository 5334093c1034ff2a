use Rattle.context_books.proofs.Checking.{guessed_iff}
use Rattle.context_books.proofs.checks.a_guess_is_told.Goals as goal

pub returns : goal.returns
returns c = guessed_iff
