use Rattle.context_books.proofs.Guessing.{guesses_between}
use Rattle.context_books.proofs.guesses.a_guess_lies_between.Goals as goal

pub returns : goal.returns
returns c = guesses_between
