use Rattle.context_books.proofs.Checking.{legal_iff}
use Rattle.context_books.proofs.checks.a_legal_journal_is_told.Goals as goal

pub returns : goal.returns
returns c = legal_iff
