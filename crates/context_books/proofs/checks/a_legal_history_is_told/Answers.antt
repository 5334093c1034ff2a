use Rattle.context_books.proofs.CheckingHistory.{legal_history_iff}
use Rattle.context_books.proofs.checks.a_legal_history_is_told.Goals as goal

pub returns : goal.returns
returns c = legal_history_iff
