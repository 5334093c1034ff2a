use Rattle.context_books.proofs.Marks.{legal_alone}
use Rattle.context_books.proofs.histories.a_legal_history_has_legal_journals.Goals as goal

pub returns : goal.returns
returns c = legal_alone
