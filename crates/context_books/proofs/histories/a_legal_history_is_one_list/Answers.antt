use Rattle.context_books.proofs.OneHistory.{history_iff}
use Rattle.context_books.proofs.histories.a_legal_history_is_one_list.Goals as goal

pub returns : goal.returns
returns c = history_iff
