use Rattle.context_books.proofs.EntryNumbers.{same_advance, same_next}
use Rattle.context_books.proofs.entries.a_step_advances_as_its_answer.Goals as goal

pub returns-clause-advances : goal.returns-clause-advances
returns-clause-advances c = same_advance

pub returns-clause-number : goal.returns-clause-number
returns-clause-number c = same_next
