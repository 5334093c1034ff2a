use Rattle.context_books.proofs.Legals.{merged}
use Rattle.context_books.proofs.journals.a_legal_journal_merges_its_lanes.Goals as goal

pub returns : goal.returns
returns c = merged
