use Rattle.context_books.proofs.Refusals.{refusal_agrees}
use Rattle.context_books.proofs.laws.refusals_agree.Goals as goal

pub returns : goal.returns
returns c = refusal_agrees
