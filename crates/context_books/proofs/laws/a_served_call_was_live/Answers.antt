use Rattle.context_books.proofs.FoundLive.{found_live}
use Rattle.context_books.proofs.laws.a_served_call_was_live.Goals as goal

pub returns : goal.returns
returns c = found_live
