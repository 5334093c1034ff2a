use Rattle.context_books.proofs.OneLane.{no_lane_only}
use Rattle.context_books.proofs.journals.no_lane_has_an_empty_journal.Goals as goal

pub returns : goal.returns
returns c = no_lane_only
