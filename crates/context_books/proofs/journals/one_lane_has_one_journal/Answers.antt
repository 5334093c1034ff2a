use Rattle.context_books.proofs.OneLane.{one_lane_only}
use Rattle.context_books.proofs.journals.one_lane_has_one_journal.Goals as goal

pub returns : goal.returns
returns c = one_lane_only
