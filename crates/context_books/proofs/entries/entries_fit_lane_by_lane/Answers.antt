use Rattle.context_books.proofs.EntryNumbers.{lane_by_lane}
use Rattle.context_books.proofs.entries.entries_fit_lane_by_lane.Goals as goal

pub returns : goal.returns
returns c = lane_by_lane
