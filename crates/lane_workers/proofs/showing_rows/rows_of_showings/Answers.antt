use Rattle.lane_workers.proofs.ShowingExamples.{all_shown}
use Rattle.lane_workers.proofs.showing_rows.rows_of_showings.Goals as goal

pub returns : goal.returns
returns c = all_shown
