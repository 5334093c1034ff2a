use Rattle.request_frames.proofs.Fronts.{live_begins, live_goes_on}
use Rattle.request_frames.proofs.live_reading.live_fronts_are_batches.Goals as goal

pub returns-clause-begins : goal.returns-clause-begins
returns-clause-begins c = live_begins

pub returns-clause-goes_on : goal.returns-clause-goes_on
returns-clause-goes_on c = live_goes_on
