use Rattle.request_frames.specs.Live.{live}
use Rattle.request_frames.proofs.SpelledTexts.{either}
use Rattle.request_frames.proofs.live_reading.one_live_reading.Goals as goal

pub returns-clause-covered : goal.returns-clause-covered
returns-clause-covered c = λ text. either (live text)
