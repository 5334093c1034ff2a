use Rattle.request_frames.specs.Batch.{batch}
use Rattle.request_frames.proofs.SpelledTexts.{either}
use Rattle.request_frames.proofs.reading.one_reading.Goals as goal

pub returns-clause-covered : goal.returns-clause-covered
returns-clause-covered c = λ text. either (batch text)
