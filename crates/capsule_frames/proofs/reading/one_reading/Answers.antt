use Rattle.request_frames.proofs.SpelledTexts.{either}
use Rattle.capsule_frames.specs.Capsules.{capsules}
use Rattle.capsule_frames.proofs.reading.one_reading.Goals as goal

pub returns-clause-covered : goal.returns-clause-covered
returns-clause-covered c = λ text. either (capsules text)
