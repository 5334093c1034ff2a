use Rattle.std.proofs.Common.{sym, ◌∙◌}
use Rattle.request_frames.proofs.SpelledLive.{text_back}
use Rattle.request_frames.proofs.live_reading.one_live_spelling.Goals as goal

pub returns-clause-text : goal.returns-clause-text
returns-clause-text c = text_back

pub returns-clause-unique : goal.returns-clause-unique
returns-clause-unique c =
    λ one other plan first second. text_back one plan first ∙ sym (text_back other plan second)
