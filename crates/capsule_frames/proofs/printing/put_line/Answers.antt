use Rattle.reply_frames.proofs.Chains.{◌⨾◌}
use Rattle.capsule_frames.proofs.printing.put_line.Goals as goal

pub returns : goal.returns
returns g c = c.put_words.ensures ⨾ c.put_text.ensures
