use Rattle.reply_frames.proofs.Chains.{◌⨾◌}
use Rattle.reply_frames.proofs.reply_lines.put_numbered.Goals as goal

pub returns : goal.returns
returns g c = c.put_text.ensures ⨾ c.put_number.ensures ⨾ c.put_text-2.ensures
