use Rattle.reply_frames.proofs.Chains.{◌⨾◌}
use Rattle.reply_frames.proofs.reply_lines.put_mark.Goals as goal

pub returns : goal.returns
returns g c = c.put_place.ensures ⨾ c.put_stamp.ensures ⨾ c.put_text.ensures
