use Rattle.reply_frames.proofs.Chains.{◌⨾◌}
use Rattle.reply_frames.proofs.reply_lines.put_stamp.Goals as goal

pub returns : goal.returns
returns g c = rw c.if-not-stamps.false (c.put_text.ensures ⨾ c.put_number.ensures)
