use Rattle.reply_frames.proofs.Chains.{◌⨾◌}
use Rattle.reply_frames.proofs.reply_lines.put_served.Goals as goal

pub returns : goal.returns
returns g c = c.put_head.ensures ⨾ c.put_hex.ensures ⨾ c.put_text.ensures
