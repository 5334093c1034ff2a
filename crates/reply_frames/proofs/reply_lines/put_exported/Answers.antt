use Rattle.reply_frames.proofs.Chains.{◌⨾◌}
use Rattle.reply_frames.proofs.reply_lines.put_exported.Goals as goal

pub returns : goal.returns
returns g c = c.put_text.ensures ⨾ c.put_hex.ensures ⨾ c.put_text-2.ensures
