use Rattle.reply_frames.proofs.Chains.{◌⨾◌}
use Rattle.reply_frames.proofs.reply_lines.put_context_line.Goals as goal

pub returns : goal.returns
returns g c = c.put_head.ensures ⨾ c.put_context_words.ensures ⨾ c.put_text.ensures
