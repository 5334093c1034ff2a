use Rattle.field_text.proofs.Held.{Puts-same}
use Rattle.reply_frames.proofs.Chains.{◌⨾◌}
use Rattle.reply_frames.proofs.reply_lines.put_bad.Goals as goal

pub returns : goal.returns
returns g c = c.put_head.ensures ⨾ Puts-same c.word_of_reason.ensures c.put_text.ensures ⨾ c.put_text-2.ensures
