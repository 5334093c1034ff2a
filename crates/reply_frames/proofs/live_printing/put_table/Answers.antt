use Rattle.reply_frames.proofs.Chains.{◌⨾◌}
use Rattle.reply_frames.proofs.live_printing.put_table.Goals as goal

pub returns : goal.returns
returns g c = c.put_text.ensures ⨾ c.put_notes.ensures
