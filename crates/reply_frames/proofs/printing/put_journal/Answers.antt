use Rattle.reply_frames.proofs.Chains.{◌⨾◌}
use Rattle.reply_frames.proofs.printing.put_journal.Goals as goal

pub returns : goal.returns
returns g c = c.put_numbered.ensures ⨾ c.put_marks.ensures
