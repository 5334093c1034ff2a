use Rattle.reply_frames.proofs.Chains.{◌⨾◌}
use Rattle.capsule_frames.proofs.printing.put_bytes.Goals as goal

pub returns : goal.returns
returns g c = c.put_text.ensures ⨾ c.put_hex.ensures
