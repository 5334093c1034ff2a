use Rattle.reply_frames.proofs.Chains.{◌⨾◌}
use Rattle.reply_frames.proofs.reply_lines.put_place.Goals as goal

pub returns : goal.returns
returns g c =
    c.put_number.ensures ⨾ c.put_text.ensures ⨾ c.put_number-2.ensures ⨾ c.put_text-2.ensures
    ⨾ c.put_number-3.ensures
