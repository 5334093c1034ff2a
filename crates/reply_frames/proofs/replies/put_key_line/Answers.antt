use Rattle.reply_frames.proofs.Chains.{◌⨾◌}
use Rattle.reply_frames.proofs.replies.put_key_line.Goals as goal

pub returns : goal.returns
returns g c =
    c.put_text.ensures ⨾ c.put_number.ensures ⨾ c.put_text-2.ensures ⨾ c.put_key_words.ensures
    ⨾ c.put_text-3.ensures
