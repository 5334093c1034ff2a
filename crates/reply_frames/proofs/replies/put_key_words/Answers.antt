use Rattle.std.proofs.Common.{ap}
use Rattle.field_text.specs.Printing.{hex_text}
use Rattle.field_text.proofs.Held.{Puts-same}
use Rattle.reply_frames.proofs.Chains.{◌⨾◌}
use Rattle.reply_frames.proofs.replies.put_key_words.Goals as goal

pub returns-in-Generated : goal.returns-in-Generated
returns-in-Generated g c =
    let public = Puts-same (ap hex_text c.as_slice.ensures.items) c.put_hex.ensures in
    let secret_is = ap hex_text c.as_slice-in-Generated.ensures.items in
    let secret = Puts-same secret_is c.put_hex-in-Generated.ensures in
    rw c.in-Generated.is (c.put_text.ensures ⨾ public ⨾ c.put_text-in-Generated.ensures ⨾ secret)

pub returns-in-Secret : goal.returns-in-Secret
returns-in-Secret g c =
    let public_is = ap hex_text c.as_slice-in-Secret.ensures.items in
    let public = Puts-same public_is c.put_hex-in-Secret.ensures in
    rw c.in-Secret.is (c.put_text-in-Secret.ensures ⨾ public)

pub returns-in-Refused : goal.returns-in-Refused
returns-in-Refused g c =
    let word = Puts-same c.word_of_refusal.ensures c.put_text-in-Refused-2.ensures in
    rw c.in-Refused.is (c.put_text-in-Refused.ensures ⨾ word)
