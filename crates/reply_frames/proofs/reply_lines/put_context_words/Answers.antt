use Rattle.std.proofs.Common.{ℕ, List, ◌++◌, codes, ap}
use Rattle.field_text.specs.Printing.{hex_text}
use Rattle.field_text.proofs.Held.{Puts-same}
use Rattle.reply_frames.proofs.Chains.{◌⨾◌}
use Rattle.reply_frames.proofs.reply_lines.put_context_words.Goals as goal

pub returns-in-Sender : goal.returns-in-Sender
returns-in-Sender g c =
    let enc = Puts-same (ap hex_text c.as_slice.ensures.items) c.put_hex.ensures in
    rw c.in-Sender.is (c.put_text-in-Sender.ensures ⨾ enc)

pub returns-in-Refused : goal.returns-in-Refused
returns-in-Refused g c =
    let word = ap (λ (word : List ℕ). codes "refused " ++ word) c.word_of_context_refusal.ensures in
    rw c.in-Refused.is (Puts-same word c.put_refusal.ensures)
