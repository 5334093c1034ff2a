use Rattle.std.proofs.Common.{ap, sym, append_assoc}
use Rattle.std.specs.Prelude.{◌++◌, codes}
use Rattle.field_text.specs.Printing.{hex_text}
use Rattle.field_text.proofs.Held.{Puts-same}
use Rattle.reply_frames.proofs.Chains.{◌⨾◌}
use Rattle.capsule_frames.proofs.printing.put_words.Goals as goal

pub returns-in-Asked : goal.returns-in-Asked
returns-in-Asked g c =
    let digits = ap (λ bytes. codes "asked " ++ hex_text bytes) c.as_slice.ensures.items in
    rw c.in-Asked.is (Puts-same digits c.put_bytes.ensures)

pub returns-in-Answered : goal.returns-in-Answered
returns-in-Answered g c =
    let text = ap (λ bytes. codes "answered " ++ hex_text bytes) c.as_slice-in-Answered.ensures.items in
    let response = ap (λ bytes. codes " " ++ hex_text bytes) c.as_slice-in-Answered-2.ensures.items in
    rw c.in-Answered.is
    (Puts-same (sym (append_assoc (codes "answered " ++ hex_text c.in-Answered.text) (codes " ") (hex_text c.in-Answered.response)))
    (Puts-same text c.put_bytes-in-Answered.ensures ⨾ Puts-same response c.put_bytes-in-Answered-2.ensures))

pub returns-in-Took : goal.returns-in-Took
returns-in-Took g c =
    let digits = ap (λ bytes. codes "took " ++ hex_text bytes) c.as_slice-in-Took.ensures.items in
    rw c.in-Took.is (Puts-same digits c.put_bytes-in-Took.ensures)

pub returns-in-Refused : goal.returns-in-Refused
returns-in-Refused g c =
    let word = Puts-same c.word_of_refusal.ensures c.put_text-in-Refused.ensures in
    rw c.in-Refused.is (c.put_text.ensures ⨾ word)
