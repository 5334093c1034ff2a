use Rattle.std.proofs.Common.{ℕ, List, ◌++◌, codes, ap}
use Rattle.field_text.proofs.Held.{Puts-same}
use Rattle.reply_frames.proofs.Chains.{◌⨾◌}
use Rattle.reply_frames.proofs.reply_lines.put_refused.Goals as goal

pub returns : goal.returns
returns g c =
    Puts-same (ap (λ (word : List ℕ). codes "refused " ++ word) c.word_of_call_refusal.ensures) c.put_refusal.ensures
    ⨾ c.put_text.ensures
