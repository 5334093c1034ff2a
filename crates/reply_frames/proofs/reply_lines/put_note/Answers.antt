use Rattle.std.proofs.Common.{decimal, ap, ◌∙◌}
use Rattle.field_text.proofs.Held.{Puts-same}
use Rattle.batch_plans.specs.LiveText.{bit}
use Rattle.reply_frames.proofs.Chains.{◌⨾◌}
use Rattle.reply_frames.proofs.reply_lines.put_note.Goals as goal

pub returns : goal.returns
returns g c =
    let live = ap decimal (c.bit.ensures ∙ ap bit c.tells_live.ensures) in
    c.put_number.ensures ⨾ c.put_text.ensures ⨾ c.put_number-2.ensures ⨾ c.put_text-2.ensures
    ⨾ Puts-same live c.put_number-3.ensures ⨾ c.put_text-3.ensures ⨾ c.put_number-4.ensures
    ⨾ c.put_text-4.ensures
