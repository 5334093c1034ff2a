use Rattle.std.proofs.Common.{ap}
use Rattle.std.specs.List.{concat}
use Rattle.field_text.proofs.Held.{Puts-same}
use Rattle.reply_frames.specs.LineParts.{marks_behind}
use Rattle.reply_frames.proofs.Leaves.{Leaves-whole, Leaves-next, Leaves-nothing}
use Rattle.reply_frames.proofs.LinesLeft.{parts-next, parts-end}
use Rattle.reply_frames.proofs.printing.put_each_journal.Goals as goal

pub journals-init : goal.journals-init
journals-init g c = Leaves-whole

pub journals-preserved : goal.journals-preserved
journals-preserved g c =
    let lines = marks_behind c.args.word.now c.args.stamps in
    let number = c.journals.number in
    let next = parts-next lines c.args.journals.now number _ _ c.journals-test.true in
    let marks = ap (λ marks. concat (lines number marks)) c.as_slice.ensures.items in
    Leaves-next (next c.index-journals-number.is) c.journals.invariant
    (Puts-same marks c.put_journal.ensures)

pub returns : goal.returns
returns g c =
    let lines = marks_behind c.args.word.now c.args.stamps in
    let end = parts-end lines c.args.journals.now c.journals.number c.journals-test.false in
    Leaves-nothing end c.journals.invariant
