use Rattle.std.proofs.Common.{refl}
use Rattle.batch_plans.specs.Room.{blank_mark}
use Rattle.batch_plans.specs.ReplyText.{mark_line}
use Rattle.reply_frames.proofs.Leaves.{Leaves-whole, Leaves-next, Leaves-nothing}
use Rattle.reply_frames.proofs.LinesLeft.{each-next, each-end}
use Rattle.reply_frames.proofs.printing.put_marks.Goals as goal

pub marks-init : goal.marks-init
marks-init g c = Leaves-whole

pub marks-preserved : goal.marks-preserved
marks-preserved g c =
    let line = mark_line c.args.stamps in
    let next = each-next line c.args.marks.now c.marks.mark-index blank_mark _ in
    Leaves-next (next c.marks-test.true refl) c.marks.invariant c.put_mark.ensures

pub returns : goal.returns
returns g c =
    let end = each-end (mark_line c.args.stamps) c.args.marks.now c.marks.mark-index in
    Leaves-nothing (end c.marks-test.false) c.marks.invariant
