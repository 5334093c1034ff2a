use Rattle.reply_frames.proofs.Leaves.{Leaves-whole, Leaves-next, Leaves-nothing}
use Rattle.reply_frames.proofs.LinesLeft.{each-next, each-end}
use Rattle.capsule_frames.specs.Text.{capsule_line}
use Rattle.capsule_frames.proofs.printing.put_lines.Goals as goal

pub replies-init : goal.replies-init
replies-init g c = Leaves-whole

pub replies-preserved : goal.replies-preserved
replies-preserved g c =
    let next = each-next capsule_line c.args.replies.now c.replies.reply-index _ _ in
    Leaves-next (next c.replies-test.true c.reply-item.is) c.replies.invariant c.put_line.ensures

pub returns : goal.returns
returns g c =
    let end = each-end capsule_line c.args.replies.now c.replies.reply-index in
    Leaves-nothing (end c.replies-test.false) c.replies.invariant
