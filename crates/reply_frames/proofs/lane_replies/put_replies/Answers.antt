use Rattle.std.proofs.Common.{refl}
use Rattle.batch_plans.specs.declared.replies.Reply.TheVariants.{Blank}
use Rattle.batch_plans.specs.AnswersText.{reply_line}
use Rattle.reply_frames.proofs.Leaves.{Leaves-whole, Leaves-next, Leaves-nothing}
use Rattle.reply_frames.proofs.LinesLeft.{each-next, each-end}
use Rattle.reply_frames.proofs.lane_replies.put_replies.Goals as goal

pub replies-init : goal.replies-init
replies-init g c = Leaves-whole

pub replies-preserved : goal.replies-preserved
replies-preserved g c =
    let line = reply_line c.args.pool.now in
    let next = each-next line c.args.replies.now c.replies.reply-index Blank _ in
    Leaves-next (next c.replies-test.true refl) c.replies.invariant c.put_reply.ensures

pub returns : goal.returns
returns g c =
    let end = each-end (reply_line c.args.pool.now) c.args.replies.now c.replies.reply-index in
    Leaves-nothing (end c.replies-test.false) c.replies.invariant
