use Rattle.batch_plans.specs.AnswersText.{reply_line}
use Rattle.reply_frames.proofs.Leaves.{Leaves}
use Rattle.reply_frames.proofs.LinesLeft.{each_from}
use Rattle.reply_frames.proofs.lane_replies.put_replies.Given as goal

abbrev pub invariant-replies : goal.invariant-replies
invariant-replies g l =
    let text = each_from (reply_line l.pool) l.replies in
    Leaves g.K.Sink.written g.K.Sink.faults l.initial.sink l.sink l.initial.out l.out
    (text 0) (text l.reply-index)
