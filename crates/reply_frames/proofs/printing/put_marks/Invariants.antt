use Rattle.batch_plans.specs.ReplyText.{mark_line}
use Rattle.reply_frames.proofs.Leaves.{Leaves}
use Rattle.reply_frames.proofs.LinesLeft.{each_from}
use Rattle.reply_frames.proofs.printing.put_marks.Given as goal

abbrev pub invariant-marks : goal.invariant-marks
invariant-marks g l =
    let text = each_from (mark_line l.stamps) l.marks in
    Leaves g.K.Sink.written g.K.Sink.faults l.initial.sink l.sink l.initial.out l.out
    (text 0) (text l.mark-index)
