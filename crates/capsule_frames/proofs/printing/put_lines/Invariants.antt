use Rattle.reply_frames.proofs.Leaves.{Leaves}
use Rattle.reply_frames.proofs.LinesLeft.{each_from}
use Rattle.capsule_frames.specs.Text.{capsule_line}
use Rattle.capsule_frames.proofs.printing.put_lines.Given as goal

abbrev pub invariant-replies : goal.invariant-replies
invariant-replies g l =
    let text = each_from capsule_line l.replies in
    Leaves g.K.Sink.written g.K.Sink.faults l.initial.sink l.sink l.initial.out l.out
    (text 0) (text l.reply-index)
