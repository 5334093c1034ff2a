use Rattle.reply_frames.specs.LineParts.{marks_behind}
use Rattle.reply_frames.proofs.Leaves.{Leaves}
use Rattle.reply_frames.proofs.LinesLeft.{parts_from}
use Rattle.reply_frames.proofs.printing.put_each_journal.Given as goal

abbrev pub invariant-journals : goal.invariant-journals
invariant-journals g l =
    let text = parts_from (marks_behind l.word l.stamps) l.journals in
    Leaves g.K.Sink.written g.K.Sink.faults l.initial.sink l.sink l.initial.out l.out
    (text 0) (text l.number)
