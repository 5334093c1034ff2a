use Rattle.batch_plans.specs.LiveText.{note_line}
use Rattle.reply_frames.proofs.Leaves.{Leaves}
use Rattle.reply_frames.proofs.LinesLeft.{each_from}
use Rattle.reply_frames.proofs.live_printing.put_notes.Given as goal

abbrev pub invariant-notes : goal.invariant-notes
invariant-notes g l =
    let text = each_from note_line l.notes in
    Leaves g.K.Sink.written g.K.Sink.faults l.initial.sink l.sink l.initial.out l.out
    (text 0) (text l.note-index)
