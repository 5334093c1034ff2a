use Rattle.reply_frames.proofs.Leaves.{Leaves}
use Rattle.reply_frames.proofs.LanesLeft.{lanes_from}
use Rattle.reply_frames.proofs.printing.put_lanes.Given as goal

abbrev pub invariant-lanes : goal.invariant-lanes
invariant-lanes g l =
    Leaves g.K.Sink.written g.K.Sink.faults l.initial.sink l.sink l.initial.out l.out
    (lanes_from l.given l.lanes l.answers 0) (lanes_from l.given l.lanes l.answers l.number)
