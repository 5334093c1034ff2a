use Rattle.batch_plans.specs.AnswersText.{guess_line}
use Rattle.reply_frames.proofs.Leaves.{Leaves}
use Rattle.reply_frames.proofs.LinesLeft.{each_from}
use Rattle.reply_frames.proofs.lane_replies.put_guesses.Given as goal

abbrev pub invariant-batches : goal.invariant-batches
invariant-batches g l =
    Leaves g.K.Sink.written g.K.Sink.faults l.initial.sink l.sink l.initial.out l.out
    (each_from guess_line l.batches 0) (each_from guess_line l.batches l.batch-index)
