use Rattle.batch_plans.specs.Lines.{key_line}
use Rattle.reply_frames.proofs.Leaves.{Leaves}
use Rattle.reply_frames.proofs.LinesLeft.{numbered_from}
use Rattle.reply_frames.proofs.replies.put_keys.Given as goal

abbrev pub invariant-keys : goal.invariant-keys
invariant-keys g l =
    Leaves g.K.Sink.written g.K.Sink.faults l.initial.sink l.sink l.initial.out l.out
    (numbered_from key_line l.keys 0) (numbered_from key_line l.keys l.key)
