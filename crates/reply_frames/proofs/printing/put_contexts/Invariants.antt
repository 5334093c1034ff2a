use Rattle.batch_plans.specs.Lines.{context_line}
use Rattle.reply_frames.proofs.Leaves.{Leaves}
use Rattle.reply_frames.proofs.LinesLeft.{numbered_from}
use Rattle.reply_frames.proofs.printing.put_contexts.Given as goal

abbrev pub invariant-contexts : goal.invariant-contexts
invariant-contexts g l =
    Leaves g.K.Sink.written g.K.Sink.faults l.initial.sink l.sink l.initial.out l.out
    (numbered_from context_line l.contexts 0) (numbered_from context_line l.contexts l.context)
