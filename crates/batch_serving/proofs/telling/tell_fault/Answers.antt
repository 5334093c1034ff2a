use Rattle.std.proofs.Common.{subst, sym}
use Rattle.batch_serving.specs.Effects.{SaysFault, Writes}
use Rattle.batch_serving.proofs.Writing.{unwritten}
use Rattle.batch_serving.proofs.telling.tell_fault.Goals as goal

pub returns-in-Bad : goal.returns-in-Bad
returns-in-Bad g c =
    subst (λ fault. Writes g.K.Sink.written g.K.Sink.faults c.args.sink.now c.tell_bad.new.sink
    (SaysFault fault) c.tell_bad.result) (sym c.in-Bad.is) c.tell_bad.ensures

pub returns-in-OutOfMemory : goal.returns-in-OutOfMemory
returns-in-OutOfMemory g c =
    unwritten g.K.Sink.written g.K.Sink.faults c.args.sink.now (SaysFault c.args.fault.now)
