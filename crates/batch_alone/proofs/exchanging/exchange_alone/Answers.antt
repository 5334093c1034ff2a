use Rattle.std.proofs.Common.{subst, sym}
use Rattle.capsule_frames.specs.Capsules.{capsules}
use Rattle.capsule_frames.specs.Replies.{IsCapsuleReply}
use Rattle.batch_serving.specs.Text.{AnswersBy}
use Rattle.batch_serving.specs.Effects.{Writes}
use Rattle.batch_serving.proofs.Writing.{bad_told}
use Rattle.batch_alone.proofs.exchanging.exchange_alone.Goals as goal

pub returns-in-Ok : goal.returns-in-Ok
returns-in-Ok g c =
    subst (λ read. Writes g.K.Sink.written g.K.Sink.faults c.args.sink.now c.tell_exchange-outcome.new.sink
    (AnswersBy IsCapsuleReply read) c.tell_exchange-outcome.result) (sym c.in-Ok.ensures.plan) c.tell_exchange-outcome.ensures

pub returns-in-Err : goal.returns-in-Err
returns-in-Err g c =
    bad_told g.K.Sink.written g.K.Sink.faults c.args.sink.now c.tell_fault.new.sink IsCapsuleReply
    (capsules c.args.input.now) c.in-Err.fault c.tell_fault.result c.in-Err.ensures.bad c.tell_fault.ensures
