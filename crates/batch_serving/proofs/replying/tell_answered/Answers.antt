use Rattle.std.proofs.Common.{subst, sym}
use Rattle.batch_plans.specs.AnswersText.{answers_text}
use Rattle.batch_serving.specs.Effects.{SaysReply, Writes}
use Rattle.batch_serving.proofs.Writing.{unwritten}
use Rattle.batch_serving.proofs.replying.tell_answered.Goals as goal

pub returns-in-Ok : goal.returns-in-Ok
returns-in-Ok g c =
    subst (λ answered. Writes g.K.Sink.written g.K.Sink.faults c.args.sink.now c.tell_answers-outcome.new.sink
    (SaysReply (answers_text c.args.plan.now) answered) c.tell_answers-outcome.result) (sym c.in-Ok.is) c.tell_answers-outcome.ensures

pub returns-in-Err : goal.returns-in-Err
returns-in-Err g c =
    unwritten g.K.Sink.written g.K.Sink.faults c.args.sink.now (SaysReply (answers_text c.args.plan.now) c.args.answered)
