use Rattle.batch_plans.specs.AnswersText.{answers_text}
use Rattle.request_frames.specs.Batch.{batch}
use Rattle.context_table.specs.ReplyTo.{IsReply}
use Rattle.batch_serving.proofs.Writing.{bad_told, reply_told}
use Rattle.batch_alone.proofs.running.run_in_order.Goals as goal

pub returns-in-Ok : goal.returns-in-Ok
returns-in-Ok g c =
    reply_told g.K.Sink.written g.K.Sink.faults c.args.sink.now c.tell_answered-outcome.new.sink IsReply
    (batch c.args.input.now) c.in-Ok.plan (answers_text c.in-Ok.plan) c.answered_in_order-answered.result
    c.tell_answered-outcome.result c.in-Ok.ensures.plan c.answered_in_order-answered.ensures.text c.tell_answered-outcome.ensures

pub returns-in-Err : goal.returns-in-Err
returns-in-Err g c =
    bad_told g.K.Sink.written g.K.Sink.faults c.args.sink.now c.tell_fault.new.sink IsReply
    (batch c.args.input.now) c.in-Err.fault c.tell_fault.result c.in-Err.ensures.bad c.tell_fault.ensures
