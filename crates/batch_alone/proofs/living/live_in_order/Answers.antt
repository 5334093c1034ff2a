use Rattle.std.proofs.Common.{◌∙◌, Ok, ap, subst, sym}
use Rattle.batch_plans.specs.declared.plan.Plan.{Plan}
use Rattle.request_frames.specs.Live.{live}
use Rattle.context_table.specs.ReplyTo.{IsLiveReply}
use Rattle.batch_serving.specs.Text.{AnswersBy}
use Rattle.batch_serving.specs.Effects.{Writes}
use Rattle.batch_serving.proofs.Writing.{bad_told}
use Rattle.batch_alone.proofs.living.live_in_order.Goals as goal

pub returns-in-Ok : goal.returns-in-Ok
returns-in-Ok g c =
    subst (λ read. Writes g.K.Sink.written g.K.Sink.faults c.args.sink.now c.tell_live_run-outcome.new.sink
    (AnswersBy IsLiveReply read) c.tell_live_run-outcome.result)
    (ap (λ (plan : Plan). Ok plan) c.answered_live_in_order-answered.ensures.plan ∙ sym c.in-Ok.ensures.plan)
    c.tell_live_run-outcome.ensures

pub returns-in-Err : goal.returns-in-Err
returns-in-Err g c =
    bad_told g.K.Sink.written g.K.Sink.faults c.args.sink.now c.tell_fault.new.sink IsLiveReply
    (live c.args.input.now) c.in-Err.fault c.tell_fault.result c.in-Err.ensures.bad c.tell_fault.ensures
