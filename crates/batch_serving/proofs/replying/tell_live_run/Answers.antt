use Rattle.std.proofs.Common.{Ok, subst}
use Rattle.std.specs.Prelude.{IfOk}
use Rattle.batch_plans.specs.AnswersText.{live_text}
use Rattle.context_table.specs.ReplyTo.{IsLiveReply}
use Rattle.batch_serving.specs.Text.{AnswersBy}
use Rattle.batch_serving.proofs.Writing.{replied, unwritten}
use Rattle.batch_serving.proofs.replying.tell_live_run.Goals as goal

pub returns-in-Ok : goal.returns-in-Ok
returns-in-Ok g c =
    let plan = c.args.plan.now in
    replied g.K.Sink.written g.K.Sink.faults c.args.sink.now c.tell_live-outcome.new.sink IsLiveReply plan
    (live_text plan c.in-Ok.answers) c.tell_live-outcome.result
    (subst (λ r. IfOk r (λ a. IsLiveReply plan (live_text plan a))) c.in-Ok.is c.requires.text)
    c.tell_live-outcome.ensures

pub returns-in-Err : goal.returns-in-Err
returns-in-Err g c =
    unwritten g.K.Sink.written g.K.Sink.faults c.args.sink.now (AnswersBy IsLiveReply (Ok c.args.plan.now))
