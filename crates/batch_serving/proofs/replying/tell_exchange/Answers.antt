use Rattle.std.proofs.Common.{Ok, refl, subst}
use Rattle.std.specs.Prelude.{IfOk}
use Rattle.capsule_frames.specs.Text.{capsules_text}
use Rattle.capsule_frames.specs.Replies.{AreReplies, IsCapsuleReply}
use Rattle.batch_serving.specs.Text.{AnswersBy}
use Rattle.batch_serving.proofs.Writing.{replied, unwritten}
use Rattle.batch_serving.proofs.replying.tell_exchange.Goals as goal

pub returns-in-Ok : goal.returns-in-Ok
returns-in-Ok g c =
    let plan = c.args.plan.now in
    let answers = c.in-Ok.answers in
    replied g.K.Sink.written g.K.Sink.faults c.args.sink.now c.tell_capsules-outcome.new.sink IsCapsuleReply plan
    (capsules_text answers.keys answers.replies) c.tell_capsules-outcome.result (record {
      keys = answers.keys;
      replies = answers.replies;
      are = subst (λ r. IfOk r (λ a. AreReplies plan a.keys a.replies)) c.in-Ok.is c.requires;
      text_is = refl;
    }) c.tell_capsules-outcome.ensures

pub returns-in-Err : goal.returns-in-Err
returns-in-Err g c =
    unwritten g.K.Sink.written g.K.Sink.faults c.args.sink.now (AnswersBy IsCapsuleReply (Ok c.args.plan.now))
