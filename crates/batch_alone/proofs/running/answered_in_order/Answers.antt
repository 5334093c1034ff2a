use Rattle.std.proofs.Common.{[]}
use Rattle.std.proofs.lemmas.Result.{IfOk-weaker}
use Rattle.batch_plans.specs.AnswersText.{answers_text}
use Rattle.context_table.specs.ReplyTo.{IsReply}
use Rattle.batch_serving.specs.Text.{IsRehearsal}
use Rattle.batch_serving.proofs.Replied.{rehearsal_replies}
use Rattle.batch_alone.proofs.running.answered_in_order.Goals as goal

pub returns-clause-text : goal.returns-clause-text
returns-clause-text g c =
    let plan = c.args.plan.now in
    IfOk-weaker c.rehearsed_by.result (λ a. IsRehearsal [] plan (answers_text plan a))
    (λ a. IsReply plan (answers_text plan a))
    (λ a is. rehearsal_replies plan [] (answers_text plan a) c.requires.within is)
    c.rehearsed_by.ensures.text
