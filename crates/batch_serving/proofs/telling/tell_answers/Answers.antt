use Rattle.batch_plans.specs.AnswersText.{answers_text}
use Rattle.batch_serving.proofs.Writing.{done_told}
use Rattle.batch_serving.proofs.telling.tell_answers.Goals as goal

pub returns : goal.returns
returns g c =
    let p = c.print_answers.ensures in
    done_told g.K.Sink.written g.K.Sink.faults c.args.sink.now c.print_answers.new.sink c.print_answers.result
    (answers_text c.args.plan.now c.args.answers.now) c.end_of.result c.end_of.ensures p.whole p.no_fault p.cut p.failed
