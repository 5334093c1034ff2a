use Rattle.std.proofs.Common.{false}
use Rattle.result_lines.specs.VerdictText.{verdict_text}
use Rattle.batch_serving.specs.Effects.{Says}
use Rattle.batch_serving.specs.Outcomes.{outcome_on}
use Rattle.batch_serving.specs.Text.{TellsVerdict}
use Rattle.batch_serving.proofs.Writing.{due_as, unwritten}
use Rattle.batch_serving.proofs.judging.judge_result.Goals as goal

pub returns-in-Ok : goal.returns-in-Ok
returns-in-Ok g c =
    let told = c.in-Ok.verdict in
    due_as g.K.Sink.written g.K.Sink.faults c.args.sink.now c.tell_verdict.new.sink
    (Says (outcome_on told) (verdict_text told)) (TellsVerdict false c.args.plan.now c.args.result_text.now)
    c.tell_verdict.result
    (λ due text says. record {
      verdict = told;
      judged = record { is = c.in-Ok.ensures.verdict; legal = c.in-Ok.ensures.legal };
      outcome_is = says.0;
      text_is = says.1;
    }) c.tell_verdict.ensures

pub returns-in-Err : goal.returns-in-Err
returns-in-Err g c =
    unwritten g.K.Sink.written g.K.Sink.faults c.args.sink.now
    (TellsVerdict false c.args.plan.now c.args.result_text.now)
