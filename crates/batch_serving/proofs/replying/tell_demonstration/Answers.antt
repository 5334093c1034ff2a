use Rattle.std.proofs.Common.{subst}
use Rattle.std.specs.Prelude.{IfOk}
use Rattle.demo_runs.specs.Demo.{IsDemo, report_text}
use Rattle.batch_serving.specs.declared.outcomes.Outcome.TheVariants.{Done}
use Rattle.batch_serving.specs.Effects.{Says}
use Rattle.batch_serving.specs.Text.{Demonstrates}
use Rattle.batch_serving.proofs.Writing.{due_as, unwritten}
use Rattle.batch_serving.proofs.replying.tell_demonstration.Goals as goal

pub returns-in-Ok : goal.returns-in-Ok
returns-in-Ok g c = λ seed messages is.
    let report = c.in-Ok.report in
    due_as g.K.Sink.written g.K.Sink.faults c.args.sink.now c.tell_report.new.sink
    (Says Done (report_text report)) (Demonstrates seed messages) c.tell_report.result
    (λ due text says. record { report = report; is = subst (λ demo. IfOk demo (IsDemo seed messages)) c.in-Ok.is is; outcome_is = says.0; text_is = says.1 })
    c.tell_report.ensures

pub returns-in-Err : goal.returns-in-Err
returns-in-Err g c = λ seed messages is.
    unwritten g.K.Sink.written g.K.Sink.faults c.args.sink.now (Demonstrates seed messages)
