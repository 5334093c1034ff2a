use Rattle.demo_runs.specs.Demo.{report_text}
use Rattle.batch_serving.proofs.Writing.{done_told}
use Rattle.batch_serving.proofs.telling.tell_report.Goals as goal

pub returns : goal.returns
returns g c =
    let p = c.print_report.ensures in
    done_told g.K.Sink.written g.K.Sink.faults c.args.sink.now c.print_report.new.sink c.print_report.result
    (report_text c.args.report.now) c.end_of.result c.end_of.ensures p.whole p.no_fault p.cut p.failed
