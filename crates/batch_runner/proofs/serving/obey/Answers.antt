use Rattle.std.proofs.Common.{subst, sym}
use Rattle.batch_serving.specs.Effects.{Serves, Writes}
use Rattle.batch_serving.specs.Text.{MayEnd}
use Rattle.batch_runner.proofs.Serves.{reads_input, serves_demo, serves_input}
use Rattle.batch_runner.proofs.serving.obey.Goals as goal

pub returns-in-Demo-clause-serves : goal.returns-in-Demo-clause-serves
returns-in-Demo-clause-serves g c =
    let source = c.args.source.now in
    let sink = c.args.sink.now in
    let new = c.demonstrate.new.sink in
    subst (λ one. Serves g.S.Source.left g.S.Source.faults g.K.Sink.written g.K.Sink.faults source source
    sink new one c.demonstrate.result) (sym c.in-Demo.is)
    (serves_demo g.S.Source.left g.S.Source.faults g.K.Sink.written g.K.Sink.faults source sink new
    c.in-Demo.seed c.in-Demo.messages c.in-Demo.lanes c.demonstrate.result c.demonstrate.ensures)

pub returns-in-Ok : goal.returns-in-Ok
returns-in-Ok g c =
    let command = c.args.command.now in
    let written = g.K.Sink.written in
    let faults = g.K.Sink.faults in
    let old = c.args.sink.now in
    let new = c.answer.new.sink in
    record {
      serves = serves_input written faults old new command c.in-Ok.input.items c.answer.result
          (subst (λ input. Writes written faults old new (MayEnd command input) c.answer.result)
          c.deref.ensures.value c.answer.ensures) g.S.Source.left g.S.Source.faults c.args.source.now
          c.read_input.new.source (reads_input command c.in_default.not-Demo) c.in-Ok.ensures.input
          (c.in-Ok.ensures.no_fault (λ e. cc));
      unread = λ seed messages lanes is. absurd (c.in_default.not-Demo seed messages lanes is);
    }
