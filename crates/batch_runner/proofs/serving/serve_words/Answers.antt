use Rattle.std.proofs.Common.{◌∙◌, subst, sym}
use Rattle.std.specs.Io.KnownBytes.{Appends}
use Rattle.batch_serving.specs.Text.{MayEnd}
use Rattle.batch_serving.proofs.Ends.{bad_line, broken_result, input_of_bad, input_of_broken}
use Rattle.batch_serving.proofs.Endings.{OfInput}
use Rattle.batch_runner.proofs.Serves.{whole_text}
use Rattle.batch_runner.proofs.serving.serve_words.Goals as goal

pub returns-in-Ok-Some-clause-done : goal.returns-in-Ok-Some-clause-done
returns-in-Ok-Some-clause-done g c = λ e.
    let command = c.in-Ok-Some.command in
    let end = whole_text g.S.Source.left g.S.Source.faults g.K.Sink.written g.K.Sink.faults
    c.args.source.now c.obey.new.source c.args.sink.now c.obey.new.sink command c.obey.result
    c.obey.ensures.serves (subst OfInput (sym e) tt) in (
      command,
      sym c.in-Ok-Some.ensures.command ∙ c.in-Ok-Some.field-0-is,
      end.0,
      end.1,
      end.2,
      subst (λ outcome. MayEnd command end.0 outcome end.2) e end.3,
      end.4,
    )

pub returns-in-Ok-Some-clause-bad : goal.returns-in-Ok-Some-clause-bad
returns-in-Ok-Some-clause-bad g c = λ line reason e.
    let command = c.in-Ok-Some.command in
    let end = whole_text g.S.Source.left g.S.Source.faults g.K.Sink.written g.K.Sink.faults
    c.args.source.now c.obey.new.source c.args.sink.now c.obey.new.sink command c.obey.result
    c.obey.ensures.serves (subst OfInput (sym e) tt) in
    let bad = bad_line line reason end.2 command end.0 (subst (λ outcome. MayEnd command end.0 outcome end.2) e end.3) in (
      command,
      sym c.in-Ok-Some.ensures.command ∙ c.in-Ok-Some.field-0-is,
      end.0,
      input_of_bad _ _ end.0 command line reason bad.0 end.1,
      bad.0,
      subst (Appends (g.K.Sink.written c.args.sink.now) (g.K.Sink.written c.obey.new.sink)) bad.1 end.4,
    )

pub returns-in-Ok-Some-clause-broken : goal.returns-in-Ok-Some-clause-broken
returns-in-Ok-Some-clause-broken g c = λ verdict e.
    let command = c.in-Ok-Some.command in
    let end = whole_text g.S.Source.left g.S.Source.faults g.K.Sink.written g.K.Sink.faults
    c.args.source.now c.obey.new.source c.args.sink.now c.obey.new.sink command c.obey.result
    c.obey.ensures.serves (subst OfInput (sym e) tt) in
    let broken = broken_result verdict end.2 command end.0 (subst (λ outcome. MayEnd command end.0 outcome end.2) e end.3) in (
      command,
      sym c.in-Ok-Some.ensures.command ∙ c.in-Ok-Some.field-0-is,
      end.0,
      input_of_broken _ _ end.0 command verdict broken.0 end.1,
      broken.0,
      subst (Appends (g.K.Sink.written c.args.sink.now) (g.K.Sink.written c.obey.new.sink)) broken.1 end.4,
    )
