use Rattle.std.proofs.Common.{◌≡◌, ◌⊎◌, ◌∙◌, ℕ, List, subst, sym}
use Rattle.batch_serving.specs.declared.outcomes.Outcome.TheVariants.{Done, OutOfMemory}
use Rattle.batch_serving.specs.Effects.{Writes}
use Rattle.batch_serving.specs.Text.{MayEnd}
use Rattle.batch_alone.proofs.Told.{bad_told, broken_told, of_no_input, told, told_whole}
use Rattle.batch_alone.proofs.alone.serve_alone.Goals as goal

pub returns-in-Ok-Some-clause-usage : goal.returns-in-Ok-Some-clause-usage
returns-in-Ok-Some-clause-usage g c = λ want.
    let command = c.in-Ok-Some.command in
    let same = sym c.in-Ok-Some.ensures.command ∙ c.in-Ok-Some.field-0-is in
    ((λ e. absurd ((of_no_input g.K.Sink.written g.K.Sink.faults c.args.sink.now c.obey.new.sink command c.args.input.now c.obey.result c.obey.ensures).0 e)), (λ none. let bad = sym none ∙ same in cc))

pub returns-in-Ok-Some-clause-done : goal.returns-in-Ok-Some-clause-done
returns-in-Ok-Some-clause-done g c = λ e.
    let command = c.in-Ok-Some.command in
    let same = sym c.in-Ok-Some.ensures.command ∙ c.in-Ok-Some.field-0-is in
    let end = told g.K.Sink.written g.K.Sink.faults c.args.sink.now c.obey.new.sink command c.args.input.now Done tt (subst (Writes g.K.Sink.written g.K.Sink.faults c.args.sink.now c.obey.new.sink (MayEnd c.in-Ok-Some.command c.args.input.now)) e c.obey.ensures) in
    (command, same, end.0, end.1, end.2)

pub returns-in-Ok-Some-clause-bad : goal.returns-in-Ok-Some-clause-bad
returns-in-Ok-Some-clause-bad g c = λ line reason e.
    let command = c.in-Ok-Some.command in
    let same = sym c.in-Ok-Some.ensures.command ∙ c.in-Ok-Some.field-0-is in
    let bad = bad_told g.K.Sink.written g.K.Sink.faults c.args.sink.now c.obey.new.sink command c.args.input.now line reason (subst (Writes g.K.Sink.written g.K.Sink.faults c.args.sink.now c.obey.new.sink (MayEnd c.in-Ok-Some.command c.args.input.now)) e c.obey.ensures) in
    (command, same, bad.0, bad.1)

pub returns-in-Ok-Some-clause-broken : goal.returns-in-Ok-Some-clause-broken
returns-in-Ok-Some-clause-broken g c = λ verdict e.
    let command = c.in-Ok-Some.command in
    let same = sym c.in-Ok-Some.ensures.command ∙ c.in-Ok-Some.field-0-is in
    let broken = broken_told g.K.Sink.written g.K.Sink.faults c.args.sink.now c.obey.new.sink command c.args.input.now verdict (subst (Writes g.K.Sink.written g.K.Sink.faults c.args.sink.now c.obey.new.sink (MayEnd c.in-Ok-Some.command c.args.input.now)) e c.obey.ensures) in
    (command, same, broken.0, broken.1)

pub returns-in-Ok-Some-clause-cut : goal.returns-in-Ok-Some-clause-cut
returns-in-Ok-Some-clause-cut g c = λ e.
    let command = c.in-Ok-Some.command in
    let same = sym c.in-Ok-Some.ensures.command ∙ c.in-Ok-Some.field-0-is in
    let end = c.obey.ensures.cut e in
    (command, same, end.0, end.1, end.2, end.3)

pub returns-in-Ok-Some-clause-no_read_fault : goal.returns-in-Ok-Some-clause-no_read_fault
returns-in-Ok-Some-clause-no_read_fault g c = λ e.
    let command = c.in-Ok-Some.command in
    absurd ((of_no_input g.K.Sink.written g.K.Sink.faults c.args.sink.now c.obey.new.sink command c.args.input.now c.obey.result c.obey.ensures).1 e)

pub returns-in-Ok-Some-clause-complete : goal.returns-in-Ok-Some-clause-complete
returns-in-Ok-Some-clause-complete g c = λ asked is none.
    let command = c.in-Ok-Some.command in
    let same = sym c.in-Ok-Some.ensures.command ∙ c.in-Ok-Some.field-0-is in
    let one : asked ≡ command = (let both = sym is ∙ same in cc) in
    subst (λ any. ((text : List ℕ) × MayEnd any c.args.input.now c.obey.result text) ⊎ (c.obey.result ≡ OutOfMemory)) (sym one)
    (told_whole g.K.Sink.written g.K.Sink.faults c.args.sink.now c.obey.new.sink command c.args.input.now c.obey.result c.obey.ensures none)
