use Rattle.std.proofs.Common.{refl, subst, sym}
use Rattle.batch_plans.specs.ReplyText.{bad_text}
use Rattle.batch_serving.specs.declared.outcomes.Outcome.TheVariants.{BadBatch}
use Rattle.batch_serving.specs.Effects.{Writes}
use Rattle.batch_serving.specs.Text.{IsTold}
use Rattle.batch_serving.proofs.Endings.{OfInput}
use Rattle.batch_serving.proofs.Writing.{printed}
use Rattle.batch_serving.proofs.telling.tell_bad.Goals as goal

pub returns : goal.returns
returns g c =
    let p = c.print_bad.ensures in
    let bad = c.args.bad.now in
    let written = g.K.Sink.written in
    let faults = g.K.Sink.faults in
    let old = c.args.sink.now in
    let new = c.print_bad.new.sink in
    subst (Writes written faults old new (IsTold bad)) (sym c.end_of.ensures)
    (printed written faults old new (IsTold bad) c.print_bad.result (BadBatch bad.line bad.reason)
    (bad_text bad) (record { outcome_is = refl; text_is = refl }) (λ e. subst OfInput e tt) (λ e. subst OfInput e tt)
    p.whole p.no_fault p.cut p.failed)
