use Rattle.std.proofs.Common.{ℕ, List, ap, subst}
use Rattle.capsule_frames.specs.Text.{capsules_text}
use Rattle.batch_serving.specs.declared.outcomes.Outcome.TheVariants.{Done}
use Rattle.batch_serving.specs.Effects.{Says, Writes}
use Rattle.batch_serving.proofs.Writing.{done_told}
use Rattle.batch_serving.proofs.telling.tell_capsules.Goals as goal

pub returns : goal.returns
returns g c =
    let p = c.print_capsules.ensures in
    let keys = c.args.answers.now.keys in
    subst (λ (text : List ℕ). Writes g.K.Sink.written g.K.Sink.faults c.args.sink.now c.print_capsules.new.sink
    (Says Done text) c.end_of.result) (ap (capsules_text keys) c.as_slice.ensures.items)
    (done_told g.K.Sink.written g.K.Sink.faults c.args.sink.now c.print_capsules.new.sink c.print_capsules.result
    (capsules_text keys c.as_slice.result.now) c.end_of.result c.end_of.ensures p.whole p.no_fault p.cut p.failed)
