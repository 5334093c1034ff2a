use Rattle.std.proofs.Common.{ap, refl, subst, sym, ◌∙◌}
use Rattle.result_lines.specs.VerdictText.{verdict_text}
use Rattle.batch_serving.specs.Effects.{Says, Writes, end_of}
use Rattle.batch_serving.specs.Outcomes.{outcome_on}
use Rattle.batch_serving.proofs.Endings.{OfInput, on_verdict}
use Rattle.batch_serving.proofs.Writing.{printed}
use Rattle.batch_serving.proofs.telling.tell_verdict.Goals as goal

pub returns : goal.returns
returns g c =
    let p = c.print_verdict.ensures in
    let verdict = c.args.verdict in
    let ends = on_verdict verdict in
    let written = g.K.Sink.written in
    let faults = g.K.Sink.faults in
    let old = c.args.sink.now in
    let new = c.print_verdict.new.sink in
    let IsDue = Says (outcome_on verdict) (verdict_text verdict) in
    subst (Writes written faults old new IsDue)
    (sym (c.end_of.ensures ∙ ap (end_of c.print_verdict.result) c.outcome_on.ensures))
    (printed written faults old new IsDue c.print_verdict.result (outcome_on verdict)
    (verdict_text verdict) (refl, refl) (λ e. subst OfInput e ends) (λ e. subst OfInput e ends)
    p.whole p.no_fault p.cut p.failed)
