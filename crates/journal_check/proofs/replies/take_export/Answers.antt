use Rattle.std.proofs.Common.{ℕ, List, ◌∷◌, [], Option, subst, sym, ap, ◌∙◌}
use Rattle.call_places.specs.Spans.{span_bytes}
use Rattle.hpke_context.specs.Contexts.{ContextView, exported_by}
use Rattle.batch_plans.specs.Lines.{exported_line}
use Rattle.context_books.specs.Runs.{export_line}
use Rattle.journal_check.specs.Walks.{Holds}
use Rattle.journal_check.proofs.replies.take_export.Goals as goal

pub returns : goal.returns
returns c =
    let bytes = c.of-exporter.ensures ∙ ap (λ (pool : List ℕ). span_bytes pool c.args.exporter) c.as_slice.ensures.items in
    let line = c.deref.ensures.value ∙ c.in_ok-line.ensures
    ∙ ap (λ (exporter : List ℕ). exported_line (exported_by c.in-Some.context.now exporter c.args.size)) bytes
    ∙ ap (λ (o : Option ContextView). export_line o (span_bytes c.args.checked.now.plan.now.pool c.args.exporter) c.args.size) (sym c.in-Some.ensures) in
    subst (λ (due : List ℕ). Holds c.args.replies.now c.take_line.new.replies (due ∷ []) c.take_line.result) line c.take_line.ensures
