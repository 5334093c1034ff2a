use Rattle.std.proofs.Common.{◌≤◌, ◌∷◌, [], ℕ, List, length, sym, refl, ap, ◌∙◌, subst}
use Rattle.call_places.specs.Spans.{IsInPool, span_bytes}
use Rattle.hpke_context.specs.Contexts.{ContextView, export_limit, exported_by}
use Rattle.context_books.specs.Writing.{PutsReplies}
use Rattle.batch_plans.specs.Lines.{exported_line}
use Rattle.lane_workers.proofs.calls.Service.export.Goals as goal

pub of-exporter_context-requires : goal.of-exporter_context-requires
of-exporter_context-requires g c =
    subst (λ (pool : List ℕ). IsInPool (length pool) c.args.exporter) (sym c.as_slice.ensures.items)
    c.requires.span

pub export-requires-clause-size : goal.export-requires-clause-size
export-requires-clause-size g c =
    subst (λ (x : ContextView). c.args.size ≤ export_limit x) (sym c.context.ensures.context)
    c.requires.size

pub export-requires-clause-room : goal.export-requires-clause-room
export-requires-clause-room g c = c.requires.room

pub export-requires-clause-left : goal.export-requires-clause-left
export-requires-clause-left g c = c.requires.left

pub returns-clause-puts : goal.returns-clause-puts
returns-clause-puts g c =
    let old = c.args.work.now.progress in
    let new = c.export.new.progress in
    let bytes = c.of-exporter_context.result.now in
    subst (λ (bs : List ℕ). PutsReplies old new c.args.size
    (exported_line (exported_by c.args.shared.now.context bs c.args.size) ∷ []))
    (c.of-exporter_context.ensures ∙ ap (λ pool. span_bytes pool c.args.exporter)
    c.as_slice.ensures.items)
    (subst (λ (x : ContextView). PutsReplies old new c.args.size
    (exported_line (exported_by x bytes c.args.size) ∷ [])) c.context.ensures.context c.export.ensures)

pub returns-clause-same : goal.returns-clause-same
returns-clause-same g c = refl
