use Rattle.std.proofs.Common.{refl, ap, ◌∙◌, arith}
use Rattle.call_places.specs.declared.spans.Span.{Span}
use Rattle.hpke_context.specs.Contexts.{exported_by}
use Rattle.batch_plans.specs.declared.replies.Reply.TheVariants.{Exported}
use Rattle.batch_plans.specs.Lines.{exported_line}
use Rattle.context_books.proofs.Writing.{writes}
use Rattle.context_books.proofs.exporting.exported.Goals as goal

pub returns : goal.returns
returns c =
    let span = c.take_room-span.result in
    let start = ap (λ (s : Span). s.start) c.take_room-span.ensures.span in
    let size = ap (λ (s : Span). s.len) c.take_room-span.ensures.span in
    let bytes = exported_by c.args.context.now c.args.exporter_context.now in
    writes c.args.progress.now c.take_room-span.new.self c.args.size span.start
    c.pool.result.now c.export_at.new.pool (Exported span) (exported_line (bytes c.args.size))
    c.take_room-span.ensures.taken c.pool.ensures.value c.export_at.auto.pool start
    c.export_at.ensures.kept
    (ap exported_line (c.export_at.ensures.exported ∙ ap bytes size))
    refl (omega arith)
