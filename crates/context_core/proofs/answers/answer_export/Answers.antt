use Rattle.std.proofs.Common.{length, sym, ap, ◌∙◌, subst, arith, [], ◌∷◌}
use Rattle.call_places.specs.Spans.{IsInPool, span_bytes}
use Rattle.hpke_context.specs.Contexts.{exported_by}
use Rattle.batch_plans.specs.Limits.{items_of}
use Rattle.batch_plans.specs.Within.{IsCallWithin}
use Rattle.batch_plans.specs.Room.{served_room}
use Rattle.batch_plans.specs.Lines.{exported_line}
use Rattle.context_books.specs.Writing.{PutsReplies}
use Rattle.context_books.proofs.Within.{line_within}
use Rattle.context_core.specs.declared.lanes.Stage.TheVariants.{Fresh}
use Rattle.context_core.proofs.Answering.{finds_room, exported_on}
use Rattle.context_core.proofs.answers.answer_export.Goals as goal

pub of-exporter_context-requires : goal.of-exporter_context-requires
of-exporter_context-requires c =
    let may = c.requires.may in
    let plan = c.args.plan.now in
    let fits = subst (IsCallWithin (length plan.items) (length plan.pool)) c.in-Export.is
    (line_within plan may.1 may.2 c.args.call.now may.5.within may.5.there may.5.call_is) in
    subst (λ n. IsInPool n c.in-Export.exporter) (sym (ap length c.as_slice.ensures.items))
    fits.1.in_pool

pub export-requires-clause-room : goal.export-requires-clause-room
export-requires-clause-room c =
    let may = c.requires.may in
    let plan = c.args.plan.now in
    let room = finds_room plan c.args.contexts.now may.0 may.1 may.2 c.args.call.now may.4 may.3 Fresh
    c.args.progress.now may.5 c.requires.free in
    omega (arith, room.room, ap (served_room plan.items) c.in-Export.is)

pub export-requires-clause-left : goal.export-requires-clause-left
export-requires-clause-left c =
    let may = c.requires.may in
    let room = finds_room c.args.plan.now c.args.contexts.now may.0 may.1 may.2 c.args.call.now may.4
    may.3 Fresh c.args.progress.now may.5 c.requires.free in
    omega (arith, room.left, ap items_of c.in-Export.is)

pub returns : goal.returns
returns c = λ steps w l number settled may.
    let plan = c.args.plan.now in
    let view = c.in-Some.context.now in
    let exporter = c.in-Export.exporter in
    let size = c.in-Export.size in
    let p = c.args.progress.now in
    let after = c.export.new.progress in
    let text = c.of-exporter_context.ensures
    ∙ ap (λ pool. span_bytes pool exporter) c.as_slice.ensures.items in
    let puts = subst (λ exporter_context. PutsReplies p after size
    (exported_line (exported_by view exporter_context size) ∷ [])) text c.export.ensures in
    exported_on plan c.args.contexts.now w l number c.args.call.now steps settled Fresh p may
    c.in-Export.context exporter size view after c.in-Export.is c.requires.free c.in-Some.ensures puts
