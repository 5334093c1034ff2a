use Rattle.std.proofs.Common.{[], ◌∷◌, ◌++◌, map, take, Option, ap, sym, ◌∙◌, arith}
use Rattle.std.proofs.lemmas.Result.{IfOk-from_err}
use Rattle.std.proofs.lemmas.Grind.{common_steps}
use Rattle.std.proofs.lemmas.List.{map_more}
use Rattle.hpke_context.specs.Contexts.{ContextView}
use Rattle.context_books.specs.ContextLines.{limit_of}
use Rattle.context_table.proofs.setups.export_limits.Goals as goal

pub contexts-preserved : goal.contexts-preserved
contexts-preserved c =
    let standing = c.args.standing.now in
    let i = c.contexts.context-index in
    let so_far = map limit_of (take i standing) in
    rw (c.in_ok-push.ensures.items, c.contexts.invariant, c.export_limit.ensures)
    (ap (λ (context : Option ContextView). so_far ++ limit_of context ∷ []) c.context-item.is
    ∙ sym (map_more limit_of standing i c.context-item.result c.contexts-test.true))

pub returns-in_err-push : goal.returns-in_err-push
returns-in_err-push c = IfOk-from_err c.from_residual.result _ c.from_residual.ensures.0

pub returns : goal.returns
returns c = grind (arith, common_steps)
