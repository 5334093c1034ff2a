use Rattle.std.proofs.Common.{List, ℕ, sym, ap, ◌∙◌, subst, arith}
use Rattle.std.proofs.lemmas.Grind.{common_steps}
use Rattle.std.proofs.lemmas.Result.{err_from_is_err_and}
use Rattle.batch_plans.specs.Lines.{context_line}
use Rattle.result_lines.specs.Readings.{Stops}
use Rattle.result_lines.specs.Told.{with_line}
use Rattle.result_lines.proofs.Taking.{lines_go_on, lines_stop}
use Rattle.result_lines.proofs.reading.read_contexts.Goals as goal

pub returns-in_err-expect : goal.returns-in_err-expect
returns-in_err-expect c =
    let p = err_from_is_err_and c.from_residual-in_err-expect.result c.from_residual-in_err-expect.ensures.1 in
    let line = c.deref.ensures.value ∙ c.in_ok-line.ensures in
    let x = c.index-replies-number.result in
    rw (p.1, p.2) (lines_stop context_line c.in_err-expect.field-0.0 c.args.replies.now c.contexts.number x x c.contexts.told _ c.contexts-test.true c.index-replies-number.is
    (subst (λ (due : List ℕ). Stops c.in_err-expect.field-0.0 (with_line due c.contexts.told)) line c.in_err-expect.ensures) c.contexts.invariant)

pub contexts-preserved : goal.contexts-preserved
contexts-preserved c =
    let line = c.deref.ensures.value ∙ c.in_ok-line.ensures in
    let x = c.index-replies-number.result in
    lines_go_on context_line c.args.replies.now c.contexts.number x x c.contexts.told c.expect.new.self _ c.contexts-test.true c.index-replies-number.is
    (ap (λ (due : List ℕ). with_line due c.contexts.told) (sym line) ∙ c.in_ok-expect.ensures) c.contexts.invariant

pub returns : goal.returns
returns c = grind (arith, common_steps)
