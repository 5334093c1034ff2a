use Rattle.std.proofs.Common.{List, ℕ, sym, ap, ◌∙◌, subst, arith}
use Rattle.std.proofs.lemmas.Grind.{common_steps}
use Rattle.std.proofs.lemmas.Result.{err_from_is_err_and}
use Rattle.batch_plans.specs.Lines.{key_line}
use Rattle.result_lines.specs.Readings.{Stops}
use Rattle.result_lines.specs.Told.{with_line}
use Rattle.result_lines.proofs.Taking.{lines_go_on, lines_stop}
use Rattle.result_lines.proofs.reading.read_keys.Goals as goal

pub returns-in_err-expect : goal.returns-in_err-expect
returns-in_err-expect c =
    let p = err_from_is_err_and c.from_residual-in_err-expect.result c.from_residual-in_err-expect.ensures.1 in
    let line = c.deref.ensures.value ∙ c.in_ok-line.ensures in
    let x = c.index-keys-number.result in
    rw (p.1, p.2) (lines_stop key_line c.in_err-expect.field-0.0 c.args.keys.now c.keys.number x x c.keys.told _ c.keys-test.true c.index-keys-number.is
    (subst (λ (due : List ℕ). Stops c.in_err-expect.field-0.0 (with_line due c.keys.told)) line c.in_err-expect.ensures) c.keys.invariant)

pub keys-preserved : goal.keys-preserved
keys-preserved c =
    let line = c.deref.ensures.value ∙ c.in_ok-line.ensures in
    let x = c.index-keys-number.result in
    lines_go_on key_line c.args.keys.now c.keys.number x x c.keys.told c.expect.new.self _ c.keys-test.true c.index-keys-number.is
    (ap (λ (due : List ℕ). with_line due c.keys.told) (sym line) ∙ c.in_ok-expect.ensures) c.keys.invariant

pub returns : goal.returns
returns c = grind (arith, common_steps)
