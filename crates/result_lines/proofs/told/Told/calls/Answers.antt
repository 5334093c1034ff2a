use Rattle.std.proofs.Common.{refl}
use Rattle.std.proofs.lemmas.Result.{err_from_is_err_and}
use Rattle.result_lines.proofs.Taking.{calls_go_on, calls_stop}
use Rattle.result_lines.proofs.told.Told.calls.Goals as goal

pub returns-in_err-call : goal.returns-in_err-call
returns-in_err-call c =
    let p = err_from_is_err_and c.from_residual.result c.from_residual.ensures.1 in
    rw (p.1, p.2) (calls_stop c.args.contexts.now c.in_err-call.field-0.0 c.args.calls.now c.calls.call-index _ _ c.calls.self _ c.calls-test.true refl c.in_err-call.ensures c.calls.invariant)

pub calls-preserved : goal.calls-preserved
calls-preserved c =
    calls_go_on c.args.contexts.now c.args.calls.now c.calls.call-index _ _ c.calls.self c.call.new.self _ c.calls-test.true refl c.in_ok-call.ensures c.calls.invariant
