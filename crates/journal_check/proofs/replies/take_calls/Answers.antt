use Rattle.std.proofs.Common.{◌≡◌, ◌+◌, Err, Ok, drop, get_or, ◌∙◌, arith}
use Rattle.std.proofs.lemmas.Result.{err_from_is_err_and}
use Rattle.batch_plans.specs.declared.plan.CallLine.{CallLine}
use Rattle.journal_check.proofs.Walks.{drop_next}
use Rattle.journal_check.specs.Served.{due_lines, lane_due, live_at}
use Rattle.journal_check.specs.Walks.{run_in}
use Rattle.journal_check.proofs.Lanes.{go_on_lines, halt_lines, end_lines, as_live}
use Rattle.journal_check.proofs.ServedCalls.{no_call, points_at}
use Rattle.journal_check.proofs.replies.take_calls.Goals as goal

pub returns-in_err-take_call : goal.returns-in_err-take_call
returns-in_err-take_call c =
    let walk = c.args.walk.now in
    let table = walk.checked.table in
    let run = run_in walk.checked in
    let i = c.calls.number in
    let calls = c.args.calls.now in
    let call : CallLine = get_or calls i no_call in
    let e = err_from_is_err_and c.from_residual.result c.from_residual.ensures.1 in
    let at = drop_next calls i no_call c.calls-test.true in
    let live : c.is_live-live.result ≡ live_at table walk.lane i = c.is_live-live.ensures ∙ c.requires.lives i c.calls-test.true in
    let points = points_at walk.checked.contexts.now walk.checked.journals.now walk.lane i _ _ c.calls.cursors at c.calls.invariant.points in
    rw (e.1, e.2)
    (halt_lines (due_lines table run walk.lane) calls i call at c.args.replies.now c.calls.replies (lane_due table run walk.lane calls)
    c.calls.invariant.held c.in_err-take_call.field-0.0 c.take_call.new.replies c.take_call.new.replies
    (as_live table run walk.lane i call c.is_live-live.result live c.calls.replies c.take_call.new.replies (Err c.in_err-take_call.field-0.0)
    (c.in_err-take_call.ensures.lines i (drop (i + 1) calls) points)))

pub calls-preserved : goal.calls-preserved
calls-preserved c =
    let walk = c.args.walk.now in
    let table = walk.checked.table in
    let run = run_in walk.checked in
    let i = c.calls.number in
    let calls = c.args.calls.now in
    let call : CallLine = get_or calls i no_call in
    let at = drop_next calls i no_call c.calls-test.true in
    let live : c.is_live-live.result ≡ live_at table walk.lane i = c.is_live-live.ensures ∙ c.requires.lives i c.calls-test.true in
    let points = points_at walk.checked.contexts.now walk.checked.journals.now walk.lane i _ _ c.calls.cursors at c.calls.invariant.points in
    record {
      held = go_on_lines (due_lines table run walk.lane) calls i call at c.args.replies.now c.calls.replies (lane_due table run walk.lane calls)
          c.calls.invariant.held c.take_call.new.replies tt
          (as_live table run walk.lane i call c.is_live-live.result live c.calls.replies c.take_call.new.replies (Ok tt)
          (c.in_ok-take_call.ensures.lines i (drop (i + 1) calls) points));
      points = c.in_ok-take_call.ensures.points i (drop (i + 1) calls) points;
      cursors = omega (arith, c.requires.cursors, c.calls.auto, c.take_call.auto);
    }

pub returns : goal.returns
returns c =
    let walk = c.args.walk.now in
    let table = walk.checked.table in
    let run = run_in walk.checked in
    end_lines (due_lines table run walk.lane) c.args.calls.now c.calls.number c.args.replies.now c.calls.replies (lane_due table run walk.lane c.args.calls.now)
    c.calls-test.false c.calls.invariant.held
