use Rattle.std.proofs.Common.{◌<◌, ◌+◌, ◌++◌, ◌||◌, Bool, false, List, length, drop, get_or, refl, ap, ◌∙◌, arith}
use Rattle.std.proofs.lemmas.Grind.{common_steps}
use Rattle.std.specs.Prelude.{nat_lt, if◌then◌else◌}
use Rattle.std.proofs.lemmas.List.{get_or_default}
use Rattle.batch_plans.specs.declared.plan.CallLine.{CallLine}
use Rattle.batch_plans.specs.Calls.{context_of}
use Rattle.batch_plans.specs.Limits.{first_name}
use Rattle.batch_plans.specs.Names.{at_position}
use Rattle.batch_plans.specs.ReplyText.{numbered}
use Rattle.context_books.specs.Live.{looked_up}
use Rattle.result_lines.proofs.Steps.{numbered_goes_on}
use Rattle.result_lines.proofs.looking_up.looked_up_lane.Goals as goal

pub calls-preserved : goal.calls-preserved
calls-preserved c =
    let plan = c.args.plan.now in
    let served = looked_up plan c.args.notes.now c.args.lane in
    let calls = c.args.calls.now in
    let i = c.calls.number in
    let lt : i < length calls = c.calls-test.true in
    let low : i < length c.in_ok-live.live.items = omega (arith, lt, c.in_ok-live.ensures.size) in
    let live = c.index.ensures ∙ get_or_default c.in_ok-live.live.items i _ false low ∙ c.in_ok-live.ensures.each i lt in
    let call : CallLine = get_or calls i _ in
    ap (λ (made : List CallLine). made ++ numbered served (i + 1) (drop (i + 1) calls)) c.in_ok-push.ensures.items
    ∙ numbered_goes_on served calls i _ _ c.looked_up.result c.calls.served.items _ lt refl
    (c.looked_up.ensures ∙ ap (λ (b : Bool). if nat_lt (context_of call) first_name || b then at_position plan call else call) live) c.calls.invariant

pub returns : goal.returns
returns c = grind (arith, common_steps)
