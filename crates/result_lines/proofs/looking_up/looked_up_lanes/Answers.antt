use Rattle.std.proofs.Common.{◌<◌, ◌+◌, ◌++◌, ℕ, List, length, drop, get_or, ap, subst, ◌∙◌, arith}
use Rattle.std.proofs.lemmas.Grind.{common_steps}
use Rattle.batch_plans.specs.declared.plan.CallLine.{CallLine}
use Rattle.batch_plans.specs.ReplyText.{numbered}
use Rattle.context_books.specs.Live.{looked_up}
use Rattle.result_lines.proofs.Steps.{numbered_goes_on}
use Rattle.result_lines.proofs.looking_up.looked_up_lanes.Goals as goal

pub lanes-preserved : goal.lanes-preserved
lanes-preserved c =
    let served = (λ (lane : ℕ) (calls : List CallLine). numbered (looked_up c.args.plan.now c.args.notes.now lane) 0 calls) in
    let lanes = c.args.plan.now.lanes in
    let i = c.lanes.lane in
    let d : List CallLine = c.calls-item.result in
    let are = c.as_slice-calls-items.ensures.items in
    ap (λ (made : List (List CallLine)). made ++ numbered served (i + 1) (drop (i + 1) lanes)) c.in_ok-push.ensures.items
    ∙ numbered_goes_on served lanes i d c.as_slice.result.now c.in_ok-looked_up_lane.field-0 c.lanes.lanes.items _
    (subst (λ (ls : List (List CallLine)). i < length ls) are c.lanes-test.true)
    (c.as_slice.ensures.items ∙ c.calls-item.is ∙ ap (λ (ls : List (List CallLine)). get_or ls i d) are)
    c.in_ok-looked_up_lane.ensures c.lanes.invariant

pub returns : goal.returns
returns c = grind (arith, common_steps)
