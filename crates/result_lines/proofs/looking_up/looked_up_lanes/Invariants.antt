use Rattle.std.proofs.Common.{◌≡◌, ◌++◌, ℕ, List, drop}
use Rattle.batch_plans.specs.declared.plan.CallLine.{CallLine}
use Rattle.batch_plans.specs.ReplyText.{numbered}
use Rattle.context_books.specs.Live.{looked_up}
use Rattle.result_lines.proofs.looking_up.looked_up_lanes.Given as goal

abbrev pub invariant-lanes : goal.invariant-lanes
invariant-lanes l =
    let calls = (λ (lane : ℕ) (calls : List CallLine). numbered (looked_up l.plan l.notes lane) 0 calls) in
    l.lanes.items ++ numbered calls l.lane (drop l.lane l.plan.lanes) ≡ numbered calls 0 l.plan.lanes
