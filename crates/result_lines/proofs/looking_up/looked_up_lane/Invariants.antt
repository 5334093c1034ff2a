use Rattle.std.proofs.Common.{◌≡◌, ◌++◌, drop}
use Rattle.batch_plans.specs.ReplyText.{numbered}
use Rattle.context_books.specs.Live.{looked_up}
use Rattle.result_lines.proofs.looking_up.looked_up_lane.Given as goal

abbrev pub invariant-calls : goal.invariant-calls
invariant-calls l =
    let call = looked_up l.plan l.notes l.lane in
    l.served.items ++ numbered call l.number (drop l.number l.calls) ≡ numbered call 0 l.calls
