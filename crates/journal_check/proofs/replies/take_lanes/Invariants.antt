use Rattle.std.proofs.Common.{◌≡◌, ◌++◌, ℕ, List, drop}
use Rattle.batch_plans.specs.ReplyText.{all_lines, numbered}
use Rattle.result_lines.specs.Replies.{wrong_reply}
use Rattle.journal_check.specs.Served.{lane_due, all_due}
use Rattle.journal_check.specs.Walks.{run_in}
use Rattle.journal_check.proofs.replies.take_lanes.Given as goal

abbrev pub invariant-lanes : goal.invariant-lanes
invariant-lanes l =
    (rest : List (List ℕ)) → wrong_reply l.initial.replies (all_due l.checked.table (run_in l.checked) ++ rest)
    ≡ wrong_reply l.replies (all_lines (numbered (lane_due l.checked.table (run_in l.checked)) l.lane (drop l.lane l.checked.plan.now.lanes)) ++ rest)
