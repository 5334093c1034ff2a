use Rattle.std.proofs.Common.{◌≡◌, ◌++◌, ℕ, List, length, drop}
use Rattle.batch_plans.specs.ReplyText.{all_lines, numbered}
use Rattle.result_lines.specs.Replies.{wrong_reply}
use Rattle.journal_check.specs.Served.{due_lines, lane_due}
use Rattle.journal_check.specs.Walks.{PointsTo, run_in}
use Rattle.journal_check.proofs.replies.take_calls.Given as goal

abbrev pub invariant-calls : goal.invariant-calls
invariant-calls l = record {
  held : (rest : List (List ℕ))
      → wrong_reply l.initial.replies (lane_due l.walk.checked.table (run_in l.walk.checked) l.walk.lane l.calls ++ rest)
      ≡ wrong_reply l.replies (all_lines (numbered (due_lines l.walk.checked.table (run_in l.walk.checked) l.walk.lane) l.number (drop l.number l.calls)) ++ rest);
  points : PointsTo l.walk l.number (drop l.number l.calls) l.cursors;
  cursors : length l.cursors ≡ length l.walk.checked.journals.now;
}
