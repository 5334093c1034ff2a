use Rattle.std.proofs.Common.{◌≡◌, ◌≤◌, ◌++◌, drop}
use Rattle.capsule_frames.specs.Orders.{takes_from}
use Rattle.capsule_frames.proofs.takes.all_takes.Given as goal

abbrev pub invariant-lines : goal.invariant-lines
invariant-lines l = record {
  made : l.takes.items ++ takes_from l.plan.plan l.asks l.answers l.asks_before l.answers_before
      (drop l.line-index l.lines)
      ≡ takes_from l.plan.plan l.asks l.answers 0 0 l.lines;
  ask_count : l.asks_before ≤ l.line-index;
  answer_count : l.answers_before ≤ l.line-index;
}
