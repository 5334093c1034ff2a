use Rattle.std.proofs.Common.{◌≡◌, ◌≤◌, map, drop, length}
use Rattle.context_books.specs.Asks.{ask_of}
use Rattle.result_lines.specs.Guesses.{wrong_guess}
use Rattle.journal_check.specs.Passing.{AllReach}
use Rattle.journal_check.specs.Walks.{PointsTo, run_in}
use Rattle.journal_check.proofs.guesses.judge_calls.Given as goal

abbrev pub invariant-calls : goal.invariant-calls
invariant-calls l = record {
  held : wrong_guess (run_in l.walk.checked) l.walk.lane 0 (map (ask_of l.walk.checked.plan.now l.walk.checked.contexts.now) l.calls) l.guesses
      ≡ wrong_guess (run_in l.walk.checked) l.walk.lane l.call-index (map (ask_of l.walk.checked.plan.now l.walk.checked.contexts.now) (drop l.call-index l.calls)) (drop l.next l.guesses);
  points : PointsTo l.walk l.call-index (drop l.call-index l.calls) l.cursors;
  reach : AllReach l.walk.lane l.walk.checked.journals.now l.cursors;
  cursors : length l.cursors ≡ length l.walk.checked.journals.now;
  few : l.next ≤ length l.guesses;
}
