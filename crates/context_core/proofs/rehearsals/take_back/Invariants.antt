use Rattle.std.proofs.Common.{◌≡◌, ◌<◌, ◌≤◌, ℕ, get_or}
use Rattle.batch_plans.specs.declared.replies.LaneAnswers.{LaneAnswers}
use Rattle.batch_plans.specs.Replies.{IsPrintable}
use Rattle.context_core.specs.declared.lanes.Lane.{Lane}
use Rattle.context_core.specs.Preparing.{answers_of}
use Rattle.context_core.proofs.rehearsals.take_back.Given as goal

abbrev pub invariant-lanes : goal.invariant-lanes
invariant-lanes l = record {
  done : (k : ℕ) (lane : Lane) (given : LaneAnswers) → k < l.i
      → get_or l.answers k given ≡ answers_of (get_or l.initial.lanes k lane).progress;
  printable : (k : ℕ) (given : LaneAnswers) → k < l.i → IsPrintable (get_or l.answers k given);
  left : (k : ℕ) (lane : Lane) → l.i ≤ k → get_or l.lanes k lane ≡ get_or l.initial.lanes k lane;
}
