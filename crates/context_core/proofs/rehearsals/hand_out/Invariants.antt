use Rattle.std.proofs.Common.{◌≡◌, ◌<◌, ◌≤◌, ℕ, get_or}
use Rattle.batch_plans.specs.declared.replies.LaneAnswers.{LaneAnswers}
use Rattle.context_core.specs.declared.lanes.Lane.{Lane}
use Rattle.context_core.specs.Preparing.{with_answers}
use Rattle.context_core.proofs.rehearsals.hand_out.Given as goal

abbrev pub invariant-lanes : goal.invariant-lanes
invariant-lanes l = record {
  done : (k : ℕ) (lane : Lane) (given : LaneAnswers) → k < l.i
      → get_or l.lanes k lane
      ≡ with_answers (get_or l.initial.lanes k lane) (get_or l.initial.answers k given);
  left : (k : ℕ) (lane : Lane) → l.i ≤ k → get_or l.lanes k lane ≡ get_or l.initial.lanes k lane;
  given : (k : ℕ) (given : LaneAnswers) → l.i ≤ k
      → get_or l.answers k given ≡ get_or l.initial.answers k given;
}
