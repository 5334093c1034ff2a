use Rattle.std.proofs.Common.{◌≡◌, ◌<◌, ◌≤◌, ℕ, [], length, get_or}
use Rattle.batch_plans.specs.declared.replies.LaneAnswers.{LaneAnswers}
use Rattle.batch_alone.specs.Own.{with_own_replies}
use Rattle.batch_alone.proofs.own_replies.put_own_replies.Given as goal

abbrev pub invariant-lanes : goal.invariant-lanes
invariant-lanes l = record {
  size : length l.answers ≡ length l.initial.answers;
  done : (k : ℕ) (given : LaneAnswers) → k < l.lane
      → get_or l.answers k given ≡ with_own_replies l.plan l.adds l.notes k
      (get_or l.plan.lanes k []) (get_or l.initial.answers k given);
  left : (k : ℕ) (given : LaneAnswers) → l.lane ≤ k
      → get_or l.answers k given ≡ get_or l.initial.answers k given;
}
