use Rattle.std.proofs.Common.{◌≡◌, ◌<◌, ◌≤◌, ℕ, Some}
use Rattle.std.specs.Prelude.{slice_get}
use Rattle.context_core.specs.Core.{Core}
use Rattle.context_core.specs.declared.lanes.Lane.{Lane}
use Rattle.context_core.specs.Following.{AreDone, LaneIsAnswered}
use Rattle.context_core.proofs.answerers.ByCallerAnswerer.answer_lanes.Given as goal

abbrev pub invariant-lanes : goal.invariant-lanes
invariant-lanes l = record {
  answered : (w : Core) → AreDone l.plan l.contexts w l.initial.lanes → (k : ℕ) (lane : Lane)
      → k < l.number → slice_get l.lanes k ≡ Some lane
      → LaneIsAnswered l.plan l.contexts w k lane.progress;
  left : (k : ℕ) → l.number ≤ k → slice_get l.lanes k ≡ slice_get l.initial.lanes k;
}
