use Rattle.std.proofs.Common.{◌≡◌}
use Rattle.context_core.specs.Core.{Core}
use Rattle.context_books.specs.Answered.{KeepsUp}
use Rattle.context_core.specs.Following.{run_of, AllDone}
use Rattle.context_core.proofs.answers.answer_lane.Given as goal

abbrev pub invariant-calls : goal.invariant-calls
invariant-calls l = record {
  keeps : (w : Core) → AllDone l.plan l.contexts w l.number l.initial.lane
      → KeepsUp (run_of l.plan l.contexts w) l.number l.k l.lane.progress;
  steps : l.lane.steps.items ≡ l.initial.lane.steps.items;
  done : l.lane.done.items ≡ l.initial.lane.done.items;
}
