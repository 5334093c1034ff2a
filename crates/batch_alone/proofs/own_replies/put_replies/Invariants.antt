use Rattle.std.proofs.Common.{◌≡◌, ◌≤◌, ◌++◌, ℕ, List, false, length, take, drop}
use Rattle.std.specs.Prelude.{slice_index_or}
use Rattle.batch_plans.specs.declared.plan.CallLine.{CallLine}
use Rattle.batch_plans.specs.declared.replies.Batch.{Batch}
use Rattle.batch_plans.specs.AnswersText.{UsesUp}
use Rattle.batch_alone.specs.Own.{own_reply, with_own}
use Rattle.batch_alone.proofs.own_replies.put_replies.Given as goal

abbrev pub invariant-calls : goal.invariant-calls
invariant-calls l =
    let own = λ (number : ℕ) (call : CallLine).
    own_reply l.plan l.adds (slice_index_or l.live number false) call in
    record {
      size : length l.replies ≡ length l.initial.replies;
      low : l.at ≤ length l.replies;
      used : (guesses : List Batch) × UsesUp (drop l.number l.calls) (drop l.at l.replies) guesses;
      put : take l.at l.replies ++ with_own own l.number (drop l.number l.calls) (drop l.at l.replies)
          ≡ with_own own 0 l.calls l.initial.replies;
    }
