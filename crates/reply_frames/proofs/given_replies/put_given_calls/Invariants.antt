use Rattle.std.proofs.Common.{length}
use Rattle.std.specs.List.{All}
use Rattle.batch_plans.specs.Replies.{IsInRange}
use Rattle.reply_frames.proofs.Leaves.{Leaves}
use Rattle.reply_frames.proofs.LanesLeft.{calls_from}
use Rattle.reply_frames.proofs.GivenLines.{given}
use Rattle.reply_frames.proofs.given_replies.put_given_calls.Given as goal

abbrev pub invariant-calls : goal.invariant-calls
invariant-calls g l = record {
  left : Leaves g.K.Sink.written g.K.Sink.faults l.initial.sink l.sink l.initial.out l.out
      (calls_from l.pool l.calls 0 (given l.initial.replies) l.initial.batches)
      (calls_from l.pool l.calls l.call-index (given l.replies) l.batches);
  range : All (IsInRange (length l.pool)) l.replies;
}
