-- So many blanks were put.
use Rattle.std.specs.Prelude.{◌≡◌, ◌-◌, ◌++◌, replicate}
use Rattle.batch_plans.specs.Room.{blank_batch}
use Rattle.batch_plans.specs.declared.replies.Reply.TheVariants.{Blank}
use Rattle.lane_workers.proofs.live_lane.put_blanks.Given as goal

abbrev pub invariant-replies : goal.invariant-replies
invariant-replies l =
    l.progress ≡ record l.initial.progress {
      replies = l.initial.progress.replies ++ replicate l.counter Blank;
      left = l.initial.progress.left - l.counter;
    }

abbrev pub invariant-guesses : goal.invariant-guesses
invariant-guesses l =
    l.progress ≡ record l.initial.progress {
      batches = l.initial.progress.batches ++ replicate l.counter blank_batch;
      batches_left = l.initial.progress.batches_left - l.counter;
    }
