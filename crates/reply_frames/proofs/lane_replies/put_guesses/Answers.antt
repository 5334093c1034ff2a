use Rattle.std.proofs.Common.{refl}
use Rattle.batch_plans.specs.Room.{blank_batch}
use Rattle.batch_plans.specs.AnswersText.{guess_line}
use Rattle.reply_frames.proofs.Leaves.{Leaves-whole, Leaves-next, Leaves-nothing}
use Rattle.reply_frames.proofs.LinesLeft.{each-next, each-end}
use Rattle.reply_frames.proofs.lane_replies.put_guesses.Goals as goal

pub batches-init : goal.batches-init
batches-init g c = Leaves-whole

pub batches-preserved : goal.batches-preserved
batches-preserved g c =
    let next = each-next guess_line c.args.batches.now c.batches.batch-index blank_batch _ in
    Leaves-next (next c.batches-test.true refl) c.batches.invariant c.put_batch.ensures

pub returns : goal.returns
returns g c =
    let end = each-end guess_line c.args.batches.now c.batches.batch-index c.batches-test.false in
    Leaves-nothing end c.batches.invariant
