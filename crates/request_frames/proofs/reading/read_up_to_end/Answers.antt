use Rattle.std.proofs.Common.{arith}
use Rattle.request_frames.specs.Batch.{batch_lines, front_batch}
use Rattle.request_frames.proofs.SpelledTexts.{front_plan_read, behind_front, front_ends, front_within, front_plain}
use Rattle.request_frames.proofs.reading.read_up_to_end.Goals as goal

pub overflow_sub-end : goal.overflow_sub-end
overflow_sub-end c = behind_front c.args.bytes.now c.in_ok-front.front.rest.now _
    (front_plan_read c.args.bytes.now _ c.in_ok-front.ensures.read)

pub returns-clause-read : goal.returns-clause-read
unfolding front_batch
returns-clause-read c = rw c.in_ok-finish.ensures.plan (front_ends batch_lines c.args.bytes.now c.in_ok-front.front.rest.now _ _ c.in_ok-front.ensures.read)

pub returns-clause-limits : goal.returns-clause-limits
returns-clause-limits c =
    rw c.in_ok-finish.ensures.plan (front_within c.args.bytes.now _ c.in_ok-front.ensures.read (omega (arith, c.in_ok-front.ensures.kept.pool, c.in_ok-front.front.draft.pool.ok)))

pub returns-clause-plain : goal.returns-clause-plain
returns-clause-plain c = rw c.in_ok-finish.ensures.plan (front_plain c.args.bytes.now _ c.in_ok-front.ensures.read)
