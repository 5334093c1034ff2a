use Rattle.std.proofs.Common.{arith}
use Rattle.request_frames.specs.Live.{live_lines, front_live}
use Rattle.request_frames.proofs.SpelledTexts.{behind_front, front_ends}
use Rattle.request_frames.proofs.SpelledLive.{front_plan_read, front_within, front_is_live}
use Rattle.request_frames.proofs.live_reading.read_up_to_end.Goals as goal

pub overflow_sub-end : goal.overflow_sub-end
overflow_sub-end c = behind_front c.args.bytes.now c.in_ok-front.front.rest.now _
    (front_plan_read c.args.bytes.now _ c.in_ok-front.ensures.read).0

pub returns-clause-read : goal.returns-clause-read
unfolding front_live
returns-clause-read c = rw c.in_ok-finish.ensures.plan (front_ends live_lines c.args.bytes.now c.in_ok-front.front.rest.now _ _ c.in_ok-front.ensures.read)

pub returns-clause-limits : goal.returns-clause-limits
returns-clause-limits c =
    rw c.in_ok-finish.ensures.plan (front_within c.args.bytes.now _ c.in_ok-front.ensures.read
    (omega (arith, c.in_ok-front.ensures.kept.pool, c.in_ok-front.front.draft.batch.pool.ok)))

pub returns-clause-live : goal.returns-clause-live
returns-clause-live c = rw c.in_ok-finish.ensures.plan (front_is_live c.args.bytes.now _ c.in_ok-front.ensures.read)
