use Rattle.std.proofs.Common.{arith}
use Rattle.request_frames.proofs.SpelledLive.{whole_within, whole_live}
use Rattle.request_frames.proofs.live_reading.read.Goals as goal

pub returns-clause-limits : goal.returns-clause-limits
returns-clause-limits c =
    rw c.in_ok-finish.ensures.plan (whole_within c.args.bytes.now _ c.in_ok-draft.ensures.read
    (omega (arith, c.in_ok-draft.ensures.kept.pool, c.in_ok-draft.draft.batch.pool.ok)))

pub returns-clause-live : goal.returns-clause-live
returns-clause-live c =
    rw c.in_ok-finish.ensures.plan (whole_live c.args.bytes.now _ c.in_ok-draft.ensures.read)
