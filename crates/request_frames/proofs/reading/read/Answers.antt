use Rattle.std.proofs.Common.{arith}
use Rattle.request_frames.proofs.SpelledTexts.{whole_within, whole_plain}
use Rattle.request_frames.proofs.reading.read.Goals as goal

pub returns-clause-limits : goal.returns-clause-limits
returns-clause-limits c =
    rw c.in_ok-finish.ensures.plan (whole_within c.args.bytes.now _ c.in_ok-draft.ensures.read (omega (arith, c.in_ok-draft.ensures.kept.pool, c.in_ok-draft.draft.pool.ok)))

pub returns-clause-plain : goal.returns-clause-plain
returns-clause-plain c = rw c.in_ok-finish.ensures.plan (whole_plain c.args.bytes.now _ c.in_ok-draft.ensures.read)
