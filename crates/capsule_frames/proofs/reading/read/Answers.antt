use Rattle.std.proofs.Common.{sym, subst, arith}
use Rattle.capsule_frames.specs.Within.{IsWithin}
use Rattle.capsule_frames.proofs.SpelledPlans.{whole_within}
use Rattle.capsule_frames.proofs.reading.read.Goals as goal

pub returns-clause-limits : goal.returns-clause-limits
returns-clause-limits c =
    subst IsWithin (sym c.finish.ensures)
    (whole_within c.args.bytes.now _ c.in_ok-draft.ensures.read
    (omega (arith, c.in_ok-draft.ensures.kept, c.in_ok-draft.draft.pool.ok)))
