use Rattle.std.proofs.Common.{arith}
use Rattle.batch_alone.specs.Tables.{restamped}
use Rattle.batch_alone.proofs.Putting.{mapped}
use Rattle.batch_alone.proofs.stamps.restamp_journal.Goals as goal

pub returns : goal.returns
returns c = mapped (restamped c.args.stamps.now) c.args.journal.now c.marks.journal c.marks.i
    c.marks.invariant.size (omega (arith, c.marks-test.false, c.marks.invariant.size)) c.marks.invariant.done
