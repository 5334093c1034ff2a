use Rattle.std.proofs.Common.{List, map, arith}
use Rattle.call_places.specs.declared.entries.Mark.{Mark}
use Rattle.batch_alone.specs.Tables.{restamped}
use Rattle.batch_alone.proofs.Putting.{mapped}
use Rattle.batch_alone.proofs.stamps.restamp.Goals as goal

pub returns : goal.returns
returns c = mapped {X = List Mark} (map (restamped c.args.stamps.now)) c.args.journals.now
    c.journals.journals c.journals.i c.journals.invariant.size
    (omega (arith, c.journals-test.false, c.journals.invariant.size))
    c.journals.invariant.done
