use Rattle.journal_check.proofs.Pulling.{found_own}
use Rattle.journal_check.proofs.lane_walks.own_from.Goals as goal

pub returns-then-marks-at-clause-some : goal.returns-then-marks-at-clause-some
returns-then-marks-at-clause-some c = λ m at.
    found_own c.args.lane c.args.marks.now c.marks.at c.args.from _ m c.marks-test.true c.if-marks-at.true c.marks.invariant at
