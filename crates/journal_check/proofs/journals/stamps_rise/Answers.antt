use Rattle.journal_check.proofs.Walks.{stamps_end}
use Rattle.journal_check.proofs.journals.stamps_rise.Goals as goal

pub returns : goal.returns
returns c = stamps_end c.args.marks.now c.marks.i _ c.marks.invariant.some c.marks-test.false c.marks.invariant.rise
