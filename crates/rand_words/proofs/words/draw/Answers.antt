use Rattle.std.proofs.Common.{length, arith}
use Rattle.rand_words.proofs.Lists.{drawn_is}
use Rattle.rand_words.proofs.words.draw.Goals as goal

pub returns-clause-drawn : goal.returns-clause-drawn
returns-clause-drawn g c =
    drawn_is (g.R.Words.word c.args.words.now) (g.R.Words.place c.args.words.now) (length c.args.list.now) c.loop-i.list (omega arith) (λ k l. c.loop-i.invariant.drawn k (omega arith))
