use Rattle.std.proofs.Common.{pos, arith}
use Rattle.rand_words.specs.Samples.{short_coefficient}
use Rattle.rand_words.proofs.Lists.{mapped}
use Rattle.rand_words.proofs.samples.write_coefficients.Goals as goal

pub returns-clause-value : goal.returns-clause-value
returns-clause-value c =
    mapped short_coefficient c.args.words.now c.loop-i.list 0 (pos 0) (omega arith) (λ k l. c.loop-i.invariant k (omega arith))
