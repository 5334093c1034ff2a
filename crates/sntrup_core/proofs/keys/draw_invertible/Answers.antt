use Rattle.rand_words.specs.Words.{words_from}
use Rattle.sntrup_core.proofs.Draws.{none_drawn}
use Rattle.sntrup_core.proofs.keys.draw_invertible.Goals as goal

pub returns-in-Annihilator-clause-none : goal.returns-in-Annihilator-clause-none
returns-in-Annihilator-clause-none g c =
    let exactly = rw c.in-Annihilator.is at c.in_ok-reciprocal.ensures.exactly in
    none_drawn g.S.Params.set (words_from (g.R.Words.word c.args.words.now) (g.R.Words.place c.args.words.now) g.S.Params.set.p) c.in_ok-g.g c.in_ok-g.ensures.sample (exactly.0 tt)
