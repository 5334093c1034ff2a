use Rattle.std.proofs.Common.{List, ℕ, map, ap, ◌∙◌}
use Rattle.std.proofs.lemmas.List.Elements.{All-same}
use Rattle.ring_core.specs.Product.{weight}
use Rattle.rand_words.specs.Samples.{short_coefficient, marked, IsMarked}
use Rattle.rand_words.specs.Sorted.{sorted}
use Rattle.rand_words.proofs.MarkLaws.{AreMarked-sorted, weight-marked}
use Rattle.rand_words.proofs.samples.write_short.Goals as goal

pub write_coefficients-requires-clause-marked : goal.write_coefficients-requires-clause-marked
write_coefficients-requires-clause-marked c =
    All-same IsMarked c.sort.new.words (sorted (marked c.args.w c.args.words.now)) (c.sort.ensures ∙ ap sorted c.mark.ensures) (AreMarked-sorted c.args.w c.args.words.now)

pub returns-clause-value : goal.returns-clause-value
returns-clause-value c =
    c.write_coefficients.ensures.value
    ∙ ap (λ (words : List ℕ). map short_coefficient words) (c.sort.ensures ∙ ap sorted c.mark.ensures)

pub returns-clause-weight : goal.returns-clause-weight
returns-clause-weight c =
    ap weight (returns-clause-value c) ∙ weight-marked c.args.w c.args.words.now c.requires.weight
