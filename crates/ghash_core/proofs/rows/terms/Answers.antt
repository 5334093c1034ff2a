use Rattle.std.proofs.Common.{◌∷◌, [], ◌∙◌, ap}
use Rattle.ghash_core.specs.Field.{by_u, by_power}
use Rattle.ghash_core.proofs.rows.terms.Goals as goal

pub returns : goal.returns
unfolding by_power
returns c =
    let second = c.by_u-second.ensures in
    let third = c.by_u-third.ensures ∙ ap by_u second in
    let fourth = c.by_u.ensures ∙ ap by_u third in
    λ i. c.args.h ∷ second i ∷ third i ∷ fourth i ∷ []
