use Rattle.std.proofs.Common.{◌∷◌, [], ◌∙◌, ap, sym, arith}
use Rattle.ghash_core.specs.Field.{power, product}
use Rattle.ghash_core.specs.Hash.{sum_after}
use Rattle.ghash_core.specs.Rows.{element, sum_of_four}
use Rattle.ghash_core.proofs.Bytes.{element-zip2}
use Rattle.ghash_core.proofs.FourBlocks.{four_steps}
use Rattle.ghash_core.proofs.hash.GhashKey.next_four.Goals as goal

pub returns : goal.returns
returns c =
    let h = c.self.inside.h in
    let sum = c.args.sum in
    let a = element c.args.a in
    let b = element c.args.b in
    let d = element c.args.c in
    let e = element c.args.d in
    c.sum_of_products.ensures h c.self.invariant.0 c.self.invariant.2
    ∙ ap (λ x. sum_of_four (product x (power h 4)) (product b (power h 3)) (product d (power h 2)) (product e h)) (element-zip2 sum c.args.a (omega arith))
    ∙ sym (four_steps h (element sum) a b d e c.self.invariant.0)
    ∙ ap (λ k. sum_after k (element sum) (a ∷ b ∷ d ∷ e ∷ [])) c.self.view_is
