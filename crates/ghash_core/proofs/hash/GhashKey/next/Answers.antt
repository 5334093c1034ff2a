use Rattle.std.proofs.Common.{◌∙◌, bit_xor, ap, arith}
use Rattle.ghash_core.specs.Field.{product}
use Rattle.ghash_core.specs.Rows.{element}
use Rattle.ghash_core.proofs.Bytes.{element-zip2}
use Rattle.ghash_core.proofs.hash.GhashKey.next.Goals as goal

pub returns : goal.returns
returns c =
    let h = c.self.inside.h in
    let sum = c.args.sum in
    let x = c.args.x in
    c.product_by.ensures h c.self.invariant.0 c.self.invariant.2.first
    ∙ ap (λ y. product y h) (element-zip2 sum x (omega arith))
    ∙ ap (product (bit_xor (element sum) (element x))) c.self.view_is
