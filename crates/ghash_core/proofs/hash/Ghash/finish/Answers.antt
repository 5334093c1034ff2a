use Rattle.std.proofs.Common.{◌≡◌, ◌*◌, ◌^◌, ◌<◌, ◌++◌, ◌∷◌, [], bit_xor, ap, sym, subst, ◌∙◌, arith}
use Rattle.ghash_core.specs.Field.{product}
use Rattle.ghash_core.specs.Hash.{block_bytes, ghash, length_block}
use Rattle.ghash_core.specs.Rows.{element}
use Rattle.ghash_core.proofs.Sums.{ghash-more, length_block_is}
use Rattle.ghash_core.proofs.hash.Ghash.finish.Goals as goal

pub returns : goal.returns
returns c = λ xs took.
    let h = c.self.inside.key.now in
    let same : h ≡ c.args.self.h = ap (λ g. g.h) c.self.view_is in
    let fits : h < 2 ^ 128 = subst (λ k. k < 2 ^ 128) (sym same) took.fits in
    let lengths = length_block (8 * c.args.aad_len) (8 * c.args.text_len) in
    c.lane_bytes.ensures ∙ ap block_bytes (
    c.next.ensures
    ∙ ap (λ x. product (bit_xor (element c.self.inside.sum) x) h)
    (c.to_lanes.ensures ∙ length_block_is (8 * c.args.aad_len) (8 * c.args.text_len) (omega arith) (omega arith))
    ∙ ap (λ y. product (bit_xor y lengths) h) (ap (λ g. g.sum) c.self.view_is ∙ took.sum)
    ∙ ap (λ k. product (bit_xor (ghash k xs) lengths) h) (sym same)
    ∙ ghash-more h xs lengths fits
    ∙ ap (λ k. ghash k (xs ++ lengths ∷ [])) same)
