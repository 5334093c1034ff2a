use Rattle.std.proofs.Common.{[], ◌++◌, ◌∙◌}
use Rattle.poly1305.specs.Poly1305.{padded, tag_with}
use Rattle.chacha_poly.proofs.tags.tag_by.Goals as goal

pub returns : goal.returns
returns c =
    let aad = c.args.aad.now in
    let ct = c.args.ct.now in
    let xs = padded aad ++ padded ct in
    let took = c.update_padded-2.ensures.more (padded aad) (c.update_padded.ensures.more [] c.start-mac.ensures.none) in
    let r = c.update_padded-2.ensures.r ∙ c.update_padded.ensures.r ∙ c.start-mac.ensures.r in
    let s = c.update_padded-2.ensures.s ∙ c.update_padded.ensures.s ∙ c.start-mac.ensures.s in
    c.finish.ensures xs took ∙ (λ i. tag_with (r i) (s i) (xs ++ c.lengths.ensures i))
