use Rattle.std.proofs.Common.{◌≡◌, ◌<◌, ◌^◌, ap, sym, subst, ◌∙◌}
use Rattle.ghash_core.specs.Hash.{sum_after, padded_blocks, ghash}
use Rattle.ghash_core.proofs.Sums.{sum_after-ghash}
use Rattle.ghash_core.proofs.hash.Ghash.update_padded.Goals as goal

pub returns-clause-more : goal.returns-clause-more
returns-clause-more c = λ xs took.
    let h = c.self.inside.key.now in
    let same : h ≡ c.args.self.now.h = ap (λ g. g.h) c.self.view_is in
    let fits : h < 2 ^ 128 = subst (λ k. k < 2 ^ 128) (sym same) took.fits in
    let blocks = padded_blocks c.args.bytes.now in
    record {
      fits = fits;
      sum = c.hash_blocks.ensures
          ∙ ap (λ y. sum_after h y blocks) (ap (λ g. g.sum) c.self.view_is ∙ took.sum)
          ∙ ap (λ k. sum_after h (ghash k xs) blocks) (sym same)
          ∙ sum_after-ghash h xs blocks fits;
    }
