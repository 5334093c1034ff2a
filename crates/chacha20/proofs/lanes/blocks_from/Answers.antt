use Rattle.std.proofs.Common.{◌≡◌, ◌+◌, [], ◌∷◌, get_or, ap, ◌∙◌, arith}
use Rattle.rand_chacha.proofs.LaneLemmas.{below_four}
use Rattle.chacha20.specs.ChaCha20.{initial, serialized, stirred, block}
use Rattle.chacha20.specs.Lanes.{piece}
use Rattle.chacha20.proofs.lanes.blocks_from.Goals as goal

pub returns : goal.returns
unfolding block
returns c j g J G =
    let n = c.args.counter in
    let is : get_or (n ∷ (n + 1) ∷ (n + 2) ∷ (n + 3) ∷ []) j 0 ≡ n + j =
    below_four (λ j. get_or (n ∷ (n + 1) ∷ (n + 2) ∷ (n + 3) ∷ []) j 0 ≡ n + j) (omega arith) (omega arith) (omega arith) (omega arith) j J in
    c.bytes_of_all.ensures j g J G
    ∙ ap (λ x. piece g (serialized x)) (c.stirred.ensures j J
    ∙ ap stirred (c.counted.ensures j J ∙ ap (λ k. initial c.args.key.now k c.args.nonce.now) is))
