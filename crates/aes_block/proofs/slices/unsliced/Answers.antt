use Rattle.std.proofs.Common.{◌≡◌, ◌∷◌, [], ◌∙◌, ℕ, List, get_or}
use Rattle.aes_block.specs.Sliced.{moved, lane_of}
use Rattle.aes_block.proofs.States.{eight}
use Rattle.aes_block.proofs.Turning.{block_is}
use Rattle.aes_block.proofs.slices.unsliced.Goals as goal

pub returns : goal.returns
returns c i I =
    let t = c.turn.result in
    let list : List (List ℕ) = c.transposed.result ∷ c.transposed-2.result ∷ c.transposed-3.result ∷ c.transposed-4.result ∷ c.transposed-5.result ∷ c.transposed-6.result ∷ c.transposed-7.result ∷ c.transposed-8.result ∷ [] in
    eight (λ k. get_or list k [] ≡ moved lane_of (get_or t k [])) c.transposed.ensures c.transposed-2.ensures c.transposed-3.ensures c.transposed-4.ensures c.transposed-5.ensures c.transposed-6.ensures c.transposed-7.ensures c.transposed-8.ensures i I
    ∙ block_is c.args.q t c.turn.ensures.bits c.turn.ensures.small i I
