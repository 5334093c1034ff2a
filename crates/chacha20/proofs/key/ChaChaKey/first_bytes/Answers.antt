use Rattle.std.proofs.Common.{[], get_or, take, ap, ◌∙◌, arith}
use Rattle.rand_chacha.proofs.LaneLemmas.{below_four}
use Rattle.chacha20.specs.ChaCha20.{block}
use Rattle.chacha20.proofs.Pieces.{first_bytes, length-block}
use Rattle.chacha20.proofs.key.ChaChaKey.first_bytes.Goals as goal

pub returns : goal.returns
returns c =
    let key = c.self.inside.key in
    let nonces = c.args.nonces.now in
    below_four _
    (c.joined.ensures
    ∙ first_bytes (block key 0 (get_or nonces 0 [])) _ _ (length-block key (get_or nonces 0 []) 0)
    (c.first_blocks-p.ensures 0 0 (omega arith) (omega arith)) (c.first_blocks-p.ensures 0 1 (omega arith) (omega arith))
    ∙ ap (λ k. take 32 (block k 0 (get_or nonces 0 []))) c.self.view_is)
    (c.joined-2.ensures
    ∙ first_bytes (block key 0 (get_or nonces 1 [])) _ _ (length-block key (get_or nonces 1 []) 0)
    (c.first_blocks-p.ensures 1 0 (omega arith) (omega arith)) (c.first_blocks-p.ensures 1 1 (omega arith) (omega arith))
    ∙ ap (λ k. take 32 (block k 0 (get_or nonces 1 []))) c.self.view_is)
    (c.joined-3.ensures
    ∙ first_bytes (block key 0 (get_or nonces 2 [])) _ _ (length-block key (get_or nonces 2 []) 0)
    (c.first_blocks-p.ensures 2 0 (omega arith) (omega arith)) (c.first_blocks-p.ensures 2 1 (omega arith) (omega arith))
    ∙ ap (λ k. take 32 (block k 0 (get_or nonces 2 []))) c.self.view_is)
    (c.joined-4.ensures
    ∙ first_bytes (block key 0 (get_or nonces 3 [])) _ _ (length-block key (get_or nonces 3 []) 0)
    (c.first_blocks-p.ensures 3 0 (omega arith) (omega arith)) (c.first_blocks-p.ensures 3 1 (omega arith) (omega arith))
    ∙ ap (λ k. take 32 (block k 0 (get_or nonces 3 []))) c.self.view_is)
