use Rattle.std.proofs.Common.{◌≡◌, ◌<◌, ◌+◌, ◌*◌, ◌/◌, [], length, get_or, ap, ◌∙◌, arith}
use Rattle.aes_block.specs.Cipher.{expanded_key, round_key, round_count}
use Rattle.aes_block.proofs.Lengths.{get_or-first_chunks}
use Rattle.aes_block.proofs.key.AesKey.round_key.Goals as goal

pub returns : goal.returns
returns c =
    let i = c.args.i in
    let bytes = c.as_slice.result.now in
    let rounds : c.self.inside.rounds ≡ round_count c.args.self.now = c.self.invariant.3 ∙ ap round_count c.self.view_is in
    let long : length bytes ≡ 16 * (c.self.inside.rounds + 1) = ap length c.as_slice.ensures.value ∙ c.self.invariant.1 in
    let small : i < length bytes / 16 = omega (arith, rounds, long, c.requires) in
    ap (λ xs. get_or xs i []) c.as_chunks.ensures.front
    ∙ get_or-first_chunks 16 (length bytes / 16) bytes i small
    ∙ ap (λ w. round_key w i) (c.as_slice.ensures.value ∙ c.self.invariant.2 ∙ ap expanded_key c.self.view_is)
