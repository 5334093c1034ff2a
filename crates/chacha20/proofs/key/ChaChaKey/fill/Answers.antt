use Rattle.std.proofs.Common.{◌≡◌, ◌+◌, ◌*◌, ◌/◌, ◌%◌, [], get_or, ap, ◌∙◌, arith}
use Rattle.chacha20.specs.Lanes.{piece_at}
use Rattle.chacha20.proofs.Pieces.{group_piece}
use Rattle.chacha20.proofs.key.ChaChaKey.fill.Goals as goal

pub returns : goal.returns
returns c j m J is =
    let nonce = c.args.nonce.now in
    let place : j ≡ 4 * (j / 4) + j % 4 = omega arith in
    ap (λ n. get_or c.blocks_from.result n []) place
    ∙ c.blocks_from.ensures (j / 4) (j % 4) (omega arith) (omega arith)
    ∙ group_piece _ nonce c.args.i j m J is
    ∙ ap (λ k. piece_at k nonce m) c.self.view_is
