use Rattle.std.proofs.Common.{◌≡◌, ◌≤◌, ◌+◌, ◌-◌, ◌*◌, length, subst, sym, ◌∙◌, arith}
use Rattle.chacha20.specs.Lanes.{IsGroup}
use Rattle.chacha20.proofs.Pieces.{encrypt-next}
use Rattle.chacha20.proofs.key.ChaChaKey.add_pieces.Goals as goal

pub loop-k-preserved : goal.loop-k-preserved
loop-k-preserved c =
    let key = c.args.self.now in
    let nonce = c.args.nonce.now in
    let text = c.loop-k.text in
    let k = c.loop-k.k in
    let i = c.args.i in
    let stream = c.next_piece-stream.result in
    let more : 16 * k + 16 ≤ length text = omega (arith, c.loop-k.invariant.size) in
    let is = c.next_piece-stream.ensures.piece in
    let size : length stream ≡ 16 = omega arith in
    let before : i + (k + 1) - 1 ≡ i + k = omega arith in
    record {
      size = c.add_piece_at.auto.text ∙ c.loop-k.invariant.size;
      last = subst (λ n. IsGroup key nonce n c.next_piece-stream.new.group) (sym before) c.next_piece-stream.ensures.group;
      sum = encrypt-next key nonce i k text stream c.add_piece_at.new.text _ is size more c.loop-k.invariant.sum c.add_piece_at.ensures.sum c.add_piece_at.ensures.rest;
    }
