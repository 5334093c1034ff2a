use Rattle.std.proofs.Common.{sym, ◌∙◌, refl, arith}
use Rattle.chacha20.proofs.Pieces.{encrypt-pieces, first_of_block}
use Rattle.chacha20.proofs.key.ChaChaKey.encrypt_behind_key.Goals as goal

pub returns-clause-text : goal.returns-clause-text
returns-clause-text c = c.add_stream.ensures ∙ sym (encrypt-pieces c.args.self.now c.args.nonce.now 1 c.args.text.now)

pub returns-clause-key : goal.returns-clause-key
returns-clause-key c =
    let key = c.args.self.now in
    let nonce = c.args.nonce.now in
    let h = c.joined-key.ensures in
    h ∙ first_of_block key nonce 0 _ _
    (c.fill.ensures 0 0 (omega arith) refl) (c.fill.ensures 1 1 (omega arith) refl)
