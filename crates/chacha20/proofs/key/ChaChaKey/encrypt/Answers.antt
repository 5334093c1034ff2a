use Rattle.std.proofs.Common.{◌*◌, ap, sym, ◌∙◌}
use Rattle.chacha20.specs.Lanes.{encrypt_from}
use Rattle.chacha20.proofs.Pieces.{encrypt-pieces}
use Rattle.chacha20.proofs.key.ChaChaKey.encrypt.Goals as goal

pub returns : goal.returns
returns c =
    let key = c.args.self.now in
    let nonce = c.args.nonce.now in
    let text = c.args.text.now in
    c.add_stream.ensures ∙ ap (λ n. encrypt_from key nonce (4 * n) text) c.from-i.ensures
    ∙ sym (encrypt-pieces key nonce c.args.counter text)
