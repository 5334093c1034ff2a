use Rattle.std.proofs.Common.{◌++◌, ◌+◌, ◌*◌, ◌/◌, ◌∷◌, [], take, get_or, ap, ◌∙◌}
use Rattle.aes_block.specs.Cipher.{cipher}
use Rattle.aes_gcm.specs.Gcm.{counter_block}
use Rattle.aes_gcm.proofs.Streams.{group_block}
use Rattle.aes_gcm.proofs.key.GcmKey.group.Goals as goal

pub returns : goal.returns
returns c j m J is =
    let nonce = c.args.nonce.now in
    let aes = c.self.inside.aes in
    c.encrypt_counted.ensures j J
    ∙ ap (λ b. cipher aes (take 15 b ++ (get_or b 15 0 / 8 * 8 + j) ∷ [])) c.counter_block.ensures
    ∙ ap (cipher aes) (group_block nonce c.args.i j m c.told-nonce J is)
    ∙ ap (λ k. cipher k (counter_block nonce m)) c.self.view_is
