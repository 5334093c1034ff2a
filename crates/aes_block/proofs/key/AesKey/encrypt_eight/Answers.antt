use Rattle.std.proofs.Common.{ap, ◌∙◌}
use Rattle.aes_block.specs.Cipher.{cipher}
use Rattle.aes_block.proofs.key.AesKey.encrypt_eight.Goals as goal

pub returns : goal.returns
returns c i I = c.encrypt_states.ensures i I ∙ ap (cipher c.args.self.now) (c.sliced.ensures.states i I)
