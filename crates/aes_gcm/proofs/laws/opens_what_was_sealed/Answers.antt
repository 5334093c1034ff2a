use Rattle.std.proofs.Common.{subst}
use Rattle.aes_block.proofs.Lengths.{length-cipher}
use Rattle.aes_block.specs.Cipher.{IsKey}
use Rattle.aes_gcm.proofs.Opening.{seal-holds, seal-clear}
use Rattle.aes_gcm.proofs.laws.opens_what_was_sealed.Goals as goal

pub returns-clause-holds : goal.returns-clause-holds
returns-clause-holds c =
    let size : IsKey c.args.key.now = subst IsKey c.key.view_is c.key.invariant.1 in
    seal-holds c.args.key.now c.args.nonce.now c.args.aad.now c.args.text.now (λ block. length-cipher c.args.key.now block size)

pub returns-clause-text : goal.returns-clause-text
returns-clause-text c =
    let size : IsKey c.args.key.now = subst IsKey c.key.view_is c.key.invariant.1 in
    seal-clear c.args.key.now c.args.nonce.now c.args.aad.now c.args.text.now (λ block. length-cipher c.args.key.now block size)
