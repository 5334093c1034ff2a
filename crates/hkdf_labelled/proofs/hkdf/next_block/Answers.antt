use Rattle.std.proofs.Common.{length, ap, ◌∙◌, append_assoc}
use Rattle.hkdf_labelled.specs.Hmac.{hmac as hmac_of}
use Rattle.hkdf_labelled.proofs.Blocks.{length-hmac}
use Rattle.hkdf_labelled.proofs.hkdf.next_block.Goals as goal

pub returns-clause-value : goal.returns-clause-value
returns-clause-value c = λ kdf prk keyed.
    let joined =
    c.update-6.ensures _ _ _ (c.update-5.ensures _ _ _ (c.update-4.ensures _ _ _ (c.update-3.ensures _ _ _ (c.update-2.ensures _ _ _
    (c.update.ensures _ _ _ keyed))))) in
    c.finish.ensures.value _ _ _ joined ∙ ap (hmac_of kdf prk) (rw c.as_slice.ensures (simp append_assoc))

pub returns-clause-size : goal.returns-clause-size
returns-clause-size c = λ kdf prk keyed. ap length (returns-clause-value c kdf prk keyed) ∙ length-hmac _ _ _
