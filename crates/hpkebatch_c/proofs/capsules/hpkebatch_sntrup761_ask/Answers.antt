use Rattle.std.proofs.Common.{◌≡◌, length, refl, ap, ◌∙◌}
use Rattle.ring_core.specs.Sets.{sntrup761}
use Rattle.sntrup_kem.specs.Sizes.{enc_size}
use Rattle.library_calls.specs.Capsules.{asked_held, kept_by}
use Rattle.library_calls.specs.Keys.{enc_by, session_by}
use Rattle.library_calls.specs.Setups.{kem_761}
use Rattle.library_calls.proofs.Kept.{held_is}
use Rattle.hpkebatch_c.proofs.capsules.hpkebatch_sntrup761_ask.Goals as goal

pub returns-clause-asked : goal.returns-clause-asked
returns-clause-asked c done =
    let a = c.args in
    let enc = enc_by sntrup761 a.seed.now a.stream a.public.now in
    let secret = session_by sntrup761 a.seed.now a.stream a.public.now in
    let kept : c.put_asked.new.asked ≡ kept_by sntrup761 a.seed.now a.stream a.public.now a.key_id kem_761 a.kdf a.aead =
    rw c.new.ensures.start at (c.put_asked.ensures.kept done) in
    let size : length enc ≡ enc_size sntrup761 = rw c.new.ensures.start at (c.put_asked.ensures.size done) in
    ap asked_held kept ∙ held_is sntrup761 a.key_id kem_761 a.kdf a.aead secret enc refl size
