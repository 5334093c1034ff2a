use Rattle.std.proofs.Common.{sym, refl, ◌∙◌, ap, take, drop, length}
use Rattle.std.proofs.lemmas.List.{take_at, drop_at}
use Rattle.ohttp_capsule.proofs.laws.a_salt_binds_enc_and_nonce.Goals as goal

pub returns : goal.returns
returns c enc enc' nonce nonce' size same =
    let n = length enc in (
      sym (take_at enc nonce n refl) ∙ ap (take n) same ∙ take_at enc' nonce' n (sym size),
      sym (drop_at enc nonce n refl) ∙ ap (drop n) same ∙ drop_at enc' nonce' n (sym size),
    )
