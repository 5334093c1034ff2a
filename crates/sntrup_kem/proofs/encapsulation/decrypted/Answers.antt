use Rattle.std.proofs.Common.{◌≡◌, ℤ, List, subst}
use Rattle.std.specs.Prelude.{IfOk}
use Rattle.sntrup_kem.proofs.Rounds.{plaintext_by}
use Rattle.sntrup_kem.proofs.encapsulation.decrypted.Goals as goal

pub returns : goal.returns
returns g c =
    let e = plaintext_by g.S.Params.set c.args.f_enc.now c.args.ginv_enc.now c.args.c_enc.now c.in_ok-c.c c.in_ok-secret.secret.f c.in_ok-secret.secret.ginv c.in_ok-c.ensures.element c.in_ok-secret.ensures.f c.in_ok-secret.ensures.ginv in
    let P : List ℤ → Type 0 = λ t. IfOk c.decrypt.result (λ r. r ≡ t) in
    subst P e c.decrypt.ensures
