use Rattle.std.proofs.Common.{◌≡◌, ℕ, ℤ, List, sym, subst}
use Rattle.std.specs.Prelude.{IfOk}
use Rattle.radix_pack.specs.Codings.{AreMultiplesOf3}
use Rattle.sntrup_kem.proofs.Rounds.{AreMultiplesOf3-encrypted, ciphertext_by}
use Rattle.sntrup_kem.proofs.encapsulation.ciphertext.Goals as goal

pub rounded_encode-requires : goal.rounded_encode-requires
rounded_encode-requires g c =
    let P : List ℤ → Type 0 = λ a. AreMultiplesOf3 a in
    subst P (sym c.in_ok-c.ensures) (AreMultiplesOf3-encrypted g.S.Params.set c.args.r.now c.in_ok-h.h)

pub returns-clause-bytes : goal.returns-clause-bytes
returns-clause-bytes g c =
    let P : List ℕ → Type 0 = λ t. IfOk c.rounded_encode.result (λ b. b ≡ t) in
    subst P (ciphertext_by g.S.Params.set c.args.public.now c.args.r.now c.in_ok-h.h c.in_ok-c.c c.in_ok-h.ensures c.in_ok-c.ensures) c.rounded_encode.ensures.bytes
