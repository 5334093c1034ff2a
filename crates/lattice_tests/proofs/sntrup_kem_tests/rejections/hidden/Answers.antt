use Rattle.std.proofs.Common.{rules, ℤ, List, ◌≡◌, sym, subst}
use Rattle.radix_pack.specs.Codings.{AreMultiplesOf3}
use Rattle.sntrup_core.specs.Encryption.{encrypted}
use Rattle.sntrup_kem.proofs.Rounds.{AreMultiplesOf3-encrypted}
use Rattle.lattice_tests.proofs.sntrup_kem_tests.rejections.hidden.Goals as goal

pub rounded_encode-requires : goal.rounded_encode-requires
rounded_encode-requires g c =
    let P : List ℤ → Type 0 = λ a. AreMultiplesOf3 a in
    let e : c.expect-c.result ≡ encrypted g.S.Params.set c.args.r.now c.expect-h.result = search rules in
    subst P (sym e) (AreMultiplesOf3-encrypted g.S.Params.set c.args.r.now c.expect-h.result)
