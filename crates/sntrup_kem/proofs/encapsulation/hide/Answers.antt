use Rattle.std.proofs.Common.{◌≡◌, ap, ◌∙◌, arith}
use Rattle.std.proofs.lemmas.Grind.{common_steps}
use Rattle.radix_pack.specs.Codings.{small_encode}
use Rattle.sntrup_kem.specs.Hashes.{hash_confirm}
use Rattle.sntrup_kem.specs.Kem.{ciphertext}
use Rattle.sntrup_kem.proofs.encapsulation.hide.Goals as goal

pub returns-clause-enc : goal.returns-clause-enc
returns-clause-enc g c =
    let first : c.as_slice-2.result.now ≡ ciphertext g.S.Params.set c.args.public.now c.args.r.now = c.as_slice-2.ensures.items ∙ c.in_ok-c_enc.ensures.bytes in
    let second : c.hash_confirm-confirm.result ≡ hash_confirm (small_encode g.S.Params.set.p c.args.r.now) c.args.cache.now =
    c.hash_confirm-confirm.ensures ∙ ap (λ t. hash_confirm t c.args.cache.now) (c.as_slice.ensures.items ∙ c.in_ok-r_enc.ensures.bytes)
    in
    cc (c.in_ok-joined.ensures, first, second)

pub returns-clause-count : goal.returns-clause-count
returns-clause-count g c = grind (arith, common_steps)
