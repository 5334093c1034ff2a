use Rattle.std.proofs.Common.{◌≡◌, ◌<◌, ℤ, List, map, ap, subst, arith, ◌∙◌, IfOk}
use Rattle.ring_core.specs.Product.{centred}
use Rattle.sntrup_core.specs.Encryption.{rounded, encrypted}
use Rattle.sntrup_core.proofs.Residues.{encrypted_is}
use Rattle.sntrup_core.proofs.encryption.encrypt.Goals as goal

pub returns : goal.returns
returns g c =
    let laws = g.S.Params in
    let positive : 0 < g.S.Params.set.q = omega (arith, laws.modulus_least) in
    let list : c.deref.result.now ≡ map rounded c.in_ok-product.product = c.deref.ensures.value ∙ c.in_ok-numbers.ensures ∙ ap (λ (t : List ℤ). map rounded t) c.as_slice.ensures.list in
    let whole : map (λ z. centred g.S.Params.set.q z) c.deref.result.now ≡ encrypted laws.set c.args.r.now c.args.public.now.h =
    encrypted_is laws.set.q laws.set.p c.in_ok-product.product c.deref.result.now positive laws.modulus_odd laws.half_thirds c.as_slice.ensures.centred list
    ∙ ap (λ (t : List ℤ). map rounded t) c.in_ok-product.ensures
    in
    let P : List ℤ → Type 0 = λ t. IfOk c.from_coefficients.result (λ r. r ≡ t) in
    subst P whole c.from_coefficients.ensures
