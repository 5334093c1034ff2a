use Rattle.std.proofs.Common.{◌≡◌, ◌<◌, ℤ, pos, List, length, map, ap, subst, arith, ◌∙◌, IfOk}
use Rattle.std.specs.Prelude.{◌*ℤ◌}
use Rattle.std.proofs.lemmas.List.{length-map}
use Rattle.ring_core.specs.Product.{centred, product}
use Rattle.ring_inverse.specs.Reciprocals.{triple}
use Rattle.ring_inverse.proofs.TripleLaws.{triple_product}
use Rattle.ring_inverse.proofs.quick.times_3f.Goals as goal

pub returns : goal.returns
returns g c =
    let laws = g.S.Params in
    let positive : 0 < g.S.Params.set.q = omega (arith, laws.modulus_least) in
    let many : List ℤ → List ℤ = λ t. map (λ z. pos 3 *ℤ z) t in
    let list : c.deref.result.now ≡ map (λ z. pos 3 *ℤ z) (product g.S.Params.set.q g.S.Params.set.p c.args.c.now c.args.f.now) = c.deref.ensures.value ∙ c.in_ok-numbers.ensures ∙ ap many (c.as_slice.ensures.list ∙ c.in_ok-product.ensures) in
    let whole : map (λ z. centred g.S.Params.set.q z) c.deref.result.now ≡ product g.S.Params.set.q g.S.Params.set.p (triple c.args.f.now) c.args.c.now =
    ap (λ (t : List ℤ). map (λ z. centred g.S.Params.set.q z) t) list
    ∙ triple_product laws.set.q laws.set.p c.args.c.now c.args.f.now positive
    in
    let P : List ℤ → Type 0 = λ t. IfOk c.from_coefficients.result (λ r. r ≡ t) in
    subst P whole c.from_coefficients.ensures

pub from_coefficients-requires : goal.from_coefficients-requires
from_coefficients-requires g c =
    ap length (c.deref.ensures.value ∙ c.in_ok-numbers.ensures)
    ∙ length-map c.as_slice.result.now (λ z. pos 3 *ℤ z)
    ∙ ap length c.as_slice.ensures.list
    ∙ c.as_slice.ensures.centred.0
