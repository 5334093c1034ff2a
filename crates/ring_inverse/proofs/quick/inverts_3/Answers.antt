use Rattle.std.proofs.Common.{◌≡◌, ◌∙◌, ℕ, ℤ, List, length, ap, sym}
use Rattle.ring_core.specs.Product.{one, product}
use Rattle.ring_inverse.proofs.quick.inverts_3.Goals as goal

pub returns : goal.returns
returns g c =
    let p : ℕ = g.S.Params.set.p in
    let list : List ℤ = c.deref.result.now in
    let same : product 3 p c.args.v.now c.args.a.now ≡ list = sym c.in_ok-product.ensures ∙ sym c.as_slice.ensures.list ∙ sym c.in_ok-list.ensures ∙ sym c.deref.ensures.value in
    let count : length list ≡ p = ap length (c.deref.ensures.value ∙ c.in_ok-list.ensures ∙ c.as_slice.ensures.list) ∙ c.as_slice.ensures.centred.0 in
    λ e. same ∙ c.is_one.ensures e ∙ ap one count
