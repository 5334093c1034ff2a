use Rattle.std.proofs.Common.{◌≡◌, ◌∙◌, ℕ, ℤ, List, length, ap, sym}
use Rattle.ring_core.specs.Product.{one, product}
use Rattle.ring_core.proofs.ProductLaws.{product_comm}
use Rattle.ring_inverse.specs.Reciprocals.{triple}
use Rattle.ring_inverse.proofs.quick.inverts_3f.Goals as goal

pub returns : goal.returns
returns g c =
    let q : ℕ = g.S.Params.set.q in
    let p : ℕ = g.S.Params.set.p in
    let v : List ℤ = c.args.v.now in
    let three_f : List ℤ = triple c.args.f.now in
    let list : List ℤ = c.as_slice.result.now in
    let same : product q p v three_f ≡ list = product_comm q p v three_f ∙ sym c.in_ok-product.ensures ∙ sym c.as_slice.ensures.list in
    let count : length list ≡ p = ap length c.as_slice.ensures.list ∙ c.as_slice.ensures.centred.0 in
    λ e. same ∙ c.is_one.ensures e ∙ ap one count
