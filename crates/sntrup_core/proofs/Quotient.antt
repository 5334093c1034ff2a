-- The quotient by 3 f.
use Rattle.std.proofs.Common.{◌≡◌, ℕ, ◌<◌, ◌≤◌, ℤ, pos, List, length, arith, ap, sym, ◌∙◌}
use Rattle.std.specs.Prelude.{◌*ℤ◌}
use Rattle.std.proofs.lemmas.List.{length-map}
use Rattle.ring_core.specs.Product.{product, IsCentred}
use Rattle.ring_core.proofs.ProductLaws.{product_comm, product_assoc, product_one}
use Rattle.ring_inverse.specs.Reciprocals.{triple, IsInverse}

-- h = v g with v (3 f) = 1 has 3 f h = g
pub quotient_is : (q p : ℕ) (f g v h : List ℤ) → 0 < q → 2 ≤ p → length f ≡ p → length v ≡ p → IsCentred q p g → IsInverse q p (triple f) v → h ≡ product q p v g → product q p (triple f) h ≡ g
quotient_is q p f g v h l two ef ev cg inverse e =
    ap (λ t. product q p (triple f) t) e
    ∙ sym (product_assoc q p (triple f) v g l two (length-map f (λ z. pos 3 *ℤ z) ∙ ef) ev cg.0)
    ∙ ap (λ t. product q p t g) (product_comm q p (triple f) v ∙ inverse)
    ∙ product_one q p g (omega arith) cg
