-- Products with 3 f.
use Rattle.std.proofs.Common.{◌≡◌, ℕ, ◌<◌, ℤ, pos, List, length, map, arith, ap, sym, ◌∙◌, refl}
use Rattle.std.specs.Prelude.{◌*ℤ◌}
use Rattle.std.proofs.lemmas.List.{get_or-map, length-map}
use Rattle.std.proofs.lemmas.List.FromFn.{fill_by_all, length-map-range_with_len}
use Rattle.ring_core.specs.Product.{Series, coefficients, conv, wrapped, centred, product}
use Rattle.ring_core.proofs.QuotientLaws.{same_series}
use Rattle.ring_core.proofs.SeriesLaws.{conv_comm}
use Rattle.ring_core.proofs.ElementLaws.{map_at}
use Rattle.ring_core.proofs.ProductLaws.{made_at}
use Rattle.ring_inverse.specs.Reciprocals.{triple}
use Rattle.ring_inverse.proofs.CongruenceLaws.{times_scale}
use Rattle.ring_inverse.proofs.Inverses.{residue_times}

pub times_comm : (p : ℕ) (f g : Series) (k : ℕ) → wrapped p (conv f g) k ≡ wrapped p (conv g f) k
times_comm p f g k = ap (λ (u : Series). wrapped p u k) (same_series (conv f g) (conv g f) (conv_comm f g))

pub length-triple : (p : ℕ) (f : List ℤ) → length f ≡ p → length (triple f) ≡ p
length-triple p f e = length-map f (λ z. pos 3 *ℤ z) ∙ e

pub triple_at : (f : List ℤ) (k : ℕ) → coefficients (triple f) k ≡ pos 3 *ℤ coefficients f k
triple_at f k = map_at (λ z. pos 3 *ℤ z) f refl k

pub triple_times : (p : ℕ) (f : List ℤ) (g : Series) (k : ℕ) → wrapped p (conv (coefficients (triple f)) g) k ≡ pos 3 *ℤ wrapped p (conv (coefficients f) g) k
triple_times p f g k =
    ap (λ (u : Series). wrapped p (conv u g) k) (same_series (coefficients (triple f)) (λ i. pos 3 *ℤ coefficients f i) (triple_at f))
    ∙ times_scale p (pos 3) (coefficients f) g k

-- 3 (c f), reduced twice, is (3 f) c
pub triple_product : (q p : ℕ) (c f : List ℤ) → 0 < q → map (λ z. centred q z) (map (λ z. pos 3 *ℤ z) (product q p c f)) ≡ product q p (triple f) c
triple_product q p c f h =
    let cf : List ℤ = product q p c f in
    let sums : Series = λ k. wrapped p (conv (coefficients c) (coefficients f)) k in
    let many : List ℤ = map (λ z. pos 3 *ℤ z) cf in
    let count : length cf ≡ p = length-map-range_with_len (λ k. centred q (sums k)) 0 p in
    let longer : length many ≡ p = length-map cf (λ z. pos 3 *ℤ z) ∙ count in
    fill_by_all (λ k. centred q (wrapped p (conv (coefficients (triple f)) (coefficients c)) k)) (map (λ z. centred q z) many) p (pos 0)
    (length-map many (λ z. centred q z) ∙ longer)
    (λ k l.
    get_or-map (λ z. centred q z) many k (pos 0) (pos 0) (omega arith)
    ∙ ap (λ t. centred q t) (triple_at cf k)
    ∙ residue_times q (pos 3) (sums k) (coefficients cf k) h (made_at p (λ i. centred q (sums i)) k l)
    ∙ ap (λ t. centred q (pos 3 *ℤ t)) (times_comm p (coefficients c) (coefficients f) k)
    ∙ ap (λ t. centred q t) (sym (triple_times p f (coefficients c) k)))
