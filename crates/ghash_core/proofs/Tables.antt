-- The tables of an element, and the product by them.
use Rattle.std.proofs.Common.{◌≡◌, ◌<◌, ◌+◌, ◌*◌, ◌/◌, ◌%◌, ◌^◌, ℕ, zero, suc, List, [], ◌∷◌, length, get_or, map, bit_and, bit_xor, sym, ◌∙◌, ap, refl, arith}
use Rattle.std.proofs.Math.Nat.{zero-add}
use Rattle.std.specs.Int.{bit_at, byte_at, bytes_high_first}
use Rattle.std.specs.Int.Bits.{xor_zero_l}
use Rattle.std.specs.List.{range_with_len}
use Rattle.std.specs.Simd.Lanes.{zip2, Each1}
use Rattle.std.proofs.lemmas.List.FromFn.{get_or-map-range_with_len, get_or-range_with_len}
use Rattle.std.proofs.lemmas.Nat.{and_mask, xor_comm}
use Rattle.std.proofs.lemmas.Nat.Bits.{bit_at-lt}
use Rattle.std.proofs.lemmas.Simd.{Each1-from_get_or, Each1-all, Each1-weaker, zip2_splat_left, map-map}
use Rattle.ghash_core.specs.Field.{one, by_power, product}
use Rattle.ghash_core.specs.Hash.{block_bytes}
use Rattle.ghash_core.specs.Rows.{element, chosen, row, bytes_of_products, sum_of_rows}
use Rattle.ghash_core.proofs.Linear.{xor_swap, by_power-xor, by_power-zero, by_power-one, one-product, product-comm, product-lt, product-xor_l, low_product-by_power}
use Rattle.ghash_core.proofs.PowersOfU.{by_power-even, by_power-product, low_high, product-scale, product-zero, xor_shl}
use Rattle.ghash_core.proofs.Bytes.{AreBytes, byte_at-xor, byte_at-scale, element-block_bytes, element-lt}
use Rattle.ghash_core.proofs.Vectors.{map-same}

-- ---- the products with four bits

-- a polynomial of degree below 4, by its coefficients
four_bits : (v : ℕ) → v < 16 → v * 2 ^ 124 ≡ chosen v (2 ^ 127) (2 ^ 126) (2 ^ 125) (2 ^ 124)
four_bits v small =
    let f = λ (n : ℕ). n * 2 ^ 124 in
    let g = λ (n : ℕ). chosen n (2 ^ 127) (2 ^ 126) (2 ^ 125) (2 ^ 124) in
    let all : map f (range_with_len 0 16) ≡ map g (range_with_len 0 16) = refl in
    sym (get_or-map-range_with_len f 0 16 v v 0 small (zero-add v)) ∙ ap (λ xs. get_or xs v 0) all
    ∙ get_or-map-range_with_len g 0 16 v v 0 small (zero-add v)

-- u^i times h, as a product
power_product : (i k h : ℕ) → i + k ≡ 127 → h < 2 ^ 128 → product (2 ^ k) h ≡ by_power i h
power_product i k h e small =
    let below : one < 2 ^ 128 = omega arith in
    ap (λ x. product x h) (sym (by_power-one i k e)) ∙ sym (by_power-product i one h below small)
    ∙ ap (by_power i) (product-comm one h below small ∙ one-product h small)

product_bit : (v n i k h : ℕ) → i + k ≡ 127 → h < 2 ^ 128 → product (bit_at v n * 2 ^ k) h ≡ bit_at v n * by_power i h
product_bit v n i k h e small = product-scale (bit_at v n) (2 ^ k) h (bit_at-lt v n) ∙ ap (λ x. bit_at v n * x) (power_product i k h e small)

by_power-none : (a : ℕ) → by_power 0 a ≡ a
unfolding by_power
by_power-none a = refl

pub product_chosen : (v h : ℕ) → v < 16 → h < 2 ^ 128 → product (v * 2 ^ 124) h ≡ chosen v h (by_power 1 h) (by_power 2 h) (by_power 3 h)
product_chosen v h within small =
    let a = bit_at v 3 * 2 ^ 127 in
    let b = bit_at v 2 * 2 ^ 126 in
    let c = bit_at v 1 * 2 ^ 125 in
    let d = bit_at v 0 * 2 ^ 124 in
    ap (λ x. product x h) (four_bits v within)
    ∙ product-xor_l (bit_xor (bit_xor a b) c) d h
    ∙ ap (λ x. bit_xor x (product d h)) (product-xor_l (bit_xor a b) c h ∙ ap (λ x. bit_xor x (product c h)) (product-xor_l a b h))
    ∙ ap (λ x. bit_xor (bit_xor (bit_xor x (product b h)) (product c h)) (product d h)) (product_bit v 3 0 127 h refl small ∙ ap (λ x. bit_at v 3 * x) (by_power-none h))
    ∙ ap (λ x. bit_xor (bit_xor (bit_xor (bit_at v 3 * h) x) (product c h)) (product d h)) (product_bit v 2 1 126 h refl small)
    ∙ ap (λ x. bit_xor (bit_xor (bit_xor (bit_at v 3 * h) (bit_at v 2 * by_power 1 h)) x) (product d h)) (product_bit v 1 2 125 h refl small)
    ∙ ap (bit_xor (bit_xor (bit_xor (bit_at v 3 * h) (bit_at v 2 * by_power 1 h)) (bit_at v 1 * by_power 2 h))) (product_bit v 0 3 124 h refl small)

-- ---- rows

-- each number below 16
below_16 : Each1 (λ v. v < 16) (range_with_len 0 16)
below_16 = Each1-from_get_or (λ v. v < 16) (range_with_len 0 16) 0 (λ i lt. omega (arith, get_or-range_with_len 0 16 i 0 lt))

-- a byte of each lane that a mask lets through
pub lanes_chosen : (n a : ℕ) (mask : List ℕ) → a < 256 → mask ≡ map (λ v. bit_at v n * 255) (range_with_len 0 16) → length mask ≡ 16
    → zip2 bit_and (a ∷ a ∷ a ∷ a ∷ a ∷ a ∷ a ∷ a ∷ a ∷ a ∷ a ∷ a ∷ a ∷ a ∷ a ∷ a ∷ []) mask ≡ map (λ v. bit_at v n * a) (range_with_len 0 16)
lanes_chosen n a mask small is long =
    zip2_splat_left bit_and a 16 mask long ∙ ap (map (bit_and a)) is ∙ map-map (bit_and a) (λ v. bit_at v n * 255) (range_with_len 0 16)
    ∙ map-same (λ v. bit_and a (bit_at v n * 255)) (λ v. bit_at v n * a) (range_with_len 0 16)
    (Each1-all (λ v. bit_and a (bit_at v n * 255) ≡ bit_at v n * a) (λ v. through (bit_at v n) (bit_at-lt v n)) (range_with_len 0 16))
  where
    through : (p : ℕ) → p < 2 → bit_and a (p * 255) ≡ p * a
    through zero _ = and_mask a 0 ∙ omega arith
    through (suc zero) _ = and_mask a 8 ∙ omega arith
    through (suc (suc p)) below = absurd (omega arith)

byte_at-chosen : (j v a b c d : ℕ) → byte_at j (chosen v a b c d) ≡ chosen v (byte_at j a) (byte_at j b) (byte_at j c) (byte_at j d)
byte_at-chosen j v a b c d =
    let p = bit_at v 3 * a in
    let q = bit_at v 2 * b in
    let r = bit_at v 1 * c in
    let s = bit_at v 0 * d in
    byte_at-xor j (bit_xor (bit_xor p q) r) s
    ∙ ap (λ x. bit_xor x (byte_at j s)) (byte_at-xor j (bit_xor p q) r ∙ ap (λ x. bit_xor x (byte_at j r)) (byte_at-xor j p q))
    ∙ (λ i. bit_xor (bit_xor (bit_xor (byte_at-scale j (bit_at v 3) a (bit_at-lt v 3) i) (byte_at-scale j (bit_at v 2) b (bit_at-lt v 2) i)) (byte_at-scale j (bit_at v 1) c (bit_at-lt v 1) i)) (byte_at-scale j (bit_at v 0) d (bit_at-lt v 0) i))

pub row_chosen : (j h : ℕ) → h < 2 ^ 128
    → map (λ v. chosen v (byte_at j h) (byte_at j (by_power 1 h)) (byte_at j (by_power 2 h)) (byte_at j (by_power 3 h))) (range_with_len 0 16) ≡ row j (2 ^ 124) h
unfolding row
row_chosen j h small =
    let f = λ (v : ℕ). chosen v (byte_at j h) (byte_at j (by_power 1 h)) (byte_at j (by_power 2 h)) (byte_at j (by_power 3 h)) in
    let g = λ (v : ℕ). byte_at j (product (v * 2 ^ 124) h) in
    map-same f g (range_with_len 0 16) (Each1-weaker (λ v. v < 16) (λ v. f v ≡ g v) (λ v lt.
    sym (byte_at-chosen j v h (by_power 1 h) (by_power 2 h) (by_power 3 h)) ∙ ap (byte_at j) (sym (product_chosen v h lt small)))
    (range_with_len 0 16) below_16)

-- the rows of u^4 h are those of h, four bits on
pub row_moved : (j h : ℕ) → h < 2 ^ 128 → row j (2 ^ 124) (by_power 4 h) ≡ row j (2 ^ 120) h
unfolding row product
row_moved j h small =
    let f = λ (v : ℕ). byte_at j (product (v * 2 ^ 124) (by_power 4 h)) in
    let g = λ (v : ℕ). byte_at j (product (v * 2 ^ 120) h) in
    map-same f g (range_with_len 0 16) (Each1-weaker (λ v. v < 16) (λ v. f v ≡ g v) (λ v lt.
    let fits : v * 2 ^ 124 < 2 ^ 128 = omega arith in
    let more : v * 2 ^ 124 ≡ v * 2 ^ 120 * 2 ^ 4 = omega arith in
    ap (byte_at j) (low_product-by_power 128 (v * 2 ^ 124) 4 h ∙ by_power-product 4 (v * 2 ^ 124) h fits small
    ∙ ap (λ x. product x h) (ap (by_power 4) more ∙ by_power-even 4 (v * 2 ^ 120))))
    (range_with_len 0 16) below_16)

-- ---- what the rows give of a block

pub get_or-row : (j unit h v : ℕ) → v < 16 → get_or (row j unit h) v 0 ≡ byte_at j (product (v * unit) h)
unfolding row
get_or-row j unit h v small = get_or-map-range_with_len (λ n. byte_at j (product (n * unit) h)) 0 16 v v 0 small (zero-add v)

pub byte_by_rows : (j h b : ℕ) → b < 256
    → bit_xor (get_or (row j (2 ^ 124) h) (b / 16) 0) (get_or (row j (2 ^ 120) h) (b % 16) 0) ≡ byte_at j (product (b * 2 ^ 120) h)
byte_by_rows j h b small =
    let x = b / 16 * 2 ^ 124 in
    let y = b % 16 * 2 ^ 120 in
    let front : x ≡ b / 16 * 2 ^ 4 * 2 ^ 120 = omega arith in
    let all : b / 16 * 2 ^ 4 + b % 16 ≡ b = omega arith in
    let both : bit_xor x y ≡ b * 2 ^ 120 =
    ap (λ z. bit_xor z y) front ∙ xor_shl 120 (b / 16 * 2 ^ 4) (b % 16)
    ∙ ap (λ z. z * 2 ^ 120) (low_high 4 (b / 16) (b % 16) (omega arith) ∙ all) in
    ap (λ z. bit_xor z (get_or (row j (2 ^ 120) h) (b % 16) 0)) (get_or-row j (2 ^ 124) h (b / 16) (omega arith))
    ∙ ap (bit_xor (byte_at j (product x h))) (get_or-row j (2 ^ 120) h (b % 16) (omega arith))
    ∙ sym (byte_at-xor j (product x h) (product y h))
    ∙ ap (byte_at j) (sym (product-xor_l x y h) ∙ ap (λ z. product z h) both)

pub bytes_by_rows : (j h : ℕ) (first next bs : List ℕ) → AreBytes bs → first ≡ row j (2 ^ 124) h → next ≡ row j (2 ^ 120) h
    → map (λ b. bit_xor (get_or first (b / 16) 0) (get_or next (b % 16) 0)) bs ≡ bytes_of_products j h bs
bytes_by_rows j h first next bs small e f =
    let by = λ (xs ys : List ℕ) (b : ℕ). bit_xor (get_or xs (b / 16) 0) (get_or ys (b % 16) 0) in
    let g = λ (b : ℕ). byte_at j (product (b * 2 ^ 120) h) in
    (λ i. map (by (e i) (f i)) bs)
    ∙ map-same (by (row j (2 ^ 124) h) (row j (2 ^ 120) h)) g bs
    (Each1-weaker (λ b. b < 256) (λ b. by (row j (2 ^ 124) h) (row j (2 ^ 120) h) b ≡ g b) (λ b lt. byte_by_rows j h b lt) bs small)

-- ---- the sum of the rows

pub sum_of_rows-more : (j h : ℕ) (bs : List ℕ) → sum_of_rows (j + 1) h bs ≡ bit_xor (by_power 8 (sum_of_rows j h bs)) (element (bytes_of_products j h bs))
unfolding sum_of_rows
sum_of_rows-more j h bs = let more : j + 1 ≡ suc j = omega arith in ap (λ n. sum_of_rows n h bs) more

pub sum_of_rows-one : (h : ℕ) (bs : List ℕ) → sum_of_rows 1 h bs ≡ element (bytes_of_products 0 h bs)
unfolding sum_of_rows
sum_of_rows-one h bs = ap (λ x. bit_xor x (element (bytes_of_products 0 h bs))) (by_power-zero 8) ∙ xor_zero_l (element (bytes_of_products 0 h bs))

sum_of_rows-first : (n h b : ℕ) (bs : List ℕ)
    → sum_of_rows n h (b ∷ bs) ≡ bit_xor (element (bytes_high_first n (product (b * 2 ^ 120) h))) (by_power 8 (sum_of_rows n h bs))
unfolding sum_of_rows element
sum_of_rows-first zero h b bs = sym (by_power-zero 8)
sum_of_rows-first (suc j) h b bs =
    let p = product (b * 2 ^ 120) h in
    let top = byte_at j p * 2 ^ 120 in
    let lower = element (bytes_high_first j p) in
    let rest = sum_of_rows j h bs in
    let more = element (bytes_of_products j h bs) in
    ap (λ x. bit_xor (by_power 8 x) (bit_xor top (by_power 8 more))) (sum_of_rows-first j h b bs)
    ∙ ap (λ x. bit_xor x (bit_xor top (by_power 8 more))) (by_power-xor 8 lower (by_power 8 rest))
    ∙ xor_swap (by_power 8 lower) (by_power 8 (by_power 8 rest)) top (by_power 8 more)
    ∙ ap (bit_xor (bit_xor (by_power 8 lower) top)) (sym (by_power-xor 8 (by_power 8 rest) more))
    ∙ ap (λ x. bit_xor x (by_power 8 (sum_of_rows (suc j) h bs))) (xor_comm (by_power 8 lower) top)

sum_of_rows-nil : (n h : ℕ) → sum_of_rows n h [] ≡ 0
unfolding sum_of_rows element
sum_of_rows-nil zero h = refl
sum_of_rows-nil (suc j) h = ap (λ x. bit_xor (by_power 8 x) 0) (sum_of_rows-nil j h) ∙ ap (λ x. bit_xor x 0) (by_power-zero 8)

pub sum_of_rows-all : (h : ℕ) (bs : List ℕ) → h < 2 ^ 128 → AreBytes bs → sum_of_rows 16 h bs ≡ product (element bs) h
unfolding element block_bytes
sum_of_rows-all h [] small bytes = sum_of_rows-nil 16 h ∙ sym (product-zero h)
sum_of_rows-all h (b ∷ bs) small bytes =
    let p = product (b * 2 ^ 120) h in
    sum_of_rows-first 16 h b bs
    ∙ ap (λ x. bit_xor x (by_power 8 (sum_of_rows 16 h bs))) (element-block_bytes p (product-lt (b * 2 ^ 120) h small))
    ∙ ap (bit_xor p) (ap (by_power 8) (sum_of_rows-all h bs small bytes.1) ∙ by_power-product 8 (element bs) h (element-lt bs bytes.1) small)
    ∙ sym (product-xor_l (b * 2 ^ 120) (by_power 8 (element bs)) h)
