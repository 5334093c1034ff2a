-- Four blocks at once: sums of four, and four steps of the recursion.
use Rattle.std.proofs.Common.{◌≡◌, ◌<◌, ◌≤◌, ◌+◌, ◌^◌, ℕ, suc, List, [], ◌∷◌, length, take, drop, bit_xor, sym, ◌∙◌, ap, arith}
use Rattle.std.proofs.lemmas.List.{drop-drop, length-drop}
use Rattle.std.specs.Simd.Lanes.{zip2}
use Rattle.std.proofs.lemmas.Simd.{length-zip2}
use Rattle.ghash_core.specs.Field.{by_power, power, product}
use Rattle.ghash_core.specs.Hash.{block_of, padded_blocks, sum_after}
use Rattle.ghash_core.specs.Rows.{element, sum_of_four, sum_of_rows, bytes_of_products}
use Rattle.ghash_core.proofs.Linear.{xor_swap, by_power-xor, product-assoc, product-xor_l}
use Rattle.ghash_core.proofs.Bytes.{element-zip2}
use Rattle.ghash_core.proofs.Tables.{sum_of_rows-more}
use Rattle.ghash_core.proofs.Sums.{power-lt, power-one, sum_after-first}

-- ---- sums of four

pub length-four : (ws xs ys zs : List ℕ) → length ws ≡ 16 → length xs ≡ 16 → length ys ≡ 16 → length zs ≡ 16
    → length (zip2 bit_xor (zip2 bit_xor (zip2 bit_xor ws xs) ys) zs) ≡ 16
length-four ws xs ys zs p q r s =
    let two = zip2 bit_xor ws xs in
    let three = zip2 bit_xor two ys in
    let l = length-zip2 bit_xor ws xs (omega arith) in
    let m = length-zip2 bit_xor two ys (omega arith) in
    omega (arith, length-zip2 bit_xor three zs (omega arith))

pub element-four : (ws xs ys zs : List ℕ) → length ws ≡ 16 → length xs ≡ 16 → length ys ≡ 16 → length zs ≡ 16
    → element (zip2 bit_xor (zip2 bit_xor (zip2 bit_xor ws xs) ys) zs) ≡ sum_of_four (element ws) (element xs) (element ys) (element zs)
element-four ws xs ys zs p q r s =
    let two = zip2 bit_xor ws xs in
    let three = zip2 bit_xor two ys in
    let l = length-zip2 bit_xor ws xs (omega arith) in
    let m = length-zip2 bit_xor two ys (omega arith) in
    element-zip2 three zs (omega arith)
    ∙ ap (λ x. bit_xor x (element zs)) (element-zip2 two ys (omega arith) ∙ ap (λ x. bit_xor x (element ys)) (element-zip2 ws xs (omega arith)))

by_power-four : (n a b c d : ℕ) → by_power n (sum_of_four a b c d) ≡ sum_of_four (by_power n a) (by_power n b) (by_power n c) (by_power n d)
by_power-four n a b c d =
    by_power-xor n (bit_xor (bit_xor a b) c) d
    ∙ ap (λ x. bit_xor x (by_power n d)) (by_power-xor n (bit_xor a b) c ∙ ap (λ x. bit_xor x (by_power n c)) (by_power-xor n a b))

xor-four : (a b c d p q r s : ℕ) → bit_xor (sum_of_four a b c d) (sum_of_four p q r s) ≡ sum_of_four (bit_xor a p) (bit_xor b q) (bit_xor c r) (bit_xor d s)
xor-four a b c d p q r s =
    xor_swap (bit_xor (bit_xor a b) c) d (bit_xor (bit_xor p q) r) s
    ∙ ap (λ x. bit_xor x (bit_xor d s)) (xor_swap (bit_xor a b) c (bit_xor p q) r ∙ ap (λ x. bit_xor x (bit_xor c r)) (xor_swap a b p q))

-- a row more, of each of four blocks
pub rows-four : (j p q r s : ℕ) (ws xs ys zs : List ℕ)
    → bit_xor (by_power 8 (sum_of_four (sum_of_rows j p ws) (sum_of_rows j q xs) (sum_of_rows j r ys) (sum_of_rows j s zs)))
    (sum_of_four (element (bytes_of_products j p ws)) (element (bytes_of_products j q xs)) (element (bytes_of_products j r ys)) (element (bytes_of_products j s zs)))
    ≡ sum_of_four (sum_of_rows (j + 1) p ws) (sum_of_rows (j + 1) q xs) (sum_of_rows (j + 1) r ys) (sum_of_rows (j + 1) s zs)
rows-four j p q r s ws xs ys zs =
    let a = sum_of_rows j p ws in
    let b = sum_of_rows j q xs in
    let c = sum_of_rows j r ys in
    let d = sum_of_rows j s zs in
    let e = element (bytes_of_products j p ws) in
    let f = element (bytes_of_products j q xs) in
    let g = element (bytes_of_products j r ys) in
    let h = element (bytes_of_products j s zs) in
    ap (λ x. bit_xor x (sum_of_four e f g h)) (by_power-four 8 a b c d)
    ∙ xor-four (by_power 8 a) (by_power 8 b) (by_power 8 c) (by_power 8 d) e f g h
    ∙ sym (λ i. sum_of_four (sum_of_rows-more j p ws i) (sum_of_rows-more j q xs i) (sum_of_rows-more j r ys i) (sum_of_rows-more j s zs i))

-- ---- four steps

pub power-two : (h : ℕ) → h < 2 ^ 128 → product h h ≡ power h 2
unfolding power
power-two h small = ap (λ x. product x h) (sym (power-one h small))

pub power-next : (h n : ℕ) → product (power h n) h ≡ power h (n + 1)
unfolding power
power-next h n = let next : suc n ≡ n + 1 = omega arith in ap (power h) next

-- a product, a step on
next : (x h n : ℕ) → h < 2 ^ 128 → product (product x (power h n)) h ≡ product x (power h (n + 1))
next x h n small = product-assoc x (power h n) h (power-lt h n small) small ∙ ap (product x) (power-next h n)

pub four_steps : (h y a b c d : ℕ) → h < 2 ^ 128
    → sum_after h y (a ∷ b ∷ c ∷ d ∷ []) ≡ sum_of_four (product (bit_xor y a) (power h 4)) (product b (power h 3)) (product c (power h 2)) (product d h)
unfolding sum_after
four_steps h y a b c d small =
    let x = bit_xor y a in
    let by = λ (z n : ℕ). product z (power h n) in
    let one = λ (z : ℕ). ap (product z) (sym (power-one h small)) in
    let on = λ (z n : ℕ). next z h n small in
    ap (λ z. product (bit_xor (product (bit_xor (product (bit_xor z b) h) c) h) d) h) (one x)
    ∙ ap (λ z. product (bit_xor (product (bit_xor z c) h) d) h) (product-xor_l (by x 1) b h ∙ (λ i. bit_xor (on x 1 i) (one b i)))
    ∙ ap (λ z. product (bit_xor z d) h) (product-xor_l (bit_xor (by x 2) (by b 1)) c h
    ∙ (λ i. bit_xor ((product-xor_l (by x 2) (by b 1) h ∙ (λ k. bit_xor (on x 2 k) (on b 1 k))) i) (one c i)))
    ∙ product-xor_l (bit_xor (bit_xor (by x 3) (by b 2)) (by c 1)) d h
    ∙ ap (λ z. bit_xor z (product d h)) (product-xor_l (bit_xor (by x 3) (by b 2)) (by c 1) h
    ∙ (λ i. bit_xor ((product-xor_l (by x 3) (by b 2) h ∙ (λ k. bit_xor (on x 3 k) (on b 2 k))) i) (on c 1 i)))

-- four blocks of a byte string, and the rest
pub sum_after-four : (h y : ℕ) (bytes : List ℕ) → 64 ≤ length bytes
    → sum_after h y (padded_blocks bytes)
    ≡ sum_after h (sum_after h y (block_of (take 16 bytes) ∷ block_of (take 16 (drop 16 bytes)) ∷ block_of (take 16 (drop 32 bytes)) ∷ block_of (take 16 (drop 48 bytes)) ∷ []))
    (padded_blocks (drop 64 bytes))
unfolding sum_after
sum_after-four h y bytes long =
    let l = length-drop 16 bytes in
    let m = length-drop 32 bytes in
    let n = length-drop 48 bytes in
    let a = block_of (take 16 bytes) in
    let b = block_of (take 16 (drop 16 bytes)) in
    let c = block_of (take 16 (drop 32 bytes)) in
    let d = block_of (take 16 (drop 48 bytes)) in
    let y1 = product (bit_xor y a) h in
    let y2 = product (bit_xor y1 b) h in
    let y3 = product (bit_xor y2 c) h in
    sum_after-first h y bytes 16 (omega arith) (omega arith)
    ∙ sum_after-first h y1 (drop 16 bytes) 16 (omega arith) (omega arith) ∙ ap (λ xs. sum_after h y2 (padded_blocks xs)) (drop-drop 16 16 bytes)
    ∙ sum_after-first h y2 (drop 32 bytes) 16 (omega arith) (omega arith) ∙ ap (λ xs. sum_after h y3 (padded_blocks xs)) (drop-drop 16 32 bytes)
    ∙ sum_after-first h y3 (drop 48 bytes) 16 (omega arith) (omega arith) ∙ ap (λ xs. sum_after h (product (bit_xor y3 d) h) (padded_blocks xs)) (drop-drop 16 48 bytes)
