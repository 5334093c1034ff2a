-- GHASH, one more block at a time.
use Rattle.std.proofs.Common.{◌≡◌, ◌<◌, ◌+◌, ◌*◌, ◌^◌, ◌%◌, bit_or, ℕ, zero, suc, List, [], ◌∷◌, ◌++◌, length, take, drop, replicate, get_or, bit_xor, sym, ◌∙◌, min, append_assoc, ap, refl, arith, length-append, length-drop}
use Rattle.std.specs.Int.Bits.{xor_assoc, xor_zero_l, xor_zero_r}
use Rattle.ghash_core.specs.Field.{one, product, power}
use Rattle.ghash_core.specs.Hash.{block_of, first_blocks, padded_blocks, length_block, sum_after, ghash}
use Rattle.std.proofs.lemmas.Nat.{or_shifted}
use Rattle.std.specs.Int.{div_ceil}
use Rattle.std.proofs.lemmas.List.{append-nil, take_all, take_min, drop_min}
use Rattle.ghash_core.proofs.Linear.{one-product, product-comm, product-assoc, product-lt, product-xor_l}

pub one-lt : one < 2 ^ 128
one-lt = omega arith

pub power-lt : (h n : ℕ) → h < 2 ^ 128 → power h n < 2 ^ 128
unfolding power
power-lt h zero small = one-lt
power-lt h (suc n) small = product-lt (power h n) h small

pub power-one : (h : ℕ) → h < 2 ^ 128 → power h 1 ≡ h
unfolding power
power-one h small = product-comm one h one-lt small ∙ one-product h small

power_next : (y h n : ℕ) → product y (product (power h n) h) ≡ product y (power h (suc n))
unfolding power
power_next y h n = refl

-- Y_j = (Y_(j-1) + X_j) h
pub ghash-more : (h : ℕ) (xs : List ℕ) (x : ℕ) → h < 2 ^ 128 → product (bit_xor (ghash h xs) x) h ≡ ghash h (xs ++ x ∷ [])
unfolding ghash
ghash-more h [] x small =
    ap (λ y. product y h) (xor_zero_l x) ∙ sym (xor_zero_r (product x (power h 1)) ∙ ap (product x) (power-one h small))
ghash-more h (y ∷ ys) x small =
    let n = length ys + 1 in
    let p = product y (power h n) in
    let rest = ghash h ys in
    let more : length (ys ++ x ∷ []) + 1 ≡ suc n = omega (arith, length-append ys (x ∷ [])) in
    ap (λ z. product z h) (xor_assoc p rest x)
    ∙ product-xor_l p (bit_xor rest x) h
    ∙ ap (bit_xor (product p h)) (ghash-more h ys x small)
    ∙ ap (λ z. bit_xor z (ghash h (ys ++ x ∷ [])))
    (product-assoc y (power h n) h (power-lt h n small) small ∙ power_next y h n ∙ ap (λ k. product y (power h k)) (sym more))

-- zeros after a byte string leave its block alone
pub get_or-zeros : (xs : List ℕ) (n i : ℕ) → get_or (xs ++ replicate n 0) i 0 ≡ get_or xs i 0
get_or-zeros [] zero i = refl
get_or-zeros [] (suc n) zero = refl
get_or-zeros [] (suc n) (suc i) = get_or-zeros [] n i
get_or-zeros (x ∷ xs) n zero = refl
get_or-zeros (x ∷ xs) n (suc i) = get_or-zeros xs n i

pub block_of-padded : (xs : List ℕ) (n : ℕ) → block_of (xs ++ replicate n 0) ≡ block_of xs
unfolding block_of
block_of-padded xs n = simp (get_or-zeros)

pub ruleset block_facts = (block_of-padded)

pub sum_after-ghash : (h : ℕ) (ws xs : List ℕ) → h < 2 ^ 128 → sum_after h (ghash h ws) xs ≡ ghash h (ws ++ xs)
unfolding sum_after
sum_after-ghash h ws [] small = ap (ghash h) (sym (append-nil ws))
sum_after-ghash h ws (x ∷ xs) small =
    ap (λ y. sum_after h y xs) (ghash-more h ws x small)
    ∙ sum_after-ghash h (ws ++ x ∷ []) xs small
    ∙ ap (ghash h) (append_assoc ws (x ∷ []) xs)

-- the first block and the rest
pub padded_blocks-first : (bytes : List ℕ) (n : ℕ) → 0 < length bytes → n ≡ min (length bytes) 16
    → padded_blocks bytes ≡ block_of (take n bytes) ∷ padded_blocks (drop n bytes)
unfolding first_blocks
padded_blocks-first bytes n more is =
    let count : div_ceil (length bytes) 16 ≡ suc (div_ceil (length (drop n bytes)) 16) = omega (arith, length-drop n bytes) in
    let least : n ≡ min 16 (length bytes) = omega arith in
    let front : take 16 bytes ≡ take n bytes = sym (ap (λ k. take k bytes) least ∙ take_min 16 bytes) in
    let back : drop 16 bytes ≡ drop n bytes = sym (ap (λ k. drop k bytes) least ∙ drop_min 16 bytes) in
    ap (λ k. first_blocks k bytes) count
    ∙ ap (λ xs. block_of xs ∷ first_blocks (div_ceil (length (drop n bytes)) 16) (drop 16 bytes)) front
    ∙ ap (λ xs. block_of (take n bytes) ∷ first_blocks (div_ceil (length (drop n bytes)) 16) xs) back

pub padded_blocks-none : (bytes : List ℕ) → length bytes ≡ 0 → padded_blocks bytes ≡ []
unfolding first_blocks
padded_blocks-none bytes none = ap (λ n. first_blocks (div_ceil n 16) bytes) none

pub sum_after-none : (h y : ℕ) → sum_after h y [] ≡ y
unfolding sum_after
sum_after-none h y = refl

pub ghash-none : (h : ℕ) → ghash h [] ≡ 0
unfolding ghash
ghash-none h = refl

pub sum_after-first : (h y : ℕ) (bytes : List ℕ) (n : ℕ) → 0 < length bytes → n ≡ min (length bytes) 16
    → sum_after h y (padded_blocks bytes)
    ≡ sum_after h (product (bit_xor y (block_of (take n bytes))) h) (padded_blocks (drop n bytes))
unfolding sum_after
sum_after-first h y bytes n more is = ap (sum_after h y) (padded_blocks-first bytes n more is)

-- the code's form of the block of lengths
pub length_block_is : (a t : ℕ) → a < 2 ^ 64 → t < 2 ^ 64 → bit_or (a * 2 ^ 64 % 2 ^ 128) t ≡ length_block a t
length_block_is a t p q =
    let whole : a * 2 ^ 64 % 2 ^ 128 ≡ a * 2 ^ 64 = omega arith in
    ap (λ x. bit_or x t) whole ∙ or_shifted a 64 t q

pub ghash-recursion : (h : ℕ) (xs : List ℕ) → h < 2 ^ 128 → ghash h xs ≡ sum_after h 0 xs
unfolding ghash
ghash-recursion h xs small = sym (sum_after-ghash h [] xs small)

pub ruleset recursion = (ghash-recursion)

-- fewer than 16 bytes, but some
pub sum_after-rest : (h y : ℕ) (bytes : List ℕ) → length bytes < 16 → 0 < length bytes
    → sum_after h y (padded_blocks bytes) ≡ product (bit_xor y (block_of bytes)) h
sum_after-rest h y bytes short some =
    let n = length bytes in
    let is : n ≡ min n 16 = omega arith in
    let none : length (drop n bytes) ≡ 0 = omega (arith, length-drop n bytes) in
    sum_after-first h y bytes n some is
    ∙ ap (λ xs. sum_after h (product (bit_xor y (block_of (take n bytes))) h) xs) (padded_blocks-none (drop n bytes) none)
    ∙ sum_after-none h (product (bit_xor y (block_of (take n bytes))) h)
    ∙ ap (λ xs. product (bit_xor y (block_of xs)) h) (take_all n bytes (omega arith))
