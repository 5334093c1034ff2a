-- The product is linear in both arguments, and so commutes and associates.
use Rattle.std.proofs.Common.{◌≡◌, ◌<◌, ◌+◌, ◌-◌, ◌*◌, ◌/◌, ◌%◌, ◌^◌, ℕ, zero, suc, bit_and, bit_xor, sym, ◌∙◌, ap, refl, arith, add-one, add-zero}
use Rattle.std.proofs.Math.Nat.{mul_assoc}
use Rattle.std.specs.Int.{bit_at}
use Rattle.std.specs.Int.Bits.{xor_assoc, xor_self, xor_zero_l, xor_zero_r}
use Rattle.std.proofs.lemmas.Nat.{and_comm, and_mask, xor_comm, xor_shr, xor_mod, xor_lt, xor_block, shr-shr, pow_pos}
use Rattle.std.proofs.lemmas.Nat.Bits.{bit_at-lt}
use Rattle.ghash_core.specs.Field.{coefficient, reduction, one, by_u, by_power, low_product, product}

-- (a + b) + (c + d) = (a + c) + (b + d)
pub xor_swap : (a b c d : ℕ) → bit_xor (bit_xor a b) (bit_xor c d) ≡ bit_xor (bit_xor a c) (bit_xor b d)
xor_swap a b c d =
    xor_assoc a b (bit_xor c d)
    ∙ ap (bit_xor a) (sym (xor_assoc b c d) ∙ ap (λ x. bit_xor x d) (xor_comm b c) ∙ xor_assoc c b d)
    ∙ sym (xor_assoc a c (bit_xor b d))

-- a sum of two coefficients, times v
pub xor_scale : (p q v : ℕ) → p < 2 → q < 2 → bit_xor p q * v ≡ bit_xor (p * v) (q * v)
xor_scale zero q v _ small = grind (arith, xor_zero_l)
xor_scale (suc zero) zero v _ small = grind (arith, xor_zero_r)
xor_scale (suc zero) (suc zero) v _ small = grind (arith, xor_self)
xor_scale (suc zero) (suc (suc q)) v _ small = absurd (omega arith)
xor_scale (suc (suc p)) q v small _ = absurd (omega arith)

pub scale_xor : (p b c : ℕ) → p < 2 → p * bit_xor b c ≡ bit_xor (p * b) (p * c)
scale_xor zero b c _ = grind (arith, xor_zero_l)
scale_xor (suc zero) b c _ = grind arith
scale_xor (suc (suc p)) b c small = absurd (omega arith)

pub coefficient-lt : (a i : ℕ) → coefficient a i < 2
coefficient-lt a i = bit_at-lt a (127 - i)

pub coefficient-xor : (a b i : ℕ) → coefficient (bit_xor a b) i ≡ bit_xor (coefficient a i) (coefficient b i)
coefficient-xor a b i = rw (xor_shr a b (127 - i)) (xor_mod (a / 2 ^ (127 - i)) (b / 2 ^ (127 - i)) 1)

pub by_u-xor : (a b : ℕ) → by_u (bit_xor a b) ≡ bit_xor (by_u a) (by_u b)
unfolding by_u
by_u-xor a b =
    let low : bit_xor a b % 2 ≡ bit_xor (a % 2) (b % 2) = xor_mod a b 1 in
    let half : bit_xor a b / 2 ≡ bit_xor (a / 2) (b / 2) = xor_shr a b 1 in
    ap (λ x. bit_xor x (bit_xor a b % 2 * reduction)) half
    ∙ ap (λ x. bit_xor (bit_xor (a / 2) (b / 2)) (x * reduction)) low
    ∙ ap (bit_xor (bit_xor (a / 2) (b / 2))) (xor_scale (a % 2) (b % 2) reduction (omega arith) (omega arith))
    ∙ xor_swap (a / 2) (b / 2) (a % 2 * reduction) (b % 2 * reduction)

pub by_u-zero : by_u 0 ≡ 0
unfolding by_u
by_u-zero = refl

-- a coefficient comes out of a sum
pub by_u-scale : (p v : ℕ) → p < 2 → by_u (p * v) ≡ p * by_u v
by_u-scale zero v _ = grind (arith, by_u-zero)
by_u-scale (suc zero) v _ = grind arith
by_u-scale (suc (suc p)) v small = absurd (omega arith)

pub by_power-xor : (i a b : ℕ) → by_power i (bit_xor a b) ≡ bit_xor (by_power i a) (by_power i b)
unfolding by_power
by_power-xor zero a b = refl
by_power-xor (suc i) a b = ap by_u (by_power-xor i a b) ∙ by_u-xor (by_power i a) (by_power i b)

pub by_power-by_u : (i a : ℕ) → by_power i (by_u a) ≡ by_u (by_power i a)
unfolding by_power
by_power-by_u zero a = refl
by_power-by_u (suc i) a = ap by_u (by_power-by_u i a)

pub by_power-zero : (i : ℕ) → by_power i 0 ≡ 0
unfolding by_power
by_power-zero zero = refl
by_power-zero (suc i) = ap by_u (by_power-zero i) ∙ by_u-zero

pub by_power-scale : (i p v : ℕ) → p < 2 → by_power i (p * v) ≡ p * by_power i v
unfolding by_power
by_power-scale zero p v _ = refl
by_power-scale (suc i) p v small = ap by_u (by_power-scale i p v small) ∙ by_u-scale p (by_power i v) small

-- ---- linear in the second argument

pub low_product-xor_r : (n a b c : ℕ) → low_product n a (bit_xor b c) ≡ bit_xor (low_product n a b) (low_product n a c)
unfolding low_product
low_product-xor_r zero a b c = sym (xor_self 0)
low_product-xor_r (suc i) a b c =
    let p = coefficient a i in
    ap (λ x. bit_xor x (p * by_power i (bit_xor b c))) (low_product-xor_r i a b c)
    ∙ ap (bit_xor (bit_xor (low_product i a b) (low_product i a c)))
    (ap (λ x. p * x) (by_power-xor i b c) ∙ scale_xor p (by_power i b) (by_power i c) (coefficient-lt a i))
    ∙ xor_swap (low_product i a b) (low_product i a c) (p * by_power i b) (p * by_power i c)

pub low_product-by_u : (n a b : ℕ) → low_product n a (by_u b) ≡ by_u (low_product n a b)
unfolding low_product
low_product-by_u zero a b = sym by_u-zero
low_product-by_u (suc i) a b =
    let p = coefficient a i in
    ap (λ x. bit_xor x (p * by_power i (by_u b))) (low_product-by_u i a b)
    ∙ ap (bit_xor (by_u (low_product i a b)))
    (ap (λ x. p * x) (by_power-by_u i b) ∙ sym (by_u-scale p (by_power i b) (coefficient-lt a i)))
    ∙ sym (by_u-xor (low_product i a b) (p * by_power i b))

pub low_product-by_power : (n a i b : ℕ) → low_product n a (by_power i b) ≡ by_power i (low_product n a b)
unfolding by_power
low_product-by_power n a zero b = refl
low_product-by_power n a (suc i) b = low_product-by_u n a (by_power i b) ∙ ap by_u (low_product-by_power n a i b)

pub low_product-zero_r : (n a : ℕ) → low_product n a 0 ≡ 0
unfolding low_product
low_product-zero_r zero a = refl
low_product-zero_r (suc i) a =
    ap (λ x. bit_xor x (coefficient a i * by_power i 0)) (low_product-zero_r i a)
    ∙ ap (λ x. bit_xor 0 (coefficient a i * x)) (by_power-zero i) ∙ grind (arith, xor_self)

pub low_product-scale : (n a p b : ℕ) → p < 2 → low_product n a (p * b) ≡ p * low_product n a b
low_product-scale n a zero b _ =
    let none : 0 * b ≡ 0 = omega arith in
    let none' : 0 * low_product n a b ≡ 0 = omega arith in
    ap (low_product n a) none ∙ low_product-zero_r n a ∙ sym none'
low_product-scale n a (suc zero) b _ =
    let same : 1 * b ≡ b = omega arith in
    let same' : 1 * low_product n a b ≡ low_product n a b = omega arith in
    ap (low_product n a) same ∙ sym same'
low_product-scale n a (suc (suc p)) b small = absurd (omega arith)

-- two factors in either order
pub low_product-swap : (n a m b c : ℕ) → low_product n a (low_product m b c) ≡ low_product m b (low_product n a c)
unfolding low_product
low_product-swap n a zero b c = low_product-zero_r n a
low_product-swap n a (suc j) b c =
    let q = coefficient b j in
    low_product-xor_r n a (low_product j b c) (q * by_power j c)
    ∙ ap (λ x. bit_xor x (low_product n a (q * by_power j c))) (low_product-swap n a j b c)
    ∙ ap (bit_xor (low_product j b (low_product n a c)))
    (low_product-scale n a q (by_power j c) (coefficient-lt b j) ∙ ap (λ x. q * x) (low_product-by_power n a j c))

-- ---- linear in the first argument

pub low_product-xor_l : (n a b c : ℕ) → low_product n (bit_xor a b) c ≡ bit_xor (low_product n a c) (low_product n b c)
unfolding low_product
low_product-xor_l zero a b c = sym (xor_self 0)
low_product-xor_l (suc i) a b c =
    let p = coefficient a i in
    let q = coefficient b i in
    let v = by_power i c in
    ap (λ x. bit_xor x (coefficient (bit_xor a b) i * v)) (low_product-xor_l i a b c)
    ∙ ap (bit_xor (bit_xor (low_product i a c) (low_product i b c)))
    (ap (λ x. x * v) (coefficient-xor a b i) ∙ xor_scale p q v (coefficient-lt a i) (coefficient-lt b i))
    ∙ xor_swap (low_product i a c) (low_product i b c) (p * v) (q * v)

-- ---- the unit

pub by_u-pow : (k : ℕ) → by_u (2 ^ suc k) ≡ 2 ^ k
unfolding by_u
by_u-pow k =
    let half : 2 ^ suc k / 2 ≡ 2 ^ k = omega arith in
    let even : 2 ^ suc k % 2 ≡ 0 = omega arith in
    ap (λ x. bit_xor x (2 ^ suc k % 2 * reduction)) half
    ∙ ap (λ x. bit_xor (2 ^ k) (x * reduction)) even ∙ xor_zero_r (2 ^ k)

pub by_power-one : (i k : ℕ) → i + k ≡ 127 → by_power i one ≡ 2 ^ k
unfolding by_power
by_power-one zero k e = let last : 127 ≡ k = omega arith in ap (λ x. 2 ^ x) last
by_power-one (suc i) k e = ap by_u (by_power-one i (suc k) (omega arith)) ∙ by_u-pow k

-- a number's lowest bit comes last
pub lowest_last : (x : ℕ) → bit_xor (x / 2 * 2) (x % 2) ≡ x
lowest_last x =
    let split = xor_block 1 (x / 2) 0 0 (x % 2) (omega arith) (omega arith) in
    let left : x / 2 * 2 ^ 1 + 0 ≡ x / 2 * 2 = omega arith in
    let right : 0 * 2 ^ 1 + x % 2 ≡ x % 2 = omega arith in
    let high = xor_zero_r (x / 2) in
    let low = xor_zero_l (x % 2) in
    sym (ap (λ y. bit_xor y (0 * 2 ^ 1 + x % 2)) left ∙ ap (bit_xor (x / 2 * 2)) right)
    ∙ split ∙ omega (arith, high, low)

pub bit_last : (a k : ℕ) → bit_xor (a / 2 ^ suc k * 2 ^ suc k) (bit_at a k * 2 ^ k) ≡ a / 2 ^ k * 2 ^ k
bit_last a k =
    let x = a / 2 ^ k in
    let two : 2 ^ suc k ≡ 2 * 2 ^ k = omega arith in
    let half : a / 2 ^ suc k ≡ x / 2 = ap (λ n. a / 2 ^ n) (sym (add-one k)) ∙ sym (shr-shr a k 1) in
    let left : a / 2 ^ suc k * 2 ^ suc k ≡ x / 2 * 2 * 2 ^ k + 0 =
    ap (λ n. n * 2 ^ suc k) half ∙ ap (λ n. x / 2 * n) two ∙ sym (mul_assoc (x / 2) 2 (2 ^ k)) ∙ sym (add-zero _) in
    let right : bit_at a k * 2 ^ k ≡ x % 2 * 2 ^ k + 0 = sym (add-zero _) in
    ap (λ n. bit_xor n (bit_at a k * 2 ^ k)) left ∙ ap (bit_xor (x / 2 * 2 * 2 ^ k + 0)) right
    ∙ xor_block k (x / 2 * 2) (x % 2) 0 0 (pow_pos k) (pow_pos k)
    ∙ ap (λ n. n * 2 ^ k + bit_xor 0 0) (lowest_last x) ∙ add-zero _

pub low_product-one : (n k a : ℕ) → n + k ≡ 128 → a < 2 ^ 128 → low_product n a one ≡ a / 2 ^ k * 2 ^ k
unfolding low_product
low_product-one zero k a e small =
    let all : k ≡ 128 = omega arith in
    let none : a / 2 ^ 128 * 2 ^ 128 ≡ 0 = omega arith in
    sym (ap (λ n. a / 2 ^ n * 2 ^ n) all ∙ none)
low_product-one (suc i) k a e small =
    let place : 127 - i ≡ k = omega arith in
    ap (λ x. bit_xor x (coefficient a i * by_power i one)) (low_product-one i (suc k) a (omega arith) small)
    ∙ ap (λ x. bit_xor (a / 2 ^ suc k * 2 ^ suc k) (coefficient a i * x)) (by_power-one i k (omega arith))
    ∙ ap (λ x. bit_xor (a / 2 ^ suc k * 2 ^ suc k) (bit_at a x * 2 ^ k)) place
    ∙ bit_last a k

-- ---- the laws of the product

pub one-product : (a : ℕ) → a < 2 ^ 128 → product a one ≡ a
unfolding product
one-product a small = low_product-one 128 0 a refl small ∙ omega arith

pub product-comm : (a b : ℕ) → a < 2 ^ 128 → b < 2 ^ 128 → product a b ≡ product b a
unfolding product
product-comm a b p q =
    ap (low_product 128 a) (sym (one-product b q))
    ∙ low_product-swap 128 a 128 b one
    ∙ ap (low_product 128 b) (one-product a p)

pub by_u-lt : (a : ℕ) → a < 2 ^ 128 → by_u a < 2 ^ 128
unfolding by_u
by_u-lt a small = xor_lt 128 (a / 2) (a % 2 * reduction) (omega arith) (omega arith)

pub by_power-lt : (i a : ℕ) → a < 2 ^ 128 → by_power i a < 2 ^ 128
unfolding by_power
by_power-lt zero a small = small
by_power-lt (suc i) a small = by_u-lt (by_power i a) (by_power-lt i a small)

pub scale-lt : (p v m : ℕ) → p < 2 → v < m → p * v < m
scale-lt zero v m _ h = omega arith
scale-lt (suc zero) v m _ h = omega arith
scale-lt (suc (suc p)) v m small h = absurd (omega arith)

pub low_product-lt : (n a b : ℕ) → b < 2 ^ 128 → low_product n a b < 2 ^ 128
unfolding low_product
low_product-lt zero a b small = pow_pos 128
low_product-lt (suc i) a b small =
    xor_lt 128 (low_product i a b) (coefficient a i * by_power i b) (low_product-lt i a b small)
    (scale-lt (coefficient a i) (by_power i b) (2 ^ 128) (coefficient-lt a i) (by_power-lt i b small))

pub product-lt : (a b : ℕ) → b < 2 ^ 128 → product a b < 2 ^ 128
unfolding product
product-lt a b small = low_product-lt 128 a b small

pub product-assoc : (a b c : ℕ) → b < 2 ^ 128 → c < 2 ^ 128 → product (product a b) c ≡ product a (product b c)
unfolding product
product-assoc a b c q r =
    product-comm (product a b) c (product-lt a b q) r
    ∙ low_product-swap 128 c 128 a b
    ∙ ap (product a) (product-comm c b r q)

pub product-xor_l : (a b c : ℕ) → product (bit_xor a b) c ≡ bit_xor (product a c) (product b c)
unfolding product
product-xor_l a b c = low_product-xor_l 128 a b c

pub product-xor_r : (a b c : ℕ) → product a (bit_xor b c) ≡ bit_xor (product a b) (product a c)
unfolding product
product-xor_r a b c = low_product-xor_r 128 a b c

-- ---- the loop of the product

pub low_product-more : (i a b : ℕ) → low_product (i + 1) a b ≡ bit_xor (low_product i a b) (coefficient a i * by_power i b)
unfolding low_product
low_product-more i a b = rw add-one

pub by_power-more : (i a : ℕ) → by_power (i + 1) a ≡ by_u (by_power i a)
unfolding by_power
by_power-more i a = rw add-one

pub low_product-none : (a b : ℕ) → low_product 0 a b ≡ 0
unfolding low_product
low_product-none a b = refl

pub by_power-none : (a : ℕ) → by_power 0 a ≡ a
unfolding by_power
by_power-none a = refl

pub product-whole : (a b : ℕ) → product a b ≡ low_product 128 a b
unfolding product
product-whole a b = refl

-- 0 - p at 128 bits has all bits where p is 1
pub mask_is : (p a : ℕ) → p < 2 → a < 2 ^ 128 → bit_and ((0 + (2 ^ 128 - p)) % 2 ^ 128) a ≡ p * a
mask_is zero a _ small = omega arith
mask_is (suc zero) a _ small = and_comm (2 ^ 128 - 1) a ∙ and_mask a 128 ∙ omega arith
mask_is (suc (suc p)) a below small = absurd (omega arith)

pub ruleset product_steps = (low_product-more, by_power-more, low_product-none, by_power-none, product-whole, xor_zero_r)

pub ruleset mask_facts = (mask_is)

pub ruleset product_laws = (product-comm, product-assoc, product-xor_r, one-product)
