-- Powers of u: of blocks that end in zeros, and beside products.
use Rattle.std.proofs.Common.{◌≡◌, ◌<◌, ◌+◌, ◌*◌, ◌/◌, ◌%◌, ◌^◌, ℕ, zero, suc, bit_xor, sym, ◌∙◌, ap, arith, add-zero}
use Rattle.std.proofs.Math.Nat.{mul_assoc}
use Rattle.std.specs.Int.Bits.{xor_self, xor_zero_l, xor_zero_r}
use Rattle.std.proofs.lemmas.Nat.{xor_block, pow_pos}
use Rattle.ghash_core.specs.Field.{reduction, by_u, by_power, product}
use Rattle.ghash_core.proofs.Linear.{by_power-lt, product-xor_l, product-comm, low_product-by_power}

-- u times a block whose last bit is 0
by_u-even : (a : ℕ) → by_u (a * 2) ≡ a
unfolding by_u
by_u-even a =
    let half : a * 2 / 2 ≡ a = omega arith in
    let even : a * 2 % 2 ≡ 0 = omega arith in
    ap (λ x. bit_xor x (a * 2 % 2 * reduction)) half ∙ ap (λ x. bit_xor a (x * reduction)) even ∙ xor_zero_r a

pow-suc : (n : ℕ) → 2 ^ suc n ≡ 2 * 2 ^ n
pow-suc n = omega arith

-- u^n times a block whose last n bits are 0
pub by_power-even : (n a : ℕ) → by_power n (a * 2 ^ n) ≡ a
unfolding by_power
by_power-even zero a = omega arith
by_power-even (suc n) a =
    let two : a * 2 ^ suc n ≡ a * 2 * 2 ^ n = ap (λ m. a * m) (pow-suc n) ∙ sym (mul_assoc a 2 (2 ^ n)) in
    ap (λ x. by_u (by_power n x)) two ∙ ap by_u (by_power-even n (a * 2)) ∙ by_u-even a

pub by_power-add : (m n a : ℕ) → by_power m (by_power n a) ≡ by_power (m + n) a
unfolding by_power
by_power-add zero n a = let same : n ≡ 0 + n = omega arith in ap (λ k. by_power k a) same
by_power-add (suc m) n a =
    let more : suc (m + n) ≡ suc m + n = omega arith in
    ap by_u (by_power-add m n a) ∙ ap (λ k. by_power k a) more

-- a number in two parts
pub low_high : (k a r : ℕ) → r < 2 ^ k → bit_xor (a * 2 ^ k) r ≡ a * 2 ^ k + r
low_high k a r small =
    let left : a * 2 ^ k ≡ a * 2 ^ k + 0 = sym (add-zero (a * 2 ^ k)) in
    let right : r ≡ 0 * 2 ^ k + r = omega arith in
    ap (λ x. bit_xor x r) left ∙ ap (bit_xor (a * 2 ^ k + 0)) right
    ∙ xor_block k a 0 0 r (pow_pos k) small
    ∙ ap (λ x. x * 2 ^ k + bit_xor 0 r) (xor_zero_r a) ∙ ap (λ x. a * 2 ^ k + x) (xor_zero_l r)

pub xor_shl : (k a b : ℕ) → bit_xor (a * 2 ^ k) (b * 2 ^ k) ≡ bit_xor a b * 2 ^ k
xor_shl k a b =
    ap (λ x. bit_xor x (b * 2 ^ k)) (sym (add-zero (a * 2 ^ k))) ∙ ap (bit_xor (a * 2 ^ k + 0)) (sym (add-zero (b * 2 ^ k)))
    ∙ xor_block k a b 0 0 (pow_pos k) (pow_pos k) ∙ add-zero (bit_xor a b * 2 ^ k)

-- u^n goes into the first factor
pub by_power-product : (n a h : ℕ) → a < 2 ^ 128 → h < 2 ^ 128 → by_power n (product a h) ≡ product (by_power n a) h
unfolding product
by_power-product n a h p q =
    ap (by_power n) (product-comm a h p q)
    ∙ sym (low_product-by_power 128 h n a)
    ∙ product-comm h (by_power n a) q (by_power-lt n a p)

pub product-zero : (h : ℕ) → product 0 h ≡ 0
product-zero h = product-xor_l 0 0 h ∙ xor_self (product 0 h)

-- a bit comes out of the first factor
pub product-scale : (p a h : ℕ) → p < 2 → product (p * a) h ≡ p * product a h
product-scale zero a h _ =
    let none : 0 * a ≡ 0 = omega arith in
    let none' : 0 * product a h ≡ 0 = omega arith in
    ap (λ x. product x h) none ∙ product-zero h ∙ sym none'
product-scale (suc zero) a h _ =
    let same : 1 * a ≡ a = omega arith in
    let same' : 1 * product a h ≡ product a h = omega arith in
    ap (λ x. product x h) same ∙ sym same'
product-scale (suc (suc p)) a h small = absurd (omega arith)
