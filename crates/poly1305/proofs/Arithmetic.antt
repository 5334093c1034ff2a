-- Products modulo 2^130 - 5.
use Rattle.std.proofs.Common.{◌≡◌, ◌<◌, ◌+◌, ◌*◌, ◌/◌, ◌%◌, ◌^◌, ℕ, suc, List, [], ◌∷◌, ◌++◌, length, bit_and, sym, ◌∙◌, ap, refl, arith, add-one}
use Rattle.std.proofs.lemmas.Nat.{mul-mod_first, and_mod, and_shr, and_le_r}
use Rattle.std.proofs.Math.Nat.{pow-zero}
use Rattle.std.specs.Int.Bits.{and_zero_r}
use Rattle.std.proofs.lemmas.Grind.{pow_more}
use Rattle.poly1305.specs.Poly1305.{prime, polynomial}
use Rattle.poly1305.specs.Limbs.{sum_after}

-- a multiple more leaves the remainder
pub mod-more : (a m : ℕ) → (a + m * prime) % prime ≡ a % prime
mod-more a m = omega arith

-- the product by limbs; r1 is 4 k
pub product_is : (x y z r0 k : ℕ)
    → (x + y * 2 ^ 64 + z * 2 ^ 128) * (r0 + 4 * k * 2 ^ 64)
    ≡ (x * r0 + y * (5 * k)) + (x * (4 * k) + y * r0 + z * (5 * k)) * 2 ^ 64 + z * r0 * 2 ^ 128
    + (y * k + z * k * 2 ^ 64) * prime
product_is x y z r0 k = omega arith

-- the product of a sum, by limbs, and a factor whose second limb is f at 5/4 of its worth
pub times_is : (w z r0 r1 f x y p1 p2 p3 p4 p5 : ℕ) → 4 * f ≡ 5 * r1 → x ≡ w % 2 ^ 64 → y ≡ w / 2 ^ 64
    → p1 ≡ x * r0 → p2 ≡ y * f → p3 ≡ x * r1 → p4 ≡ y * r0 → p5 ≡ z * f
    → ((p1 + p2) + (p3 + p4 + p5) * 2 ^ 64 + z * r0 * 2 ^ 128) % prime ≡ ((w + z * 2 ^ 128) * (r0 + r1 * 2 ^ 64)) % prime
times_is w z r0 r1 f x y p1 p2 p3 p4 p5 same low high e1 e2 e3 e4 e5 =
    let k = r1 / 4 in
    let of_r1 : r1 ≡ 4 * k = omega arith in
    let of_f : f ≡ 5 * k = omega arith in
    let word : w ≡ x + y * 2 ^ 64 = omega arith in
    let m = y * k + z * k * 2 ^ 64 in
    let v = (x * r0 + y * (5 * k)) + (x * (4 * k) + y * r0 + z * (5 * k)) * 2 ^ 64 + z * r0 * 2 ^ 128 in
    let e2' : p2 ≡ y * (5 * k) = e2 ∙ ap (λ t. y * t) of_f in
    let e3' : p3 ≡ x * (4 * k) = e3 ∙ ap (λ t. x * t) of_r1 in
    let e5' : p5 ≡ z * (5 * k) = e5 ∙ ap (λ t. z * t) of_f in
    let sum : (p1 + p2) + (p3 + p4 + p5) * 2 ^ 64 + z * r0 * 2 ^ 128 ≡ v =
    (λ i. (e1 i + e2' i) + (e3' i + e4 i + e5' i) * 2 ^ 64 + z * r0 * 2 ^ 128) in
    ap (λ t. t % prime) sum ∙ sym (mod-more v m)
    ∙ ap (λ t. t % prime) (sym (product_is x y z r0 k))
    ∙ (λ i. ((sym word i + z * 2 ^ 128) * (r0 + sym of_r1 i * 2 ^ 64)) % prime)

-- ---- clamped numbers

abbrev mask : ℕ
mask = 0x0ffffffc0ffffffc0ffffffc0fffffff

pub clamped_low : (n : ℕ) → bit_and n mask % 2 ^ 64 < 2 ^ 60
clamped_low n =
    let e = and_mod n mask 64 in
    let bound = and_le_r (n % 2 ^ 64) (mask % 2 ^ 64) in
    omega (arith, e, bound)

pub clamped_high : (n : ℕ) → bit_and n mask / 2 ^ 64 < 2 ^ 60
clamped_high n =
    let e = and_shr n mask 64 in
    let bound = and_le_r (n / 2 ^ 64) (mask / 2 ^ 64) in
    omega (arith, e, bound)

pub clamped_four : (n : ℕ) → bit_and n mask / 2 ^ 64 % 4 ≡ 0
clamped_four n =
    ap (λ x. x % 4) (and_shr n mask 64) ∙ and_mod (n / 2 ^ 64) (mask / 2 ^ 64) 2 ∙ and_zero_r (n / 2 ^ 64 % 2 ^ 2)

-- ---- sums

pub sum_after-mod : (r a b : ℕ) (cs : List ℕ) → a % prime ≡ b % prime → sum_after r a cs % prime ≡ sum_after r b cs % prime
unfolding sum_after
sum_after-mod r a b [] same = same
sum_after-mod r a b (c ∷ cs) same =
    let more : (a + c) % prime ≡ (b + c) % prime = omega arith in
    sum_after-mod r ((a + c) * r) ((b + c) * r) cs
    (sym (mul-mod_first (a + c) r prime) ∙ ap (λ x. x * r % prime) more ∙ mul-mod_first (b + c) r prime)

pub sum_after-append : (r a : ℕ) (cs ds : List ℕ) → sum_after r a (cs ++ ds) ≡ sum_after r (sum_after r a cs) ds
unfolding sum_after
sum_after-append r a [] ds = refl
sum_after-append r a (c ∷ cs) ds = sum_after-append r ((a + c) * r) cs ds

sum_after-is : (r a : ℕ) (cs : List ℕ) → sum_after r a cs ≡ a * r ^ length cs + polynomial r cs
unfolding sum_after polynomial
sum_after-is r a [] = omega (arith, ap (λ x. a * x) (pow-zero r))
sum_after-is r a (c ∷ cs) =
    let n = length cs in
    let power : r ^ (n + 1) ≡ r ^ n * r = pow_more r n in
    let power' : r ^ suc n ≡ r ^ n * r = ap (λ k. r ^ k) (sym (add-one n)) ∙ power in
    let of_a : a * r ^ suc n ≡ a * (r ^ n * r) = ap (λ x. a * x) power' in
    let of_c : c * r ^ (n + 1) ≡ c * (r ^ n * r) = ap (λ x. c * x) power in
    sum_after-is r ((a + c) * r) cs ∙ omega arith

pub sum_after-polynomial : (r : ℕ) (cs : List ℕ) → sum_after r 0 cs ≡ polynomial r cs
sum_after-polynomial r cs = sum_after-is r 0 cs ∙ omega arith

-- a step of the RFC
pub step : (r a c v : ℕ) (cs : List ℕ) → v % prime ≡ ((a + c) * r) % prime
    → sum_after r v cs % prime ≡ sum_after r a (c ∷ cs) % prime
unfolding sum_after
step r a c v cs same = sum_after-mod r v ((a + c) * r) cs same

-- the last step
pub last_step : (r a c v : ℕ) → v % prime ≡ ((a + c) * r) % prime → v % prime ≡ sum_after r a (c ∷ []) % prime
unfolding sum_after
last_step r a c v same = same

pub sum_after-none : (r a : ℕ) → sum_after r a [] ≡ a
unfolding sum_after
sum_after-none r a = refl
