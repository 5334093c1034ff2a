-- Strings of bytes as elements of the field.
use Rattle.std.proofs.Common.{◌≡◌, ◌<◌, ◌≤◌, ◌+◌, ◌-◌, ◌*◌, ◌/◌, ◌%◌, ◌^◌, ℕ, zero, suc, List, [], ◌∷◌, ◌++◌, length, get_or, replicate, bit_xor, sym, subst, ◌∙◌, ap, refl, arith, Fits, w8}
use Rattle.std.proofs.Math.Nat.{mul_assoc, zero-add}
use Rattle.std.specs.Int.{byte_at, bytes_high_first, bytes_low_first, w128, to_le_bytes}
use Rattle.std.specs.Int.Bits.{xor_assoc, xor_self, xor_zero_l, xor_zero_r}
use Rattle.std.specs.List.{range_with_len}
use Rattle.std.specs.Simd.Lanes.{zip2, Each1, pick_l}
use Rattle.std.proofs.lemmas.List.{length-append, length-replicate}
use Rattle.std.proofs.lemmas.Nat.{div-mul-add, pow-add, mod-pow-add, mod_below, mul-add-lt, pow_pos, xor_lt, xor_mod, xor_shr}
use Rattle.std.proofs.lemmas.Simd.{Each1-from_get_or, pick_l_whole}
use Rattle.ghash_core.specs.Field.{by_u, by_power}
use Rattle.ghash_core.specs.Hash.{block_of, block_bytes}
use Rattle.ghash_core.specs.Rows.{element}
use Rattle.ghash_core.proofs.Linear.{xor_swap, by_power-xor, by_power-zero, by_power-lt}
use Rattle.ghash_core.proofs.Sums.{get_or-zeros, block_of-padded}
use Rattle.ghash_core.proofs.PowersOfU.{by_power-even, by_power-add, low_high, xor_shl}

abbrev pub AreBytes : List ℕ → Type 0
AreBytes bs = Each1 (λ b. b < 256) bs

-- what is known of a slice of bytes
pub are_bytes : (bs : List ℕ) → ((i : ℕ) → Fits w8 (get_or bs i 0)) → AreBytes bs
are_bytes bs fit = Each1-from_get_or (λ b. b < 256) bs 0 (λ i within. (fit i).fits)

-- ---- bytes of a number

pow-256 : (j : ℕ) → 256 ^ j ≡ 2 ^ (8 * j)
pow-256 zero = refl
pow-256 (suc j) =
    let one : 256 ^ suc j ≡ 2 ^ 8 * 256 ^ j = omega arith in
    let more : 8 + 8 * j ≡ 8 * suc j = omega arith in
    one ∙ ap (λ x. 2 ^ 8 * x) (pow-256 j) ∙ sym (pow-add 2 8 (8 * j)) ∙ ap (λ k. 2 ^ k) more

pub byte_at_is : (j n : ℕ) → byte_at j n ≡ n / 2 ^ (8 * j) % 2 ^ 8
byte_at_is zero n = omega arith
byte_at_is (suc j) n = ap (λ m. n / m % 256) (pow-256 (suc j))

pub byte_at-xor : (j a b : ℕ) → byte_at j (bit_xor a b) ≡ bit_xor (byte_at j a) (byte_at j b)
byte_at-xor j a b =
    let m = 8 * j in
    byte_at_is j (bit_xor a b)
    ∙ ap (λ x. x % 2 ^ 8) (xor_shr a b m) ∙ xor_mod (a / 2 ^ m) (b / 2 ^ m) 8
    ∙ sym (ap (λ x. bit_xor x (byte_at j b)) (byte_at_is j a) ∙ ap (bit_xor (a / 2 ^ m % 2 ^ 8)) (byte_at_is j b))

pub byte_at-zero : (j : ℕ) → byte_at j 0 ≡ 0
byte_at-zero zero = refl
byte_at-zero (suc j) = byte_at_is (suc j) 0 ∙ omega arith

pub byte_at-scale : (j p a : ℕ) → p < 2 → byte_at j (p * a) ≡ p * byte_at j a
byte_at-scale j zero a _ =
    let none : 0 * a ≡ 0 = omega arith in
    let none' : 0 * byte_at j a ≡ 0 = omega arith in
    ap (byte_at j) none ∙ byte_at-zero j ∙ sym none'
byte_at-scale j (suc zero) a _ =
    let same : 1 * a ≡ a = omega arith in
    let same' : 1 * byte_at j a ≡ byte_at j a = omega arith in
    ap (byte_at j) same ∙ sym same'
byte_at-scale j (suc (suc p)) a small = absurd (omega arith)

get_or-bytes_low_first : (i k n j : ℕ) → j < k → get_or (bytes_low_first i k n) j 0 ≡ byte_at (i + j) n
get_or-bytes_low_first i zero n j within = absurd (omega arith)
get_or-bytes_low_first i (suc k) n zero within =
    let same : i ≡ i + 0 = omega arith in ap (λ m. byte_at m n) same
get_or-bytes_low_first i (suc k) n (suc j) within =
    let next : suc i + j ≡ i + suc j = omega arith in
    get_or-bytes_low_first (suc i) k n j (omega arith) ∙ ap (λ m. byte_at m n) next

pub get_or-to_le_bytes : (n j : ℕ) → j < 16 → get_or (to_le_bytes w128 n) j 0 ≡ byte_at j n
get_or-to_le_bytes n j within = get_or-bytes_low_first 0 16 n j within ∙ ap (λ m. byte_at m n) (zero-add j)

-- ---- the element

pub element-first : (b : ℕ) (bs : List ℕ) → element (b ∷ bs) ≡ bit_xor (b * 2 ^ 120) (by_power 8 (element bs))
unfolding element
element-first b bs = refl

pub element-lt : (bs : List ℕ) → AreBytes bs → element bs < 2 ^ 128
unfolding element
element-lt [] small = omega arith
element-lt (b ∷ bs) small =
    let first : b < 256 = small.0 in
    xor_lt 128 (b * 2 ^ 120) (by_power 8 (element bs)) (omega arith) (by_power-lt 8 (element bs) (element-lt bs small.1))

pub element-zeros : element (replicate 16 0) ≡ 0
unfolding element by_power by_u
element-zeros = refl

-- after a byte 0
pub element-moved : (bs : List ℕ) → element (0 ∷ bs) ≡ by_power 8 (element bs)
unfolding element
element-moved bs = xor_zero_l (by_power 8 (element bs))

pub element-zip2 : (xs ys : List ℕ) → length xs ≡ length ys → element (zip2 bit_xor xs ys) ≡ bit_xor (element xs) (element ys)
unfolding element
element-zip2 [] [] same = sym (xor_self 0)
element-zip2 [] (y ∷ ys) same = absurd (omega arith)
element-zip2 (x ∷ xs) [] same = absurd (omega arith)
element-zip2 (x ∷ xs) (y ∷ ys) same =
    let a = x * 2 ^ 120 in
    let b = y * 2 ^ 120 in
    ap (λ z. bit_xor z (by_power 8 (element (zip2 bit_xor xs ys)))) (sym (xor_shl 120 x y))
    ∙ ap (bit_xor (bit_xor a b)) (ap (by_power 8) (element-zip2 xs ys (omega arith)) ∙ by_power-xor 8 (element xs) (element ys))
    ∙ xor_swap a b (by_power 8 (element xs)) (by_power 8 (element ys))

-- one byte more
pub element-push : (bs : List ℕ) (b : ℕ) → element (bs ++ b ∷ []) ≡ bit_xor (element bs) (by_power (8 * length bs) (b * 2 ^ 120))
unfolding element by_power
element-push [] b =
    ap (bit_xor (b * 2 ^ 120)) (by_power-zero 8) ∙ xor_zero_r (b * 2 ^ 120) ∙ sym (xor_zero_l (b * 2 ^ 120))
element-push (a ∷ bs) b =
    let n = 8 * length bs in
    let more : 8 + n ≡ 8 * length (a ∷ bs) = omega arith in
    ap (λ x. bit_xor (a * 2 ^ 120) (by_power 8 x)) (element-push bs b)
    ∙ ap (bit_xor (a * 2 ^ 120)) (by_power-xor 8 (element bs) (by_power n (b * 2 ^ 120))
    ∙ ap (bit_xor (by_power 8 (element bs))) (by_power-add 8 n (b * 2 ^ 120) ∙ ap (λ k. by_power k (b * 2 ^ 120)) more))
    ∙ sym (xor_assoc (a * 2 ^ 120) (by_power 8 (element bs)) (by_power (8 * length (a ∷ bs)) (b * 2 ^ 120)))

-- ---- bytes of a block

-- a byte before m bits that begin a block
joined : (m b r : ℕ) → m ≤ 120 → r < 2 ^ m → bit_xor (b * 2 ^ 120) (by_power 8 (r * 2 ^ (128 - m))) ≡ (b * 2 ^ m + r) * 2 ^ (120 - m)
joined m b r within small =
    let p = 120 - m in
    let e1 : 128 - m ≡ p + 8 = omega arith in
    let e2 : m + p ≡ 120 = omega arith in
    let moved : by_power 8 (r * 2 ^ (128 - m)) ≡ r * 2 ^ p =
    ap (λ i. by_power 8 (r * 2 ^ i)) e1 ∙ ap (λ x. by_power 8 (r * x)) (pow-add 2 p 8) ∙ ap (by_power 8) (sym (mul_assoc r (2 ^ p) (2 ^ 8)))
    ∙ by_power-even 8 (r * 2 ^ p) in
    let front : b * 2 ^ 120 ≡ b * 2 ^ m * 2 ^ p =
    ap (λ i. b * 2 ^ i) (sym e2) ∙ ap (λ x. b * x) (pow-add 2 m p) ∙ sym (mul_assoc b (2 ^ m) (2 ^ p)) in
    ap (bit_xor (b * 2 ^ 120)) moved ∙ ap (λ x. bit_xor x (r * 2 ^ p)) front
    ∙ xor_shl p (b * 2 ^ m) r ∙ ap (λ x. x * 2 ^ p) (low_high m b r small)

-- the lowest k bytes of a number
element-bytes : (k n : ℕ) → k ≤ 16 → element (bytes_high_first k n) ≡ n % 2 ^ (8 * k) * 2 ^ (128 - 8 * k)
unfolding element
element-bytes zero n within = omega arith
element-bytes (suc k) n within =
    let m = 8 * k in
    let r = n % 2 ^ m in
    let more : 8 + m ≡ 8 * suc k = omega arith in
    let less : 120 - m ≡ 128 - 8 * suc k = omega arith in
    ap (λ x. bit_xor (x * 2 ^ 120) (by_power 8 (element (bytes_high_first k n)))) (byte_at_is k n)
    ∙ ap (λ x. bit_xor (n / 2 ^ m % 2 ^ 8 * 2 ^ 120) (by_power 8 x)) (element-bytes k n (omega arith))
    ∙ joined m (n / 2 ^ m % 2 ^ 8) r (omega arith) (mod_below n (2 ^ m) (pow_pos m))
    ∙ ap (λ x. x * 2 ^ (120 - m)) (sym (mod-pow-add n 8 m))
    ∙ ap (λ i. n % 2 ^ i * 2 ^ (120 - m)) more ∙ ap (λ i. n % 2 ^ (8 * suc k) * 2 ^ i) less

-- all bytes of a block
pub element-block_bytes : (a : ℕ) → a < 2 ^ 128 → element (block_bytes a) ≡ a
unfolding block_bytes
element-block_bytes a small = element-bytes 16 a (omega arith) ∙ omega arith

-- the number that bytes spell, the highest first
number : List ℕ → ℕ
number [] = 0
number (b ∷ bs) = b * 2 ^ (8 * length bs) + number bs

number-lt : (bs : List ℕ) → AreBytes bs → number bs < 2 ^ (8 * length bs)
unfolding number
number-lt [] small = omega arith
number-lt (b ∷ bs) small =
    let m = 8 * length bs in
    let first : b < 256 = small.0 in
    let all = mul-add-lt b (2 ^ m) (number bs) 256 first (number-lt bs small.1) in
    let more : m + 8 ≡ 8 * length (b ∷ bs) = omega arith in
    let limit : 2 ^ m * 2 ^ 8 ≡ 2 ^ (8 * length (b ∷ bs)) = sym (pow-add 2 m 8) ∙ ap (λ k. 2 ^ k) more in
    subst (λ x. b * 2 ^ m + number bs < x) limit all

element-number : (bs : List ℕ) → length bs ≤ 16 → AreBytes bs → element bs ≡ number bs * 2 ^ (128 - 8 * length bs)
unfolding element number
element-number [] within small = omega arith
element-number (b ∷ bs) within small =
    let m = 8 * length bs in
    let less : 120 - m ≡ 128 - 8 * length (b ∷ bs) = omega arith in
    ap (λ x. bit_xor (b * 2 ^ 120) (by_power 8 x)) (element-number bs (omega arith) small.1)
    ∙ joined m b (number bs) (omega arith) (number-lt bs small.1)
    ∙ ap (λ i. (b * 2 ^ m + number bs) * 2 ^ i) less

spelt : (bs : List ℕ) → number (pick_l 0 bs (range_with_len 0 16)) ≡ block_of bs
unfolding number block_of
spelt bs = omega arith

pub element-block : (bs : List ℕ) → length bs ≡ 16 → AreBytes bs → element bs ≡ block_of bs
element-block bs long small =
    let none : 128 - 8 * length bs ≡ 0 = omega arith in
    element-number bs (omega arith) small ∙ ap (λ i. number bs * 2 ^ i) none ∙ omega arith
    ∙ ap number (sym (pick_l_whole 0 bs 16 long)) ∙ spelt bs

-- the bytes of what bytes spell, whatever stands before them
spelt_back : (bs : List ℕ) (m : ℕ) → AreBytes bs → bytes_high_first (length bs) (m * 2 ^ (8 * length bs) + number bs) ≡ bs
unfolding number
spelt_back [] m small = refl
spelt_back (b ∷ bs) m small =
    let k = length bs in
    let s = 2 ^ (8 * k) in
    let n = (m * 256 + b) * s + number bs in
    let first : b < 256 = small.0 in
    let all : 2 ^ (8 * length (b ∷ bs)) ≡ s * 2 ^ 8 = ap (λ i. 2 ^ i) (omega arith) ∙ pow-add 2 (8 * k) 8 in
    let split : m * 2 ^ (8 * length (b ∷ bs)) + number (b ∷ bs) ≡ n = ap (λ x. m * x + (b * s + number bs)) all ∙ grind arith in
    let high : n / s ≡ m * 256 + b = div-mul-add (m * 256 + b) s (number bs) (number-lt bs small.1) in
    let here : byte_at k n ≡ b = byte_at_is k n ∙ ap (λ x. x % 2 ^ 8) high ∙ omega arith in
    ap (bytes_high_first (suc k)) split ∙ ap (λ x. x ∷ bytes_high_first k n) here ∙ ap (λ xs. b ∷ xs) (spelt_back bs (m * 256 + b) small.1)

pub block_bytes-element : (bs : List ℕ) → length bs ≡ 16 → AreBytes bs → block_bytes (element bs) ≡ bs
unfolding block_bytes
block_bytes-element bs long small =
    let none : 128 - 8 * length bs ≡ 0 = omega arith in
    let is : element bs ≡ number bs = element-number bs (omega arith) small ∙ ap (λ i. number bs * 2 ^ i) none ∙ omega arith in
    let none_before : number bs ≡ 0 * 2 ^ (8 * length bs) + number bs = omega arith in
    ap (bytes_high_first 16) is ∙ ap (λ k. bytes_high_first k (number bs)) (sym long)
    ∙ ap (bytes_high_first (length bs)) none_before ∙ spelt_back bs 0 small

-- the same where the bytes end early and zeros follow
pub element-padded : (bs : List ℕ) (n : ℕ) → length bs + n ≡ 16 → ((i : ℕ) → Fits w8 (get_or bs i 0)) → element (bs ++ replicate n 0) ≡ block_of bs
element-padded bs n long fit =
    let all = bs ++ replicate n 0 in
    element-block all (omega (arith, length-append bs (replicate n 0), length-replicate {A = ℕ} n 0))
    (are_bytes all (λ i. subst (Fits w8) (sym (get_or-zeros bs n i)) (fit i)))
    ∙ block_of-padded bs n
