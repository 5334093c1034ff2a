-- Eight blocks turned into eight states by bits, and back.
use Rattle.std.proofs.Common.{◌≡◌, ℕ, zero, suc, ◌+◌, ◌-◌, ◌*◌, ◌/◌, ◌%◌, ◌^◌, ◌<◌, min, List, [], ◌∷◌, length, get_or, map, replicate, bit_xor, bit_and, refl, sym, ap, ◌∙◌, arith, w8, Fits}
use Rattle.std.specs.List.{range_with_len}
use Rattle.std.specs.Int.{bit_at}
use Rattle.std.proofs.Math.Nat.{zero-add}
use Rattle.std.proofs.lemmas.List.FromFn.{get_or-map-range_with_len}
use Rattle.std.proofs.lemmas.Simd.{length-zip2, get_or-zip2, Each1-get_or}
use Rattle.std.proofs.lemmas.Nat.Bits.{bit_at_xor, bit_at_and, bit_at-lt}
use Rattle.std.proofs.lemmas.Nat.{xor_lt, and_le_r}
use lib.Lanes.{Each1, zip2}
use Rattle.aes_block.specs.Sliced.{bit_of, gathered, state_at, moved, lane_of, IsState, AreBytes, lower, upper, place}
use Rattle.aes_block.proofs.Circuit.{gathered_from, gathered_bit, gathered-lt}
use Rattle.aes_block.proofs.States.{eight, lane-lt, map_same, byte_same}

-- ---- lists of lanes

abbrev up : ℕ → ℕ → ℕ
up a b = a * 2 ^ b % 2 ^ 8

abbrev down : ℕ → ℕ → ℕ
down a b = a / 2 ^ b

pub lower_is : (a b : List ℕ) (k n m : ℕ) → length a ≡ k → length b ≡ k
    → zip2 bit_xor (zip2 bit_and a (replicate k m)) (zip2 up (zip2 bit_and b (replicate k m)) (replicate k n)) ≡ zip2 (lower n m) a b
lower_is [] b k n m e f = refl
lower_is (x ∷ a) [] k n m e f = absurd (omega arith)
lower_is (x ∷ a) (y ∷ b) zero n m e f = absurd (omega arith)
lower_is (x ∷ a) (y ∷ b) (suc k) n m e f = ap (λ zs. lower n m x y ∷ zs) (lower_is a b k n m (omega arith) (omega arith))

pub upper_is : (a b : List ℕ) (k n m : ℕ) → length a ≡ k → length b ≡ k
    → zip2 bit_xor (zip2 bit_and (zip2 down a (replicate k n)) (replicate k m)) (zip2 bit_and b (zip2 bit_xor (replicate k m) (replicate k 255))) ≡ zip2 (upper n m) a b
upper_is [] b k n m e f = refl
upper_is (x ∷ a) [] k n m e f = absurd (omega arith)
upper_is (x ∷ a) (y ∷ b) zero n m e f = absurd (omega arith)
upper_is (x ∷ a) (y ∷ b) (suc k) n m e f = ap (λ zs. upper n m x y ∷ zs) (upper_is a b k n m (omega arith) (omega arith))

-- ---- one lane

lower-lt : (n m a b : ℕ) → m < 256 → lower n m a b < 256
lower-lt n m a b small = xor_lt 8 (bit_and a m) (bit_and b m * 2 ^ n % 2 ^ 8) (omega (arith, and_le_r a m)) (omega arith)

upper-lt : (n m a b : ℕ) → m < 256 → upper n m a b < 256
upper-lt n m a b small =
    let other : bit_xor m (2 ^ 8 - 1) < 256 = xor_lt 8 m (2 ^ 8 - 1) small (omega arith) in
    xor_lt 8 (bit_and (a / 2 ^ n) m) (bit_and b (bit_xor m (2 ^ 8 - 1))) (omega (arith, and_le_r (a / 2 ^ n) m)) (omega (arith, other, and_le_r b (bit_xor m (2 ^ 8 - 1))))

bit_there : (a m i : ℕ) → bit_at m i ≡ 1 → bit_at (bit_and a m) i ≡ bit_at a i
bit_there a m i is = bit_at_and a m i ∙ ap (min (bit_at a i)) is ∙ go (bit_at a i) (bit_at-lt a i)
  where
    go : (b : ℕ) → b < 2 → min b 1 ≡ b
    go b lt = omega arith

bit_none : (a m i : ℕ) → bit_at m i ≡ 0 → bit_at (bit_and a m) i ≡ 0
bit_none a m i is = bit_at_and a m i ∙ ap (min (bit_at a i)) is ∙ go (bit_at a i)
  where
    go : (b : ℕ) → min b 0 ≡ 0
    go b = omega arith

first_alone : (a b i n : ℕ) → n < 2 → bit_at a i ≡ n → bit_at b i ≡ 0 → bit_at (bit_xor a b) i ≡ n
first_alone a b i n lt e f = bit_at_xor a b i ∙ ap (λ z. (z + bit_at b i) % 2) e ∙ ap (λ z. (n + z) % 2) f ∙ go n lt
  where
    go : (b : ℕ) → b < 2 → (b + 0) % 2 ≡ b
    go b lt = omega arith

second_alone : (a b i n : ℕ) → n < 2 → bit_at a i ≡ 0 → bit_at b i ≡ n → bit_at (bit_xor a b) i ≡ n
second_alone a b i n lt e f = bit_at_xor a b i ∙ ap (λ z. (z + bit_at b i) % 2) e ∙ ap (λ z. (0 + z) % 2) f ∙ go n lt
  where
    go : (b : ℕ) → b < 2 → (0 + b) % 2 ≡ b
    go b lt = omega arith

-- bit i where the mask has it, and where it hasn't; bit j is the one that moves there
lower_keeps : (n m a b i : ℕ) → bit_at m i ≡ 1 → bit_at (bit_and b m * 2 ^ n % 2 ^ 8) i ≡ 0 → bit_at (lower n m a b) i ≡ bit_at a i
lower_keeps n m a b i is none = first_alone (bit_and a m) (bit_and b m * 2 ^ n % 2 ^ 8) i (bit_at a i) (bit_at-lt a i) (bit_there a m i is) none

lower_takes : (n m a b i j : ℕ) → bit_at m i ≡ 0 → bit_at m j ≡ 1 → bit_at (bit_and b m * 2 ^ n % 2 ^ 8) i ≡ bit_at (bit_and b m) j → bit_at (lower n m a b) i ≡ bit_at b j
lower_takes n m a b i j is there from = second_alone (bit_and a m) (bit_and b m * 2 ^ n % 2 ^ 8) i (bit_at b j) (bit_at-lt b j) (bit_none a m i is) (from ∙ bit_there b m j there)

upper_keeps : (n m a b i : ℕ) → bit_at m i ≡ 0 → bit_at (bit_xor m (2 ^ 8 - 1)) i ≡ 1 → bit_at (upper n m a b) i ≡ bit_at b i
upper_keeps n m a b i is there = second_alone (bit_and (a / 2 ^ n) m) (bit_and b (bit_xor m (2 ^ 8 - 1))) i (bit_at b i) (bit_at-lt b i) (bit_none (a / 2 ^ n) m i is) (bit_there b (bit_xor m (2 ^ 8 - 1)) i there)

upper_takes : (n m a b i j : ℕ) → bit_at m i ≡ 1 → bit_at (bit_xor m (2 ^ 8 - 1)) i ≡ 0 → bit_at (a / 2 ^ n) i ≡ bit_at a j → bit_at (upper n m a b) i ≡ bit_at a j
upper_takes n m a b i j is none from = first_alone (bit_and (a / 2 ^ n) m) (bit_and b (bit_xor m (2 ^ 8 - 1))) i (bit_at a j) (bit_at-lt a j) (bit_there (a / 2 ^ n) m i is ∙ from) (bit_none b (bit_xor m (2 ^ 8 - 1)) i none)

-- a bit that another one moves to, which the mask hasn't
from_none : (w b m i j : ℕ) → bit_at w i ≡ bit_at (bit_and b m) j → bit_at m j ≡ 0 → bit_at w i ≡ 0
from_none w b m i j from none = from ∙ bit_none b m j none

lower_ones : (a b i : ℕ) → i < 8 → bit_at (lower 1 85 a b) i ≡ get_or (bit_at a 0 ∷ bit_at b 0 ∷ bit_at a 2 ∷ bit_at b 2 ∷ bit_at a 4 ∷ bit_at b 4 ∷ bit_at a 6 ∷ bit_at b 6 ∷ []) i 0
lower_ones a b =
    eight (λ i. bit_at (lower 1 85 a b) i ≡ get_or (bit_at a 0 ∷ bit_at b 0 ∷ bit_at a 2 ∷ bit_at b 2 ∷ bit_at a 4 ∷ bit_at b 4 ∷ bit_at a 6 ∷ bit_at b 6 ∷ []) i 0)
    (lower_keeps 1 85 a b 0 refl (omega arith))
    (lower_takes 1 85 a b 1 0 refl refl (omega arith))
    (lower_keeps 1 85 a b 2 refl (from_none (bit_and b 85 * 2 ^ 1 % 2 ^ 8) b 85 2 1 (omega arith) refl))
    (lower_takes 1 85 a b 3 2 refl refl (omega arith))
    (lower_keeps 1 85 a b 4 refl (from_none (bit_and b 85 * 2 ^ 1 % 2 ^ 8) b 85 4 3 (omega arith) refl))
    (lower_takes 1 85 a b 5 4 refl refl (omega arith))
    (lower_keeps 1 85 a b 6 refl (from_none (bit_and b 85 * 2 ^ 1 % 2 ^ 8) b 85 6 5 (omega arith) refl))
    (lower_takes 1 85 a b 7 6 refl refl (omega arith))

upper_ones : (a b i : ℕ) → i < 8 → bit_at (upper 1 85 a b) i ≡ get_or (bit_at a 1 ∷ bit_at b 1 ∷ bit_at a 3 ∷ bit_at b 3 ∷ bit_at a 5 ∷ bit_at b 5 ∷ bit_at a 7 ∷ bit_at b 7 ∷ []) i 0
upper_ones a b =
    eight (λ i. bit_at (upper 1 85 a b) i ≡ get_or (bit_at a 1 ∷ bit_at b 1 ∷ bit_at a 3 ∷ bit_at b 3 ∷ bit_at a 5 ∷ bit_at b 5 ∷ bit_at a 7 ∷ bit_at b 7 ∷ []) i 0)
    (upper_takes 1 85 a b 0 1 refl refl (omega arith))
    (upper_keeps 1 85 a b 1 refl refl)
    (upper_takes 1 85 a b 2 3 refl refl (omega arith))
    (upper_keeps 1 85 a b 3 refl refl)
    (upper_takes 1 85 a b 4 5 refl refl (omega arith))
    (upper_keeps 1 85 a b 5 refl refl)
    (upper_takes 1 85 a b 6 7 refl refl (omega arith))
    (upper_keeps 1 85 a b 7 refl refl)

lower_twos : (a b i : ℕ) → i < 8 → bit_at (lower 2 51 a b) i ≡ get_or (bit_at a 0 ∷ bit_at a 1 ∷ bit_at b 0 ∷ bit_at b 1 ∷ bit_at a 4 ∷ bit_at a 5 ∷ bit_at b 4 ∷ bit_at b 5 ∷ []) i 0
lower_twos a b =
    eight (λ i. bit_at (lower 2 51 a b) i ≡ get_or (bit_at a 0 ∷ bit_at a 1 ∷ bit_at b 0 ∷ bit_at b 1 ∷ bit_at a 4 ∷ bit_at a 5 ∷ bit_at b 4 ∷ bit_at b 5 ∷ []) i 0)
    (lower_keeps 2 51 a b 0 refl (omega arith))
    (lower_keeps 2 51 a b 1 refl (omega arith))
    (lower_takes 2 51 a b 2 0 refl refl (omega arith))
    (lower_takes 2 51 a b 3 1 refl refl (omega arith))
    (lower_keeps 2 51 a b 4 refl (from_none (bit_and b 51 * 2 ^ 2 % 2 ^ 8) b 51 4 2 (omega arith) refl))
    (lower_keeps 2 51 a b 5 refl (from_none (bit_and b 51 * 2 ^ 2 % 2 ^ 8) b 51 5 3 (omega arith) refl))
    (lower_takes 2 51 a b 6 4 refl refl (omega arith))
    (lower_takes 2 51 a b 7 5 refl refl (omega arith))

upper_twos : (a b i : ℕ) → i < 8 → bit_at (upper 2 51 a b) i ≡ get_or (bit_at a 2 ∷ bit_at a 3 ∷ bit_at b 2 ∷ bit_at b 3 ∷ bit_at a 6 ∷ bit_at a 7 ∷ bit_at b 6 ∷ bit_at b 7 ∷ []) i 0
upper_twos a b =
    eight (λ i. bit_at (upper 2 51 a b) i ≡ get_or (bit_at a 2 ∷ bit_at a 3 ∷ bit_at b 2 ∷ bit_at b 3 ∷ bit_at a 6 ∷ bit_at a 7 ∷ bit_at b 6 ∷ bit_at b 7 ∷ []) i 0)
    (upper_takes 2 51 a b 0 2 refl refl (omega arith))
    (upper_takes 2 51 a b 1 3 refl refl (omega arith))
    (upper_keeps 2 51 a b 2 refl refl)
    (upper_keeps 2 51 a b 3 refl refl)
    (upper_takes 2 51 a b 4 6 refl refl (omega arith))
    (upper_takes 2 51 a b 5 7 refl refl (omega arith))
    (upper_keeps 2 51 a b 6 refl refl)
    (upper_keeps 2 51 a b 7 refl refl)

lower_fours : (a b i : ℕ) → i < 8 → bit_at (lower 4 15 a b) i ≡ get_or (bit_at a 0 ∷ bit_at a 1 ∷ bit_at a 2 ∷ bit_at a 3 ∷ bit_at b 0 ∷ bit_at b 1 ∷ bit_at b 2 ∷ bit_at b 3 ∷ []) i 0
lower_fours a b =
    eight (λ i. bit_at (lower 4 15 a b) i ≡ get_or (bit_at a 0 ∷ bit_at a 1 ∷ bit_at a 2 ∷ bit_at a 3 ∷ bit_at b 0 ∷ bit_at b 1 ∷ bit_at b 2 ∷ bit_at b 3 ∷ []) i 0)
    (lower_keeps 4 15 a b 0 refl (omega arith))
    (lower_keeps 4 15 a b 1 refl (omega arith))
    (lower_keeps 4 15 a b 2 refl (omega arith))
    (lower_keeps 4 15 a b 3 refl (omega arith))
    (lower_takes 4 15 a b 4 0 refl refl (omega arith))
    (lower_takes 4 15 a b 5 1 refl refl (omega arith))
    (lower_takes 4 15 a b 6 2 refl refl (omega arith))
    (lower_takes 4 15 a b 7 3 refl refl (omega arith))

upper_fours : (a b i : ℕ) → i < 8 → bit_at (upper 4 15 a b) i ≡ get_or (bit_at a 4 ∷ bit_at a 5 ∷ bit_at a 6 ∷ bit_at a 7 ∷ bit_at b 4 ∷ bit_at b 5 ∷ bit_at b 6 ∷ bit_at b 7 ∷ []) i 0
upper_fours a b =
    eight (λ i. bit_at (upper 4 15 a b) i ≡ get_or (bit_at a 4 ∷ bit_at a 5 ∷ bit_at a 6 ∷ bit_at a 7 ∷ bit_at b 4 ∷ bit_at b 5 ∷ bit_at b 6 ∷ bit_at b 7 ∷ []) i 0)
    (upper_takes 4 15 a b 0 4 refl refl (omega arith))
    (upper_takes 4 15 a b 1 5 refl refl (omega arith))
    (upper_takes 4 15 a b 2 6 refl refl (omega arith))
    (upper_takes 4 15 a b 3 7 refl refl (omega arith))
    (upper_keeps 4 15 a b 4 refl refl)
    (upper_keeps 4 15 a b 5 refl refl)
    (upper_keeps 4 15 a b 6 refl refl)
    (upper_keeps 4 15 a b 7 refl refl)

-- ---- eight registers

pub zipped_long : (f : ℕ → ℕ → ℕ) (xs ys : List ℕ) → length xs ≡ 16 → length ys ≡ 16 → length (zip2 f xs ys) ≡ 16
zipped_long f xs ys a b = length-zip2 f xs ys (a ∙ sym b) ∙ a

lane_is : (f : ℕ → ℕ → ℕ) (xs ys rs : List ℕ) (p : ℕ) → length xs ≡ 16 → length ys ≡ 16 → p < 16 → rs ≡ zip2 f xs ys → get_or rs p 0 ≡ f (get_or xs p 0) (get_or ys p 0)
lane_is f xs ys rs p a b P e = ap (λ zs. get_or zs p 0) e ∙ get_or-zip2 f xs ys p 0 0 0 (omega arith) (omega arith)

pub record HasOnes (q r : List (List ℕ)) : Type 0 where
  pub r0 : get_or r 0 [] ≡ zip2 (lower 1 85) (get_or q 0 []) (get_or q 1 [])
  pub r1 : get_or r 1 [] ≡ zip2 (upper 1 85) (get_or q 0 []) (get_or q 1 [])
  pub r2 : get_or r 2 [] ≡ zip2 (lower 1 85) (get_or q 2 []) (get_or q 3 [])
  pub r3 : get_or r 3 [] ≡ zip2 (upper 1 85) (get_or q 2 []) (get_or q 3 [])
  pub r4 : get_or r 4 [] ≡ zip2 (lower 1 85) (get_or q 4 []) (get_or q 5 [])
  pub r5 : get_or r 5 [] ≡ zip2 (upper 1 85) (get_or q 4 []) (get_or q 5 [])
  pub r6 : get_or r 6 [] ≡ zip2 (lower 1 85) (get_or q 6 []) (get_or q 7 [])
  pub r7 : get_or r 7 [] ≡ zip2 (upper 1 85) (get_or q 6 []) (get_or q 7 [])

pub ones_long : (q r : List (List ℕ)) → IsState q → HasOnes q r → IsState r
ones_long q r long h =
    eight (λ k. length (get_or r k []) ≡ 16)
    (ap length h.r0 ∙ zipped_long (lower 1 85) (get_or q 0 []) (get_or q 1 []) (long 0 (omega arith)) (long 1 (omega arith)))
    (ap length h.r1 ∙ zipped_long (upper 1 85) (get_or q 0 []) (get_or q 1 []) (long 0 (omega arith)) (long 1 (omega arith)))
    (ap length h.r2 ∙ zipped_long (lower 1 85) (get_or q 2 []) (get_or q 3 []) (long 2 (omega arith)) (long 3 (omega arith)))
    (ap length h.r3 ∙ zipped_long (upper 1 85) (get_or q 2 []) (get_or q 3 []) (long 2 (omega arith)) (long 3 (omega arith)))
    (ap length h.r4 ∙ zipped_long (lower 1 85) (get_or q 4 []) (get_or q 5 []) (long 4 (omega arith)) (long 5 (omega arith)))
    (ap length h.r5 ∙ zipped_long (upper 1 85) (get_or q 4 []) (get_or q 5 []) (long 4 (omega arith)) (long 5 (omega arith)))
    (ap length h.r6 ∙ zipped_long (lower 1 85) (get_or q 6 []) (get_or q 7 []) (long 6 (omega arith)) (long 7 (omega arith)))
    (ap length h.r7 ∙ zipped_long (upper 1 85) (get_or q 6 []) (get_or q 7 []) (long 6 (omega arith)) (long 7 (omega arith)))

pub ones_small : (q r : List (List ℕ)) → IsState q → HasOnes q r → AreBytes r
ones_small q r long h k p K P =
    eight (λ k. get_or (get_or r k []) p 0 < 256)
    (small (lane_is (lower 1 85) (get_or q 0 []) (get_or q 1 []) (get_or r 0 []) p (long 0 (omega arith)) (long 1 (omega arith)) P h.r0) (lower-lt 1 85 (get_or (get_or q 0 []) p 0) (get_or (get_or q 1 []) p 0) (omega arith)))
    (small (lane_is (upper 1 85) (get_or q 0 []) (get_or q 1 []) (get_or r 1 []) p (long 0 (omega arith)) (long 1 (omega arith)) P h.r1) (upper-lt 1 85 (get_or (get_or q 0 []) p 0) (get_or (get_or q 1 []) p 0) (omega arith)))
    (small (lane_is (lower 1 85) (get_or q 2 []) (get_or q 3 []) (get_or r 2 []) p (long 2 (omega arith)) (long 3 (omega arith)) P h.r2) (lower-lt 1 85 (get_or (get_or q 2 []) p 0) (get_or (get_or q 3 []) p 0) (omega arith)))
    (small (lane_is (upper 1 85) (get_or q 2 []) (get_or q 3 []) (get_or r 3 []) p (long 2 (omega arith)) (long 3 (omega arith)) P h.r3) (upper-lt 1 85 (get_or (get_or q 2 []) p 0) (get_or (get_or q 3 []) p 0) (omega arith)))
    (small (lane_is (lower 1 85) (get_or q 4 []) (get_or q 5 []) (get_or r 4 []) p (long 4 (omega arith)) (long 5 (omega arith)) P h.r4) (lower-lt 1 85 (get_or (get_or q 4 []) p 0) (get_or (get_or q 5 []) p 0) (omega arith)))
    (small (lane_is (upper 1 85) (get_or q 4 []) (get_or q 5 []) (get_or r 5 []) p (long 4 (omega arith)) (long 5 (omega arith)) P h.r5) (upper-lt 1 85 (get_or (get_or q 4 []) p 0) (get_or (get_or q 5 []) p 0) (omega arith)))
    (small (lane_is (lower 1 85) (get_or q 6 []) (get_or q 7 []) (get_or r 6 []) p (long 6 (omega arith)) (long 7 (omega arith)) P h.r6) (lower-lt 1 85 (get_or (get_or q 6 []) p 0) (get_or (get_or q 7 []) p 0) (omega arith)))
    (small (lane_is (upper 1 85) (get_or q 6 []) (get_or q 7 []) (get_or r 7 []) p (long 6 (omega arith)) (long 7 (omega arith)) P h.r7) (upper-lt 1 85 (get_or (get_or q 6 []) p 0) (get_or (get_or q 7 []) p 0) (omega arith))) k K
  where
    small : {a b : ℕ} → a ≡ b → b < 256 → a < 256
    small {a} {b} e lt = omega arith

pub ones_bits : (q r : List (List ℕ)) → IsState q → HasOnes q r
    → (p k i : ℕ) → p < 16 → k < 8 → i < 8 → bit_of r k p i ≡ bit_of q (place 1 k i) p (place 1 i k)
ones_bits q r long h p k i P K I =
    let x : ℕ → ℕ = λ k. get_or (get_or q k []) p 0 in
    let g0 : (i : ℕ) → i < 8 → bit_of r 0 p i ≡ get_or (bit_at (x 0) 0 ∷ bit_at (x 1) 0 ∷ bit_at (x 0) 2 ∷ bit_at (x 1) 2 ∷ bit_at (x 0) 4 ∷ bit_at (x 1) 4 ∷ bit_at (x 0) 6 ∷ bit_at (x 1) 6 ∷ []) i 0 =
    λ i I. ap (λ z. bit_at z i) (lane_is (lower 1 85) (get_or q 0 []) (get_or q 1 []) (get_or r 0 []) p (long 0 (omega arith)) (long 1 (omega arith)) P h.r0) ∙ lower_ones (x 0) (x 1) i I in
    let g1 : (i : ℕ) → i < 8 → bit_of r 1 p i ≡ get_or (bit_at (x 0) 1 ∷ bit_at (x 1) 1 ∷ bit_at (x 0) 3 ∷ bit_at (x 1) 3 ∷ bit_at (x 0) 5 ∷ bit_at (x 1) 5 ∷ bit_at (x 0) 7 ∷ bit_at (x 1) 7 ∷ []) i 0 =
    λ i I. ap (λ z. bit_at z i) (lane_is (upper 1 85) (get_or q 0 []) (get_or q 1 []) (get_or r 1 []) p (long 0 (omega arith)) (long 1 (omega arith)) P h.r1) ∙ upper_ones (x 0) (x 1) i I in
    let g2 : (i : ℕ) → i < 8 → bit_of r 2 p i ≡ get_or (bit_at (x 2) 0 ∷ bit_at (x 3) 0 ∷ bit_at (x 2) 2 ∷ bit_at (x 3) 2 ∷ bit_at (x 2) 4 ∷ bit_at (x 3) 4 ∷ bit_at (x 2) 6 ∷ bit_at (x 3) 6 ∷ []) i 0 =
    λ i I. ap (λ z. bit_at z i) (lane_is (lower 1 85) (get_or q 2 []) (get_or q 3 []) (get_or r 2 []) p (long 2 (omega arith)) (long 3 (omega arith)) P h.r2) ∙ lower_ones (x 2) (x 3) i I in
    let g3 : (i : ℕ) → i < 8 → bit_of r 3 p i ≡ get_or (bit_at (x 2) 1 ∷ bit_at (x 3) 1 ∷ bit_at (x 2) 3 ∷ bit_at (x 3) 3 ∷ bit_at (x 2) 5 ∷ bit_at (x 3) 5 ∷ bit_at (x 2) 7 ∷ bit_at (x 3) 7 ∷ []) i 0 =
    λ i I. ap (λ z. bit_at z i) (lane_is (upper 1 85) (get_or q 2 []) (get_or q 3 []) (get_or r 3 []) p (long 2 (omega arith)) (long 3 (omega arith)) P h.r3) ∙ upper_ones (x 2) (x 3) i I in
    let g4 : (i : ℕ) → i < 8 → bit_of r 4 p i ≡ get_or (bit_at (x 4) 0 ∷ bit_at (x 5) 0 ∷ bit_at (x 4) 2 ∷ bit_at (x 5) 2 ∷ bit_at (x 4) 4 ∷ bit_at (x 5) 4 ∷ bit_at (x 4) 6 ∷ bit_at (x 5) 6 ∷ []) i 0 =
    λ i I. ap (λ z. bit_at z i) (lane_is (lower 1 85) (get_or q 4 []) (get_or q 5 []) (get_or r 4 []) p (long 4 (omega arith)) (long 5 (omega arith)) P h.r4) ∙ lower_ones (x 4) (x 5) i I in
    let g5 : (i : ℕ) → i < 8 → bit_of r 5 p i ≡ get_or (bit_at (x 4) 1 ∷ bit_at (x 5) 1 ∷ bit_at (x 4) 3 ∷ bit_at (x 5) 3 ∷ bit_at (x 4) 5 ∷ bit_at (x 5) 5 ∷ bit_at (x 4) 7 ∷ bit_at (x 5) 7 ∷ []) i 0 =
    λ i I. ap (λ z. bit_at z i) (lane_is (upper 1 85) (get_or q 4 []) (get_or q 5 []) (get_or r 5 []) p (long 4 (omega arith)) (long 5 (omega arith)) P h.r5) ∙ upper_ones (x 4) (x 5) i I in
    let g6 : (i : ℕ) → i < 8 → bit_of r 6 p i ≡ get_or (bit_at (x 6) 0 ∷ bit_at (x 7) 0 ∷ bit_at (x 6) 2 ∷ bit_at (x 7) 2 ∷ bit_at (x 6) 4 ∷ bit_at (x 7) 4 ∷ bit_at (x 6) 6 ∷ bit_at (x 7) 6 ∷ []) i 0 =
    λ i I. ap (λ z. bit_at z i) (lane_is (lower 1 85) (get_or q 6 []) (get_or q 7 []) (get_or r 6 []) p (long 6 (omega arith)) (long 7 (omega arith)) P h.r6) ∙ lower_ones (x 6) (x 7) i I in
    let g7 : (i : ℕ) → i < 8 → bit_of r 7 p i ≡ get_or (bit_at (x 6) 1 ∷ bit_at (x 7) 1 ∷ bit_at (x 6) 3 ∷ bit_at (x 7) 3 ∷ bit_at (x 6) 5 ∷ bit_at (x 7) 5 ∷ bit_at (x 6) 7 ∷ bit_at (x 7) 7 ∷ []) i 0 =
    λ i I. ap (λ z. bit_at z i) (lane_is (upper 1 85) (get_or q 6 []) (get_or q 7 []) (get_or r 7 []) p (long 6 (omega arith)) (long 7 (omega arith)) P h.r7) ∙ upper_ones (x 6) (x 7) i I in
    let l0 : 0 < 8 = omega arith in
    let l1 : 1 < 8 = omega arith in
    let l2 : 2 < 8 = omega arith in
    let l3 : 3 < 8 = omega arith in
    let l4 : 4 < 8 = omega arith in
    let l5 : 5 < 8 = omega arith in
    let l6 : 6 < 8 = omega arith in
    let l7 : 7 < 8 = omega arith in
    eight (λ k. (i : ℕ) → i < 8 → bit_of r k p i ≡ bit_of q (place 1 k i) p (place 1 i k))
    (eight (λ i. bit_of r 0 p i ≡ bit_of q (place 1 0 i) p (place 1 i 0)) (g0 0 l0) (g0 1 l1) (g0 2 l2) (g0 3 l3) (g0 4 l4) (g0 5 l5) (g0 6 l6) (g0 7 l7))
    (eight (λ i. bit_of r 1 p i ≡ bit_of q (place 1 1 i) p (place 1 i 1)) (g1 0 l0) (g1 1 l1) (g1 2 l2) (g1 3 l3) (g1 4 l4) (g1 5 l5) (g1 6 l6) (g1 7 l7))
    (eight (λ i. bit_of r 2 p i ≡ bit_of q (place 1 2 i) p (place 1 i 2)) (g2 0 l0) (g2 1 l1) (g2 2 l2) (g2 3 l3) (g2 4 l4) (g2 5 l5) (g2 6 l6) (g2 7 l7))
    (eight (λ i. bit_of r 3 p i ≡ bit_of q (place 1 3 i) p (place 1 i 3)) (g3 0 l0) (g3 1 l1) (g3 2 l2) (g3 3 l3) (g3 4 l4) (g3 5 l5) (g3 6 l6) (g3 7 l7))
    (eight (λ i. bit_of r 4 p i ≡ bit_of q (place 1 4 i) p (place 1 i 4)) (g4 0 l0) (g4 1 l1) (g4 2 l2) (g4 3 l3) (g4 4 l4) (g4 5 l5) (g4 6 l6) (g4 7 l7))
    (eight (λ i. bit_of r 5 p i ≡ bit_of q (place 1 5 i) p (place 1 i 5)) (g5 0 l0) (g5 1 l1) (g5 2 l2) (g5 3 l3) (g5 4 l4) (g5 5 l5) (g5 6 l6) (g5 7 l7))
    (eight (λ i. bit_of r 6 p i ≡ bit_of q (place 1 6 i) p (place 1 i 6)) (g6 0 l0) (g6 1 l1) (g6 2 l2) (g6 3 l3) (g6 4 l4) (g6 5 l5) (g6 6 l6) (g6 7 l7))
    (eight (λ i. bit_of r 7 p i ≡ bit_of q (place 1 7 i) p (place 1 i 7)) (g7 0 l0) (g7 1 l1) (g7 2 l2) (g7 3 l3) (g7 4 l4) (g7 5 l5) (g7 6 l6) (g7 7 l7)) k K i I

pub record HasTwos (q r : List (List ℕ)) : Type 0 where
  pub r0 : get_or r 0 [] ≡ zip2 (lower 2 51) (get_or q 0 []) (get_or q 2 [])
  pub r1 : get_or r 1 [] ≡ zip2 (lower 2 51) (get_or q 1 []) (get_or q 3 [])
  pub r2 : get_or r 2 [] ≡ zip2 (upper 2 51) (get_or q 0 []) (get_or q 2 [])
  pub r3 : get_or r 3 [] ≡ zip2 (upper 2 51) (get_or q 1 []) (get_or q 3 [])
  pub r4 : get_or r 4 [] ≡ zip2 (lower 2 51) (get_or q 4 []) (get_or q 6 [])
  pub r5 : get_or r 5 [] ≡ zip2 (lower 2 51) (get_or q 5 []) (get_or q 7 [])
  pub r6 : get_or r 6 [] ≡ zip2 (upper 2 51) (get_or q 4 []) (get_or q 6 [])
  pub r7 : get_or r 7 [] ≡ zip2 (upper 2 51) (get_or q 5 []) (get_or q 7 [])

pub twos_long : (q r : List (List ℕ)) → IsState q → HasTwos q r → IsState r
twos_long q r long h =
    eight (λ k. length (get_or r k []) ≡ 16)
    (ap length h.r0 ∙ zipped_long (lower 2 51) (get_or q 0 []) (get_or q 2 []) (long 0 (omega arith)) (long 2 (omega arith)))
    (ap length h.r1 ∙ zipped_long (lower 2 51) (get_or q 1 []) (get_or q 3 []) (long 1 (omega arith)) (long 3 (omega arith)))
    (ap length h.r2 ∙ zipped_long (upper 2 51) (get_or q 0 []) (get_or q 2 []) (long 0 (omega arith)) (long 2 (omega arith)))
    (ap length h.r3 ∙ zipped_long (upper 2 51) (get_or q 1 []) (get_or q 3 []) (long 1 (omega arith)) (long 3 (omega arith)))
    (ap length h.r4 ∙ zipped_long (lower 2 51) (get_or q 4 []) (get_or q 6 []) (long 4 (omega arith)) (long 6 (omega arith)))
    (ap length h.r5 ∙ zipped_long (lower 2 51) (get_or q 5 []) (get_or q 7 []) (long 5 (omega arith)) (long 7 (omega arith)))
    (ap length h.r6 ∙ zipped_long (upper 2 51) (get_or q 4 []) (get_or q 6 []) (long 4 (omega arith)) (long 6 (omega arith)))
    (ap length h.r7 ∙ zipped_long (upper 2 51) (get_or q 5 []) (get_or q 7 []) (long 5 (omega arith)) (long 7 (omega arith)))

pub twos_small : (q r : List (List ℕ)) → IsState q → HasTwos q r → AreBytes r
twos_small q r long h k p K P =
    eight (λ k. get_or (get_or r k []) p 0 < 256)
    (small (lane_is (lower 2 51) (get_or q 0 []) (get_or q 2 []) (get_or r 0 []) p (long 0 (omega arith)) (long 2 (omega arith)) P h.r0) (lower-lt 2 51 (get_or (get_or q 0 []) p 0) (get_or (get_or q 2 []) p 0) (omega arith)))
    (small (lane_is (lower 2 51) (get_or q 1 []) (get_or q 3 []) (get_or r 1 []) p (long 1 (omega arith)) (long 3 (omega arith)) P h.r1) (lower-lt 2 51 (get_or (get_or q 1 []) p 0) (get_or (get_or q 3 []) p 0) (omega arith)))
    (small (lane_is (upper 2 51) (get_or q 0 []) (get_or q 2 []) (get_or r 2 []) p (long 0 (omega arith)) (long 2 (omega arith)) P h.r2) (upper-lt 2 51 (get_or (get_or q 0 []) p 0) (get_or (get_or q 2 []) p 0) (omega arith)))
    (small (lane_is (upper 2 51) (get_or q 1 []) (get_or q 3 []) (get_or r 3 []) p (long 1 (omega arith)) (long 3 (omega arith)) P h.r3) (upper-lt 2 51 (get_or (get_or q 1 []) p 0) (get_or (get_or q 3 []) p 0) (omega arith)))
    (small (lane_is (lower 2 51) (get_or q 4 []) (get_or q 6 []) (get_or r 4 []) p (long 4 (omega arith)) (long 6 (omega arith)) P h.r4) (lower-lt 2 51 (get_or (get_or q 4 []) p 0) (get_or (get_or q 6 []) p 0) (omega arith)))
    (small (lane_is (lower 2 51) (get_or q 5 []) (get_or q 7 []) (get_or r 5 []) p (long 5 (omega arith)) (long 7 (omega arith)) P h.r5) (lower-lt 2 51 (get_or (get_or q 5 []) p 0) (get_or (get_or q 7 []) p 0) (omega arith)))
    (small (lane_is (upper 2 51) (get_or q 4 []) (get_or q 6 []) (get_or r 6 []) p (long 4 (omega arith)) (long 6 (omega arith)) P h.r6) (upper-lt 2 51 (get_or (get_or q 4 []) p 0) (get_or (get_or q 6 []) p 0) (omega arith)))
    (small (lane_is (upper 2 51) (get_or q 5 []) (get_or q 7 []) (get_or r 7 []) p (long 5 (omega arith)) (long 7 (omega arith)) P h.r7) (upper-lt 2 51 (get_or (get_or q 5 []) p 0) (get_or (get_or q 7 []) p 0) (omega arith))) k K
  where
    small : {a b : ℕ} → a ≡ b → b < 256 → a < 256
    small {a} {b} e lt = omega arith

pub twos_bits : (q r : List (List ℕ)) → IsState q → HasTwos q r
    → (p k i : ℕ) → p < 16 → k < 8 → i < 8 → bit_of r k p i ≡ bit_of q (place 2 k i) p (place 2 i k)
twos_bits q r long h p k i P K I =
    let x : ℕ → ℕ = λ k. get_or (get_or q k []) p 0 in
    let g0 : (i : ℕ) → i < 8 → bit_of r 0 p i ≡ get_or (bit_at (x 0) 0 ∷ bit_at (x 0) 1 ∷ bit_at (x 2) 0 ∷ bit_at (x 2) 1 ∷ bit_at (x 0) 4 ∷ bit_at (x 0) 5 ∷ bit_at (x 2) 4 ∷ bit_at (x 2) 5 ∷ []) i 0 =
    λ i I. ap (λ z. bit_at z i) (lane_is (lower 2 51) (get_or q 0 []) (get_or q 2 []) (get_or r 0 []) p (long 0 (omega arith)) (long 2 (omega arith)) P h.r0) ∙ lower_twos (x 0) (x 2) i I in
    let g1 : (i : ℕ) → i < 8 → bit_of r 1 p i ≡ get_or (bit_at (x 1) 0 ∷ bit_at (x 1) 1 ∷ bit_at (x 3) 0 ∷ bit_at (x 3) 1 ∷ bit_at (x 1) 4 ∷ bit_at (x 1) 5 ∷ bit_at (x 3) 4 ∷ bit_at (x 3) 5 ∷ []) i 0 =
    λ i I. ap (λ z. bit_at z i) (lane_is (lower 2 51) (get_or q 1 []) (get_or q 3 []) (get_or r 1 []) p (long 1 (omega arith)) (long 3 (omega arith)) P h.r1) ∙ lower_twos (x 1) (x 3) i I in
    let g2 : (i : ℕ) → i < 8 → bit_of r 2 p i ≡ get_or (bit_at (x 0) 2 ∷ bit_at (x 0) 3 ∷ bit_at (x 2) 2 ∷ bit_at (x 2) 3 ∷ bit_at (x 0) 6 ∷ bit_at (x 0) 7 ∷ bit_at (x 2) 6 ∷ bit_at (x 2) 7 ∷ []) i 0 =
    λ i I. ap (λ z. bit_at z i) (lane_is (upper 2 51) (get_or q 0 []) (get_or q 2 []) (get_or r 2 []) p (long 0 (omega arith)) (long 2 (omega arith)) P h.r2) ∙ upper_twos (x 0) (x 2) i I in
    let g3 : (i : ℕ) → i < 8 → bit_of r 3 p i ≡ get_or (bit_at (x 1) 2 ∷ bit_at (x 1) 3 ∷ bit_at (x 3) 2 ∷ bit_at (x 3) 3 ∷ bit_at (x 1) 6 ∷ bit_at (x 1) 7 ∷ bit_at (x 3) 6 ∷ bit_at (x 3) 7 ∷ []) i 0 =
    λ i I. ap (λ z. bit_at z i) (lane_is (upper 2 51) (get_or q 1 []) (get_or q 3 []) (get_or r 3 []) p (long 1 (omega arith)) (long 3 (omega arith)) P h.r3) ∙ upper_twos (x 1) (x 3) i I in
    let g4 : (i : ℕ) → i < 8 → bit_of r 4 p i ≡ get_or (bit_at (x 4) 0 ∷ bit_at (x 4) 1 ∷ bit_at (x 6) 0 ∷ bit_at (x 6) 1 ∷ bit_at (x 4) 4 ∷ bit_at (x 4) 5 ∷ bit_at (x 6) 4 ∷ bit_at (x 6) 5 ∷ []) i 0 =
    λ i I. ap (λ z. bit_at z i) (lane_is (lower 2 51) (get_or q 4 []) (get_or q 6 []) (get_or r 4 []) p (long 4 (omega arith)) (long 6 (omega arith)) P h.r4) ∙ lower_twos (x 4) (x 6) i I in
    let g5 : (i : ℕ) → i < 8 → bit_of r 5 p i ≡ get_or (bit_at (x 5) 0 ∷ bit_at (x 5) 1 ∷ bit_at (x 7) 0 ∷ bit_at (x 7) 1 ∷ bit_at (x 5) 4 ∷ bit_at (x 5) 5 ∷ bit_at (x 7) 4 ∷ bit_at (x 7) 5 ∷ []) i 0 =
    λ i I. ap (λ z. bit_at z i) (lane_is (lower 2 51) (get_or q 5 []) (get_or q 7 []) (get_or r 5 []) p (long 5 (omega arith)) (long 7 (omega arith)) P h.r5) ∙ lower_twos (x 5) (x 7) i I in
    let g6 : (i : ℕ) → i < 8 → bit_of r 6 p i ≡ get_or (bit_at (x 4) 2 ∷ bit_at (x 4) 3 ∷ bit_at (x 6) 2 ∷ bit_at (x 6) 3 ∷ bit_at (x 4) 6 ∷ bit_at (x 4) 7 ∷ bit_at (x 6) 6 ∷ bit_at (x 6) 7 ∷ []) i 0 =
    λ i I. ap (λ z. bit_at z i) (lane_is (upper 2 51) (get_or q 4 []) (get_or q 6 []) (get_or r 6 []) p (long 4 (omega arith)) (long 6 (omega arith)) P h.r6) ∙ upper_twos (x 4) (x 6) i I in
    let g7 : (i : ℕ) → i < 8 → bit_of r 7 p i ≡ get_or (bit_at (x 5) 2 ∷ bit_at (x 5) 3 ∷ bit_at (x 7) 2 ∷ bit_at (x 7) 3 ∷ bit_at (x 5) 6 ∷ bit_at (x 5) 7 ∷ bit_at (x 7) 6 ∷ bit_at (x 7) 7 ∷ []) i 0 =
    λ i I. ap (λ z. bit_at z i) (lane_is (upper 2 51) (get_or q 5 []) (get_or q 7 []) (get_or r 7 []) p (long 5 (omega arith)) (long 7 (omega arith)) P h.r7) ∙ upper_twos (x 5) (x 7) i I in
    let l0 : 0 < 8 = omega arith in
    let l1 : 1 < 8 = omega arith in
    let l2 : 2 < 8 = omega arith in
    let l3 : 3 < 8 = omega arith in
    let l4 : 4 < 8 = omega arith in
    let l5 : 5 < 8 = omega arith in
    let l6 : 6 < 8 = omega arith in
    let l7 : 7 < 8 = omega arith in
    eight (λ k. (i : ℕ) → i < 8 → bit_of r k p i ≡ bit_of q (place 2 k i) p (place 2 i k))
    (eight (λ i. bit_of r 0 p i ≡ bit_of q (place 2 0 i) p (place 2 i 0)) (g0 0 l0) (g0 1 l1) (g0 2 l2) (g0 3 l3) (g0 4 l4) (g0 5 l5) (g0 6 l6) (g0 7 l7))
    (eight (λ i. bit_of r 1 p i ≡ bit_of q (place 2 1 i) p (place 2 i 1)) (g1 0 l0) (g1 1 l1) (g1 2 l2) (g1 3 l3) (g1 4 l4) (g1 5 l5) (g1 6 l6) (g1 7 l7))
    (eight (λ i. bit_of r 2 p i ≡ bit_of q (place 2 2 i) p (place 2 i 2)) (g2 0 l0) (g2 1 l1) (g2 2 l2) (g2 3 l3) (g2 4 l4) (g2 5 l5) (g2 6 l6) (g2 7 l7))
    (eight (λ i. bit_of r 3 p i ≡ bit_of q (place 2 3 i) p (place 2 i 3)) (g3 0 l0) (g3 1 l1) (g3 2 l2) (g3 3 l3) (g3 4 l4) (g3 5 l5) (g3 6 l6) (g3 7 l7))
    (eight (λ i. bit_of r 4 p i ≡ bit_of q (place 2 4 i) p (place 2 i 4)) (g4 0 l0) (g4 1 l1) (g4 2 l2) (g4 3 l3) (g4 4 l4) (g4 5 l5) (g4 6 l6) (g4 7 l7))
    (eight (λ i. bit_of r 5 p i ≡ bit_of q (place 2 5 i) p (place 2 i 5)) (g5 0 l0) (g5 1 l1) (g5 2 l2) (g5 3 l3) (g5 4 l4) (g5 5 l5) (g5 6 l6) (g5 7 l7))
    (eight (λ i. bit_of r 6 p i ≡ bit_of q (place 2 6 i) p (place 2 i 6)) (g6 0 l0) (g6 1 l1) (g6 2 l2) (g6 3 l3) (g6 4 l4) (g6 5 l5) (g6 6 l6) (g6 7 l7))
    (eight (λ i. bit_of r 7 p i ≡ bit_of q (place 2 7 i) p (place 2 i 7)) (g7 0 l0) (g7 1 l1) (g7 2 l2) (g7 3 l3) (g7 4 l4) (g7 5 l5) (g7 6 l6) (g7 7 l7)) k K i I

pub record HasFours (q r : List (List ℕ)) : Type 0 where
  pub r0 : get_or r 0 [] ≡ zip2 (lower 4 15) (get_or q 0 []) (get_or q 4 [])
  pub r1 : get_or r 1 [] ≡ zip2 (lower 4 15) (get_or q 1 []) (get_or q 5 [])
  pub r2 : get_or r 2 [] ≡ zip2 (lower 4 15) (get_or q 2 []) (get_or q 6 [])
  pub r3 : get_or r 3 [] ≡ zip2 (lower 4 15) (get_or q 3 []) (get_or q 7 [])
  pub r4 : get_or r 4 [] ≡ zip2 (upper 4 15) (get_or q 0 []) (get_or q 4 [])
  pub r5 : get_or r 5 [] ≡ zip2 (upper 4 15) (get_or q 1 []) (get_or q 5 [])
  pub r6 : get_or r 6 [] ≡ zip2 (upper 4 15) (get_or q 2 []) (get_or q 6 [])
  pub r7 : get_or r 7 [] ≡ zip2 (upper 4 15) (get_or q 3 []) (get_or q 7 [])

pub fours_long : (q r : List (List ℕ)) → IsState q → HasFours q r → IsState r
fours_long q r long h =
    eight (λ k. length (get_or r k []) ≡ 16)
    (ap length h.r0 ∙ zipped_long (lower 4 15) (get_or q 0 []) (get_or q 4 []) (long 0 (omega arith)) (long 4 (omega arith)))
    (ap length h.r1 ∙ zipped_long (lower 4 15) (get_or q 1 []) (get_or q 5 []) (long 1 (omega arith)) (long 5 (omega arith)))
    (ap length h.r2 ∙ zipped_long (lower 4 15) (get_or q 2 []) (get_or q 6 []) (long 2 (omega arith)) (long 6 (omega arith)))
    (ap length h.r3 ∙ zipped_long (lower 4 15) (get_or q 3 []) (get_or q 7 []) (long 3 (omega arith)) (long 7 (omega arith)))
    (ap length h.r4 ∙ zipped_long (upper 4 15) (get_or q 0 []) (get_or q 4 []) (long 0 (omega arith)) (long 4 (omega arith)))
    (ap length h.r5 ∙ zipped_long (upper 4 15) (get_or q 1 []) (get_or q 5 []) (long 1 (omega arith)) (long 5 (omega arith)))
    (ap length h.r6 ∙ zipped_long (upper 4 15) (get_or q 2 []) (get_or q 6 []) (long 2 (omega arith)) (long 6 (omega arith)))
    (ap length h.r7 ∙ zipped_long (upper 4 15) (get_or q 3 []) (get_or q 7 []) (long 3 (omega arith)) (long 7 (omega arith)))

pub fours_small : (q r : List (List ℕ)) → IsState q → HasFours q r → AreBytes r
fours_small q r long h k p K P =
    eight (λ k. get_or (get_or r k []) p 0 < 256)
    (small (lane_is (lower 4 15) (get_or q 0 []) (get_or q 4 []) (get_or r 0 []) p (long 0 (omega arith)) (long 4 (omega arith)) P h.r0) (lower-lt 4 15 (get_or (get_or q 0 []) p 0) (get_or (get_or q 4 []) p 0) (omega arith)))
    (small (lane_is (lower 4 15) (get_or q 1 []) (get_or q 5 []) (get_or r 1 []) p (long 1 (omega arith)) (long 5 (omega arith)) P h.r1) (lower-lt 4 15 (get_or (get_or q 1 []) p 0) (get_or (get_or q 5 []) p 0) (omega arith)))
    (small (lane_is (lower 4 15) (get_or q 2 []) (get_or q 6 []) (get_or r 2 []) p (long 2 (omega arith)) (long 6 (omega arith)) P h.r2) (lower-lt 4 15 (get_or (get_or q 2 []) p 0) (get_or (get_or q 6 []) p 0) (omega arith)))
    (small (lane_is (lower 4 15) (get_or q 3 []) (get_or q 7 []) (get_or r 3 []) p (long 3 (omega arith)) (long 7 (omega arith)) P h.r3) (lower-lt 4 15 (get_or (get_or q 3 []) p 0) (get_or (get_or q 7 []) p 0) (omega arith)))
    (small (lane_is (upper 4 15) (get_or q 0 []) (get_or q 4 []) (get_or r 4 []) p (long 0 (omega arith)) (long 4 (omega arith)) P h.r4) (upper-lt 4 15 (get_or (get_or q 0 []) p 0) (get_or (get_or q 4 []) p 0) (omega arith)))
    (small (lane_is (upper 4 15) (get_or q 1 []) (get_or q 5 []) (get_or r 5 []) p (long 1 (omega arith)) (long 5 (omega arith)) P h.r5) (upper-lt 4 15 (get_or (get_or q 1 []) p 0) (get_or (get_or q 5 []) p 0) (omega arith)))
    (small (lane_is (upper 4 15) (get_or q 2 []) (get_or q 6 []) (get_or r 6 []) p (long 2 (omega arith)) (long 6 (omega arith)) P h.r6) (upper-lt 4 15 (get_or (get_or q 2 []) p 0) (get_or (get_or q 6 []) p 0) (omega arith)))
    (small (lane_is (upper 4 15) (get_or q 3 []) (get_or q 7 []) (get_or r 7 []) p (long 3 (omega arith)) (long 7 (omega arith)) P h.r7) (upper-lt 4 15 (get_or (get_or q 3 []) p 0) (get_or (get_or q 7 []) p 0) (omega arith))) k K
  where
    small : {a b : ℕ} → a ≡ b → b < 256 → a < 256
    small {a} {b} e lt = omega arith

pub fours_bits : (q r : List (List ℕ)) → IsState q → HasFours q r
    → (p k i : ℕ) → p < 16 → k < 8 → i < 8 → bit_of r k p i ≡ bit_of q (place 4 k i) p (place 4 i k)
fours_bits q r long h p k i P K I =
    let x : ℕ → ℕ = λ k. get_or (get_or q k []) p 0 in
    let g0 : (i : ℕ) → i < 8 → bit_of r 0 p i ≡ get_or (bit_at (x 0) 0 ∷ bit_at (x 0) 1 ∷ bit_at (x 0) 2 ∷ bit_at (x 0) 3 ∷ bit_at (x 4) 0 ∷ bit_at (x 4) 1 ∷ bit_at (x 4) 2 ∷ bit_at (x 4) 3 ∷ []) i 0 =
    λ i I. ap (λ z. bit_at z i) (lane_is (lower 4 15) (get_or q 0 []) (get_or q 4 []) (get_or r 0 []) p (long 0 (omega arith)) (long 4 (omega arith)) P h.r0) ∙ lower_fours (x 0) (x 4) i I in
    let g1 : (i : ℕ) → i < 8 → bit_of r 1 p i ≡ get_or (bit_at (x 1) 0 ∷ bit_at (x 1) 1 ∷ bit_at (x 1) 2 ∷ bit_at (x 1) 3 ∷ bit_at (x 5) 0 ∷ bit_at (x 5) 1 ∷ bit_at (x 5) 2 ∷ bit_at (x 5) 3 ∷ []) i 0 =
    λ i I. ap (λ z. bit_at z i) (lane_is (lower 4 15) (get_or q 1 []) (get_or q 5 []) (get_or r 1 []) p (long 1 (omega arith)) (long 5 (omega arith)) P h.r1) ∙ lower_fours (x 1) (x 5) i I in
    let g2 : (i : ℕ) → i < 8 → bit_of r 2 p i ≡ get_or (bit_at (x 2) 0 ∷ bit_at (x 2) 1 ∷ bit_at (x 2) 2 ∷ bit_at (x 2) 3 ∷ bit_at (x 6) 0 ∷ bit_at (x 6) 1 ∷ bit_at (x 6) 2 ∷ bit_at (x 6) 3 ∷ []) i 0 =
    λ i I. ap (λ z. bit_at z i) (lane_is (lower 4 15) (get_or q 2 []) (get_or q 6 []) (get_or r 2 []) p (long 2 (omega arith)) (long 6 (omega arith)) P h.r2) ∙ lower_fours (x 2) (x 6) i I in
    let g3 : (i : ℕ) → i < 8 → bit_of r 3 p i ≡ get_or (bit_at (x 3) 0 ∷ bit_at (x 3) 1 ∷ bit_at (x 3) 2 ∷ bit_at (x 3) 3 ∷ bit_at (x 7) 0 ∷ bit_at (x 7) 1 ∷ bit_at (x 7) 2 ∷ bit_at (x 7) 3 ∷ []) i 0 =
    λ i I. ap (λ z. bit_at z i) (lane_is (lower 4 15) (get_or q 3 []) (get_or q 7 []) (get_or r 3 []) p (long 3 (omega arith)) (long 7 (omega arith)) P h.r3) ∙ lower_fours (x 3) (x 7) i I in
    let g4 : (i : ℕ) → i < 8 → bit_of r 4 p i ≡ get_or (bit_at (x 0) 4 ∷ bit_at (x 0) 5 ∷ bit_at (x 0) 6 ∷ bit_at (x 0) 7 ∷ bit_at (x 4) 4 ∷ bit_at (x 4) 5 ∷ bit_at (x 4) 6 ∷ bit_at (x 4) 7 ∷ []) i 0 =
    λ i I. ap (λ z. bit_at z i) (lane_is (upper 4 15) (get_or q 0 []) (get_or q 4 []) (get_or r 4 []) p (long 0 (omega arith)) (long 4 (omega arith)) P h.r4) ∙ upper_fours (x 0) (x 4) i I in
    let g5 : (i : ℕ) → i < 8 → bit_of r 5 p i ≡ get_or (bit_at (x 1) 4 ∷ bit_at (x 1) 5 ∷ bit_at (x 1) 6 ∷ bit_at (x 1) 7 ∷ bit_at (x 5) 4 ∷ bit_at (x 5) 5 ∷ bit_at (x 5) 6 ∷ bit_at (x 5) 7 ∷ []) i 0 =
    λ i I. ap (λ z. bit_at z i) (lane_is (upper 4 15) (get_or q 1 []) (get_or q 5 []) (get_or r 5 []) p (long 1 (omega arith)) (long 5 (omega arith)) P h.r5) ∙ upper_fours (x 1) (x 5) i I in
    let g6 : (i : ℕ) → i < 8 → bit_of r 6 p i ≡ get_or (bit_at (x 2) 4 ∷ bit_at (x 2) 5 ∷ bit_at (x 2) 6 ∷ bit_at (x 2) 7 ∷ bit_at (x 6) 4 ∷ bit_at (x 6) 5 ∷ bit_at (x 6) 6 ∷ bit_at (x 6) 7 ∷ []) i 0 =
    λ i I. ap (λ z. bit_at z i) (lane_is (upper 4 15) (get_or q 2 []) (get_or q 6 []) (get_or r 6 []) p (long 2 (omega arith)) (long 6 (omega arith)) P h.r6) ∙ upper_fours (x 2) (x 6) i I in
    let g7 : (i : ℕ) → i < 8 → bit_of r 7 p i ≡ get_or (bit_at (x 3) 4 ∷ bit_at (x 3) 5 ∷ bit_at (x 3) 6 ∷ bit_at (x 3) 7 ∷ bit_at (x 7) 4 ∷ bit_at (x 7) 5 ∷ bit_at (x 7) 6 ∷ bit_at (x 7) 7 ∷ []) i 0 =
    λ i I. ap (λ z. bit_at z i) (lane_is (upper 4 15) (get_or q 3 []) (get_or q 7 []) (get_or r 7 []) p (long 3 (omega arith)) (long 7 (omega arith)) P h.r7) ∙ upper_fours (x 3) (x 7) i I in
    let l0 : 0 < 8 = omega arith in
    let l1 : 1 < 8 = omega arith in
    let l2 : 2 < 8 = omega arith in
    let l3 : 3 < 8 = omega arith in
    let l4 : 4 < 8 = omega arith in
    let l5 : 5 < 8 = omega arith in
    let l6 : 6 < 8 = omega arith in
    let l7 : 7 < 8 = omega arith in
    eight (λ k. (i : ℕ) → i < 8 → bit_of r k p i ≡ bit_of q (place 4 k i) p (place 4 i k))
    (eight (λ i. bit_of r 0 p i ≡ bit_of q (place 4 0 i) p (place 4 i 0)) (g0 0 l0) (g0 1 l1) (g0 2 l2) (g0 3 l3) (g0 4 l4) (g0 5 l5) (g0 6 l6) (g0 7 l7))
    (eight (λ i. bit_of r 1 p i ≡ bit_of q (place 4 1 i) p (place 4 i 1)) (g1 0 l0) (g1 1 l1) (g1 2 l2) (g1 3 l3) (g1 4 l4) (g1 5 l5) (g1 6 l6) (g1 7 l7))
    (eight (λ i. bit_of r 2 p i ≡ bit_of q (place 4 2 i) p (place 4 i 2)) (g2 0 l0) (g2 1 l1) (g2 2 l2) (g2 3 l3) (g2 4 l4) (g2 5 l5) (g2 6 l6) (g2 7 l7))
    (eight (λ i. bit_of r 3 p i ≡ bit_of q (place 4 3 i) p (place 4 i 3)) (g3 0 l0) (g3 1 l1) (g3 2 l2) (g3 3 l3) (g3 4 l4) (g3 5 l5) (g3 6 l6) (g3 7 l7))
    (eight (λ i. bit_of r 4 p i ≡ bit_of q (place 4 4 i) p (place 4 i 4)) (g4 0 l0) (g4 1 l1) (g4 2 l2) (g4 3 l3) (g4 4 l4) (g4 5 l5) (g4 6 l6) (g4 7 l7))
    (eight (λ i. bit_of r 5 p i ≡ bit_of q (place 4 5 i) p (place 4 i 5)) (g5 0 l0) (g5 1 l1) (g5 2 l2) (g5 3 l3) (g5 4 l4) (g5 5 l5) (g5 6 l6) (g5 7 l7))
    (eight (λ i. bit_of r 6 p i ≡ bit_of q (place 4 6 i) p (place 4 i 6)) (g6 0 l0) (g6 1 l1) (g6 2 l2) (g6 3 l3) (g6 4 l4) (g6 5 l5) (g6 6 l6) (g6 7 l7))
    (eight (λ i. bit_of r 7 p i ≡ bit_of q (place 4 7 i) p (place 4 i 7)) (g7 0 l0) (g7 1 l1) (g7 2 l2) (g7 3 l3) (g7 4 l4) (g7 5 l5) (g7 6 l6) (g7 7 l7)) k K i I

-- ---- all three steps

abbrev first_place : ℕ → ℕ → ℕ
first_place k i = place 1 (place 2 (place 4 k i) (place 4 i k)) (place 2 (place 4 i k) (place 4 k i))

places_table : map (λ n. first_place (n / 8) (n % 8)) (range_with_len 0 64) ≡ map (λ n. n % 8) (range_with_len 0 64)
places_table = refl

first_place_is : (k i : ℕ) → k < 8 → i < 8 → first_place k i ≡ i
first_place_is k i K I =
    let n = 8 * k + i in
    let small : n < 64 = omega arith in
    let high : n / 8 ≡ k = omega arith in
    let low : n % 8 ≡ i = omega arith in
    sym (ap (λ k. first_place k (n % 8)) high ∙ ap (first_place k) low)
    ∙ sym (get_or-map-range_with_len (λ n. first_place (n / 8) (n % 8)) 0 64 n n 0 small (zero-add n))
    ∙ ap (λ zs. get_or zs n 0) places_table ∙ get_or-map-range_with_len (λ n. n % 8) 0 64 n n 0 small (zero-add n) ∙ low

pub turned_all : (q o t f : List (List ℕ))
    → ((p k i : ℕ) → p < 16 → k < 8 → i < 8 → bit_of o k p i ≡ bit_of q (place 1 k i) p (place 1 i k))
    → ((p k i : ℕ) → p < 16 → k < 8 → i < 8 → bit_of t k p i ≡ bit_of o (place 2 k i) p (place 2 i k))
    → ((p k i : ℕ) → p < 16 → k < 8 → i < 8 → bit_of f k p i ≡ bit_of t (place 4 k i) p (place 4 i k))
    → (p k i : ℕ) → p < 16 → k < 8 → i < 8 → bit_of f k p i ≡ bit_of q i p k
turned_all q o t f ones twos fours p k i P K I =
    let k4 = place 4 k i in
    let i4 = place 4 i k in
    let k2 = place 2 k4 i4 in
    let i2 = place 2 i4 k4 in
    let K4 : k4 < 8 = omega arith in
    let I4 : i4 < 8 = omega arith in
    let K2 : k2 < 8 = below k4 i4 K4 I4 in
    let I2 : i2 < 8 = below i4 k4 I4 K4 in
    fours p k i P K I ∙ twos p k4 i4 P K4 I4 ∙ ones p k2 i2 P K2 I2
    ∙ ap (λ n. bit_of q n p (first_place i k)) (first_place_is k i K I) ∙ ap (bit_of q i p) (first_place_is i k I K)
  where
    below : (k i : ℕ) → k < 8 → i < 8 → place 2 k i < 8
    below k i K I = omega arith

-- ---- blocks and states

pub state_is : (q t : List (List ℕ)) (blocks : List (List ℕ)) → ((i : ℕ) → i < 8 → moved lane_of (get_or q i []) ≡ get_or blocks i [])
    → ((p k i : ℕ) → p < 16 → k < 8 → i < 8 → bit_of t k p i ≡ bit_of q i p k)
    → AreBytes q → (i : ℕ) → i < 8 → state_at t i ≡ get_or blocks i []
state_is q t blocks same bits small i I =
    map_same (λ p. gathered t (lane_of p) i) (λ p. get_or (get_or q i []) (lane_of p) 0) (λ p P.
    let l = lane_of p in
    let L = lane-lt p P in
    gathered_from t l i (get_or (get_or q i []) l 0) (small i l I L) (λ k K. bits l k i L K I))
    ∙ same i I

pub block_is : (q t : List (List ℕ)) → ((p k i : ℕ) → p < 16 → k < 8 → i < 8 → bit_of t k p i ≡ bit_of q i p k)
    → AreBytes t → (i : ℕ) → i < 8 → moved lane_of (get_or t i []) ≡ state_at q i
block_is q t bits small i I =
    map_same (λ p. get_or (get_or t i []) (lane_of p) 0) (λ p. gathered q (lane_of p) i) (λ p P.
    let l = lane_of p in
    let L = lane-lt p P in
    byte_same (get_or (get_or t i []) l 0) (gathered q l i) (small i l I L) (gathered-lt q l i) (λ k K.
    bits l i k L I K ∙ sym (gathered_bit q l i k K)))

pub lane_small : (v : List ℕ) (p : ℕ) → length v ≡ 16 → Each1 (Fits w8) v → p < 16 → get_or v p 0 < 256
lane_small v p long fits P = (Each1-get_or (Fits w8) v p 0 (omega arith) fits).fits
