-- Eight states by bits.
use Rattle.std.proofs.Common.{◌≡◌, ℕ, zero, suc, ◌+◌, ◌-◌, ◌*◌, ◌%◌, ◌^◌, ◌<◌, Bool, true, false, cond, eqb, List, [], ◌∷◌, ◌++◌, length, get_or, map, replicate, bit_xor, bit_and, refl, sym, ap, subst, take, set, length-set, length-append, inl, inr, ◌≢◌, drop, length-drop, ◌/◌, ◌≤◌, ◌∙◌, arith}
use Rattle.std.specs.List.{range_with_len}
use Rattle.std.specs.Int.{bit_at}
use Rattle.std.proofs.Math.Nat.{zero-add}
use Rattle.std.proofs.lemmas.List.{ext_get_or, length-map, get_or-map, length-take-le, length-replicate, get_or-take, get_or-drop, get_or-set_same, get_or-set_other, get_or_append_left, get_or_at}
use Rattle.std.proofs.lemmas.Bool.{cases_lt}
use Rattle.std.proofs.lemmas.List.FromFn.{get_or-map-range_with_len, length-range_with_len}
use Rattle.std.proofs.lemmas.Simd.{length-zip2, get_or-zip2, get_or-replicate}
use Rattle.std.proofs.lemmas.Nat.Bits.{bit_at_xor, bit_at-lt, bit_at-zero, bit_at_ones, and_pow}
use Rattle.std.proofs.lemmas.Nat.{xor_lt, pow_pos, xor_comm}
use Rattle.std.specs.Int.Bits.{xor_assoc, xor_self, xor_zero_r}
use Rattle.byte_strings.specs.Bytes.{xor_bytes}
use lib.Lanes.{zip2, sel_l, top}
use Rattle.aes_block.specs.Field.{xtime, by_power, low_product, product, s_box}
use Rattle.aes_block.specs.Cipher.{mixed_column, mixed, mix_columns, shift_rows, sub_bytes, round_key}
use Rattle.aes_block.specs.Sliced.{bit_of, byte_from, gathered, state_at, mixed_byte, IsState, IsKeyOf, AreKeysOf, constant, constant_of, without_constant, moved, lane_of, row_place, next_place, half_place}
use Rattle.aes_block.proofs.Circuit.{gathered_from, gathered_bit, gathered-lt, bits_of}

-- a fact of each register
pub eight : (P : ℕ → Type 0) → P 0 → P 1 → P 2 → P 3 → P 4 → P 5 → P 6 → P 7 → (k : ℕ) → k < 8 → P k
eight P a b c d e f g h zero K = a
eight P a b c d e f g h (suc zero) K = b
eight P a b c d e f g h (suc (suc zero)) K = c
eight P a b c d e f g h (suc (suc (suc zero))) K = d
eight P a b c d e f g h (suc (suc (suc (suc zero)))) K = e
eight P a b c d e f g h (suc (suc (suc (suc (suc zero))))) K = f
eight P a b c d e f g h (suc (suc (suc (suc (suc (suc zero)))))) K = g
eight P a b c d e f g h (suc (suc (suc (suc (suc (suc (suc zero))))))) K = h
eight P a b c d e f g h (suc (suc (suc (suc (suc (suc (suc (suc k)))))))) K = absurd (omega arith)

-- a list of n elements, spelled
pub spelled : (xs : List ℕ) (n : ℕ) → length xs ≡ n → xs ≡ map (λ i. get_or xs i 0) (range_with_len 0 n)
spelled xs n e =
    ext_get_or 0 xs _ (omega (arith, length-map (range_with_len 0 n) (λ i. get_or xs i 0), length-range_with_len 0 n)) (λ i h.
    sym (get_or-map-range_with_len (λ i. get_or xs i 0) 0 n i i 0 (omega arith) (zero-add i)))

-- ---- lanes by rows

pub lane-lt : (p : ℕ) → p < 16 → lane_of p < 16
lane-lt p P = omega arith

pub lane_back : (p : ℕ) → p < 16 → lane_of (lane_of p) ≡ p
lane_back p P = omega arith

pub moved_at : (f : ℕ → ℕ) (x : List ℕ) (p : ℕ) → p < 16 → get_or (moved f x) p 0 ≡ get_or x (f p) 0
moved_at f x p P = get_or-map-range_with_len (λ p. get_or x (f p) 0) 0 16 p p 0 P (zero-add p)

pub moved_size : (f : ℕ → ℕ) (x : List ℕ) → length (moved f x) ≡ 16
moved_size f x = length-map (range_with_len 0 16) (λ p. get_or x (f p) 0) ∙ length-range_with_len 0 16

pub moved_back : (x : List ℕ) → length x ≡ 16 → moved lane_of (moved lane_of x) ≡ x
moved_back x long =
    ext_get_or 0 (moved lane_of (moved lane_of x)) x (moved_size lane_of (moved lane_of x) ∙ sym long) (λ p lt.
    let P : p < 16 = omega (arith, moved_size lane_of (moved lane_of x)) in
    moved_at lane_of (moved lane_of x) p P ∙ moved_at lane_of x (lane_of p) (lane-lt p P) ∙ ap (λ p. get_or x p 0) (lane_back p P))

-- ---- a bit of each lane picked

abbrev pub picked_lane : ℕ → ℕ → ℕ → ℕ
picked_lane from to b = cond (eqb (bit_and b from) from) to 0

abbrev same : ℕ → ℕ → ℕ
same a b = cond (eqb a b) (2 ^ 8 - 1) 0

one_choice : (b : Bool) (x y : ℕ) → cond (top 7 (cond b 255 0)) x y ≡ cond b x y
one_choice true x y = refl
one_choice false x y = refl

pub picked_of : (xs : List ℕ) (n from to : ℕ) → length xs ≡ n
    → sel_l (map (top 7) (zip2 same (zip2 bit_and xs (replicate n from)) (replicate n from))) (replicate n to) (replicate n 0) ≡ map (picked_lane from to) xs
picked_of [] n from to e = refl
picked_of (x ∷ xs) zero from to e = absurd (omega arith)
picked_of (x ∷ xs) (suc n) from to e =
    let rest = picked_of xs n from to (omega arith) in
    rw (one_choice (eqb (bit_and x from) from) to 0, rest) refl

-- what stands in lane p
pub record Lane (p : ℕ) (xs : List ℕ) (n : ℕ) : Type 0 where
  pub long : length xs ≡ 16
  pub is : get_or xs p 0 ≡ n

picked_bit : (b k to : ℕ) → picked_lane (2 ^ k) to b ≡ bit_at b k * to
picked_bit b k to = rw (and_pow b k) (go (bit_at b k) (bit_at-lt b k) (2 ^ k) (pow_pos k))
  where
    go : (a : ℕ) → a < 2 → (m : ℕ) → 0 < m → cond (eqb (a * m) m) to 0 ≡ a * to
    go zero lt m pos = grind arith
    go (suc zero) lt m pos = grind arith
    go (suc (suc a)) lt m pos = absurd (omega arith)

pub picked_here : (p k to : ℕ) → p < 16 → (xs rs : List ℕ) → length xs ≡ 16 → rs ≡ map (picked_lane (2 ^ k) to) xs → Lane p rs (bit_at (get_or xs p 0) k * to)
picked_here p k to P xs rs long e = record {
  long = ap length e ∙ length-map xs (picked_lane (2 ^ k) to) ∙ long;
  is = ap (λ zs. get_or zs p 0) e ∙ get_or-map (picked_lane (2 ^ k) to) xs p 0 0 (omega arith) ∙ picked_bit (get_or xs p 0) k to;
}

-- ---- twice a byte

abbrev pub twice : List (List ℕ) → List (List ℕ)
twice m = get_or m 7 [] ∷ zip2 bit_xor (get_or m 0 []) (get_or m 7 []) ∷ get_or m 1 [] ∷ zip2 bit_xor (get_or m 2 []) (get_or m 7 []) ∷ zip2 bit_xor (get_or m 3 []) (get_or m 7 [])
    ∷ get_or m 4 [] ∷ get_or m 5 [] ∷ get_or m 6 [] ∷ []

pub added_long : (xs ys : List ℕ) → length xs ≡ 16 → length ys ≡ 16 → length (zip2 bit_xor xs ys) ≡ 16
added_long xs ys a b = length-zip2 bit_xor xs ys (a ∙ sym b) ∙ a

pub twice_long : (m : List (List ℕ)) → IsState m → IsState (twice m)
twice_long m long =
    let at : (k : ℕ) → k < 8 → length (get_or m k []) ≡ 16 = long in
    let sum : (k : ℕ) → k < 8 → length (zip2 bit_xor (get_or m k []) (get_or m 7 [])) ≡ 16 = λ k K. added_long (get_or m k []) (get_or m 7 []) (at k K) (at 7 (omega arith)) in
    eight (λ k. length (get_or (twice m) k []) ≡ 16) (at 7 (omega arith)) (sum 0 (omega arith)) (at 1 (omega arith)) (sum 2 (omega arith)) (sum 3 (omega arith)) (at 4 (omega arith)) (at 5 (omega arith)) (at 6 (omega arith))

pub added_bit : (xs ys : List ℕ) (p i : ℕ) → p < 16 → length xs ≡ 16 → length ys ≡ 16 → bit_at (get_or (zip2 bit_xor xs ys) p 0) i ≡ (bit_at (get_or xs p 0) i + bit_at (get_or ys p 0) i) % 2
added_bit xs ys p i P a b = ap (λ z. bit_at z i) (get_or-zip2 bit_xor xs ys p 0 0 0 (omega arith) (omega arith)) ∙ bit_at_xor (get_or xs p 0) (get_or ys p 0) i

agree : (f g : ℕ → ℕ) → map f (range_with_len 0 256) ≡ map g (range_with_len 0 256) → (x : ℕ) → x < 256 → f x ≡ g x
agree f g table x small =
    sym (get_or-map-range_with_len f 0 256 x x 0 small (zero-add x)) ∙ ap (λ zs. get_or zs x 0) table ∙ get_or-map-range_with_len g 0 256 x x 0 small (zero-add x)

xtime_one : (j k : ℕ) → map (λ v. bit_at (xtime v) j) (range_with_len 0 256) ≡ map (λ v. bit_at v k) (range_with_len 0 256) → (v : ℕ) → v < 256 → bit_at (xtime v) j ≡ bit_at v k
xtime_one j k table v V = agree (λ v. bit_at (xtime v) j) (λ v. bit_at v k) table v V

xtime_two : (j k : ℕ) → map (λ v. bit_at (xtime v) j) (range_with_len 0 256) ≡ map (λ v. (bit_at v k + bit_at v 7) % 2) (range_with_len 0 256) → (v : ℕ) → v < 256 → bit_at (xtime v) j ≡ (bit_at v k + bit_at v 7) % 2
xtime_two j k table v V = agree (λ v. bit_at (xtime v) j) (λ v. (bit_at v k + bit_at v 7) % 2) table v V

lt_table : map (λ v. xtime v % 256) (range_with_len 0 256) ≡ map xtime (range_with_len 0 256)
unfolding xtime
lt_table = refl

pub xtime-lt : (v : ℕ) → v < 256 → xtime v < 256
xtime-lt v V = let e = agree (λ v. xtime v % 256) xtime lt_table v V in omega (arith, e)

pub twice_bytes : (m : List (List ℕ)) → IsState m → (p i : ℕ) → p < 16 → i < 8 → gathered (twice m) p i ≡ xtime (gathered m p i)
unfolding xtime
twice_bytes m long p i P I =
    let v = gathered m p i in
    let V = gathered-lt m p i in
    let one : (j k : ℕ) → k < 8 → bit_at (xtime v) j ≡ bit_at v k → bit_of m k p i ≡ bit_at (xtime v) j = λ j k K e. sym (gathered_bit m p i k K) ∙ sym e in
    let two : (j k : ℕ) → k < 8 → bit_at (xtime v) j ≡ (bit_at v k + bit_at v 7) % 2 → bit_at (get_or (zip2 bit_xor (get_or m k []) (get_or m 7 [])) p 0) i ≡ bit_at (xtime v) j =
    λ j k K e. added_bit (get_or m k []) (get_or m 7 []) p i P (long k K) (long 7 (omega arith)) ∙ ap (λ z. (z + bit_of m 7 p i) % 2) (sym (gathered_bit m p i k K)) ∙ ap (λ z. (bit_at v k + z) % 2) (sym (gathered_bit m p i 7 (omega arith))) ∙ sym e in
    gathered_from (twice m) p i (xtime v) (xtime-lt v V)
    (eight (λ k. bit_of (twice m) k p i ≡ bit_at (xtime v) k)
    (one 0 7 (omega arith) (xtime_one 0 7 refl v V)) (two 1 0 (omega arith) (xtime_two 1 0 refl v V)) (one 2 1 (omega arith) (xtime_one 2 1 refl v V)) (two 3 2 (omega arith) (xtime_two 3 2 refl v V))
    (two 4 3 (omega arith) (xtime_two 4 3 refl v V)) (one 5 4 (omega arith) (xtime_one 5 4 refl v V)) (one 6 5 (omega arith) (xtime_one 6 5 refl v V)) (one 7 6 (omega arith) (xtime_one 7 6 refl v V)))

mapped_long : (f : ℕ → ℕ) (xs rs : List ℕ) → length xs ≡ 16 → rs ≡ map f xs → length rs ≡ 16
mapped_long f xs rs long e = ap length e ∙ length-map xs f ∙ long

-- ---- lanes that move, and sums

pub moved_long : (f : ℕ → ℕ) (q r : List (List ℕ)) → ((k : ℕ) → k < 8 → get_or r k [] ≡ moved f (get_or q k [])) → IsState r
moved_long f q r h k K = ap length (h k K) ∙ length-map (range_with_len 0 16) (λ p. get_or (get_or q k []) (f p) 0) ∙ length-range_with_len 0 16

pub same_bits : (q r : List (List ℕ)) (p i p' i' : ℕ) → ((k : ℕ) → k < 8 → bit_of r k p i ≡ bit_of q k p' i') → gathered r p i ≡ gathered q p' i'
same_bits q r p i p' i' h =
    gathered_from r p i (gathered q p' i') (gathered-lt q p' i') (λ k K. h k K ∙ sym (gathered_bit q p' i' k K))

pub moved_bytes : (f : ℕ → ℕ) (q r : List (List ℕ)) → ((k : ℕ) → k < 8 → get_or r k [] ≡ moved f (get_or q k [])) → (p i : ℕ) → p < 16 → gathered r p i ≡ gathered q (f p) i
moved_bytes f q r h p i P =
    same_bits q r p i (f p) i (λ k K. ap (λ n. bit_at n i) (ap (λ zs. get_or zs p 0) (h k K) ∙ get_or-map-range_with_len (λ p. get_or (get_or q k []) (f p) 0) 0 16 p p 0 P (zero-add p)))

pub added_long_of : (a b r : List (List ℕ)) → IsState a → IsState b → ((k : ℕ) → k < 8 → get_or r k [] ≡ zip2 bit_xor (get_or a k []) (get_or b k [])) → IsState r
added_long_of a b r la lb h k K = ap length (h k K) ∙ added_long (get_or a k []) (get_or b k []) (la k K) (lb k K)

pub added_bytes : (a b r : List (List ℕ)) → IsState a → IsState b → ((k : ℕ) → k < 8 → get_or r k [] ≡ zip2 bit_xor (get_or a k []) (get_or b k []))
    → (p i : ℕ) → p < 16 → gathered r p i ≡ bit_xor (gathered a p i) (gathered b p i)
added_bytes a b r la lb h p i P =
    gathered_from r p i (bit_xor (gathered a p i) (gathered b p i)) (xor_lt 8 (gathered a p i) (gathered b p i) (gathered-lt a p i) (gathered-lt b p i)) (λ k K.
    ap (λ zs. bit_at (get_or zs p 0) i) (h k K) ∙ added_bit (get_or a k []) (get_or b k []) p i P (la k K) (lb k K)
    ∙ ap (λ z. (z + bit_of b k p i) % 2) (sym (gathered_bit a p i k K)) ∙ ap (λ z. (bit_at (gathered a p i) k + z) % 2) (sym (gathered_bit b p i k K))
    ∙ sym (bit_at_xor (gathered a p i) (gathered b p i) k))

-- ---- a key

all_bits : (b i : ℕ) → b < 2 → i < 8 → bit_at (b * 255) i ≡ b
all_bits zero i lt I = bit_at-zero i
all_bits (suc zero) i lt I = bit_at_ones 8 i I
all_bits (suc (suc b)) i lt I = absurd (omega arith)

spread_bit : (x : List ℕ) (p i k : ℕ) → length x ≡ 16 → p < 16 → i < 8 → bit_at (get_or (map (picked_lane (2 ^ k) 255) x) p 0) i ≡ bit_at (get_or x p 0) k
spread_bit x p i k long P I =
    ap (λ n. bit_at n i) (picked_here p k 255 P x (map (picked_lane (2 ^ k) 255) x) long refl).is
    ∙ all_bits (bit_at (get_or x p 0) k) i (bit_at-lt (get_or x p 0) k) I

pub key_bytes : (x : List ℕ) (r : List (List ℕ)) → length x ≡ 16 → ((p : ℕ) → p < 16 → get_or x p 0 < 256)
    → ((k : ℕ) → k < 8 → get_or r k [] ≡ map (picked_lane (2 ^ k) 255) x) → (p i : ℕ) → p < 16 → i < 8 → gathered r p i ≡ get_or x p 0
key_bytes x r long small h p i P I =
    gathered_from r p i (get_or x p 0) (small p P) (λ k K. ap (λ zs. bit_at (get_or zs p 0) i) (h k K) ∙ spread_bit x p i k long P I)

-- the lanes of a round key with c added to each
abbrev pub key_lanes : List ℕ → ℕ → List ℕ
key_lanes key c = zip2 bit_xor (moved lane_of key) (replicate 16 c)

pub key_lanes_long : (key : List ℕ) (c : ℕ) → length (key_lanes key c) ≡ 16
key_lanes_long key c = length-zip2 bit_xor (moved lane_of key) (replicate 16 c) (moved_size lane_of key ∙ sym (length-replicate {A = ℕ} 16 c)) ∙ moved_size lane_of key

key_lanes_at : (key : List ℕ) (c p : ℕ) → p < 16 → get_or (key_lanes key c) p 0 ≡ bit_xor (get_or key (lane_of p) 0) c
key_lanes_at key c p P =
    get_or-zip2 bit_xor (moved lane_of key) (replicate 16 c) p 0 0 0 (omega (arith, moved_size lane_of key)) (omega (arith, length-replicate {A = ℕ} 16 c))
    ∙ ap (λ z. bit_xor z (get_or (replicate 16 c) p 0)) (moved_at lane_of key p P) ∙ ap (bit_xor (get_or key (lane_of p) 0)) (get_or-replicate 16 p c 0 P)

-- register m % 8 of round key m / 8
abbrev pub key_register : List ℕ → ℕ → List ℕ
key_register w m = map (picked_lane (2 ^ (m % 8)) 255) (key_lanes (round_key w (m / 8)) (constant_of m))

pub keys_from : (w : List ℕ) (keys : List (List ℕ)) (nr : ℕ) → 16 * nr + 16 ≤ length w → ((p : ℕ) → get_or w p 0 < 256)
    → ((m : ℕ) → m < 8 * (nr + 1) → get_or keys m [] ≡ key_register w m) → AreKeysOf keys w nr
keys_from w keys nr long small filled j J q same =
    let x = round_key w j in
    let c = constant_of (8 * j) in
    let lanes = key_lanes x c in
    let size : length x ≡ 16 = length-take-le 16 (drop (16 * j) w) (omega (arith, length-drop (16 * j) w)) in
    let byte : (p : ℕ) → p < 16 → get_or x p 0 < 256 = λ p P. subst (λ n. n < 256) (sym (get_or-take 16 (drop (16 * j) w) p 0 P ∙ get_or-drop (16 * j) w p 0)) (small (16 * j + p)) in
    let here : (k : ℕ) → k < 8 → get_or q k [] ≡ map (picked_lane (2 ^ k) 255) lanes =
    λ k K.
    let m = 8 * j + k in
    let low : m % 8 ≡ k = omega arith in
    let high : m / 8 ≡ j = omega arith in
    let mark : constant_of m ≡ c = omega arith in
    same k K ∙ filled m (omega arith) ∙ ap (λ n. map (picked_lane (2 ^ n) 255) (key_lanes (round_key w (m / 8)) (constant_of m))) low
    ∙ ap (λ n. map (picked_lane (2 ^ k) 255) (key_lanes (round_key w n) (constant_of m))) high ∙ ap (λ n. map (picked_lane (2 ^ k) 255) (key_lanes x n)) mark in
    let C : c < 256 = omega arith in
    let lane : (p : ℕ) → p < 16 → get_or lanes p 0 < 256 =
    λ p P. subst (λ n. n < 256) (sym (key_lanes_at x c p P)) (xor_lt 8 (get_or x (lane_of p) 0) c (byte (lane_of p) (lane-lt p P)) C) in
    record {
      registers = λ k K. mapped_long (picked_lane (2 ^ k) 255) lanes (get_or q k []) (key_lanes_long x c) (here k K);
      long = size;
      bytes = λ p i P I.
          key_bytes lanes q (key_lanes_long x c) lane here (lane_of p) i (lane-lt p P) I
          ∙ key_lanes_at x c (lane_of p) (lane-lt p P) ∙ ap (λ p. bit_xor (get_or x p 0) c) (lane_back p P);
    }

-- ---- blocks that count

pub record HasCounted (x : List ℕ) (r : List (List ℕ)) : Type 0 where
  pub r0 : get_or r 0 [] ≡ set (map (picked_lane (2 ^ 0) 255) x) 15 0xaa
  pub r1 : get_or r 1 [] ≡ set (map (picked_lane (2 ^ 1) 255) x) 15 0xcc
  pub r2 : get_or r 2 [] ≡ set (map (picked_lane (2 ^ 2) 255) x) 15 0xf0
  pub r3 : get_or r 3 [] ≡ map (picked_lane (2 ^ 3) 255) x
  pub r4 : get_or r 4 [] ≡ map (picked_lane (2 ^ 4) 255) x
  pub r5 : get_or r 5 [] ≡ map (picked_lane (2 ^ 5) 255) x
  pub r6 : get_or r 6 [] ≡ map (picked_lane (2 ^ 6) 255) x
  pub r7 : get_or r 7 [] ≡ map (picked_lane (2 ^ 7) 255) x

pub counted_long : (x : List ℕ) (r : List (List ℕ)) → length x ≡ 16 → HasCounted x r → IsState r
counted_long x r long h =
    let size : (f : ℕ → ℕ) → length (map f x) ≡ 16 = λ f. length-map x f ∙ long in
    eight (λ k. length (get_or r k []) ≡ 16)
    (ap length h.r0 ∙ length-set (map (picked_lane (2 ^ 0) 255) x) 15 0xaa ∙ size (picked_lane (2 ^ 0) 255))
    (ap length h.r1 ∙ length-set (map (picked_lane (2 ^ 1) 255) x) 15 0xcc ∙ size (picked_lane (2 ^ 1) 255))
    (ap length h.r2 ∙ length-set (map (picked_lane (2 ^ 2) 255) x) 15 0xf0 ∙ size (picked_lane (2 ^ 2) 255))
    (ap length h.r3 ∙ size (picked_lane (2 ^ 3) 255))
    (ap length h.r4 ∙ size (picked_lane (2 ^ 4) 255))
    (ap length h.r5 ∙ size (picked_lane (2 ^ 5) 255))
    (ap length h.r6 ∙ size (picked_lane (2 ^ 6) 255))
    (ap length h.r7 ∙ size (picked_lane (2 ^ 7) 255))

counted_front : (x : List ℕ) (r : List (List ℕ)) (p i : ℕ) → length x ≡ 16 → HasCounted x r → get_or x p 0 < 256 → p < 15 → i < 8
    → gathered r p i ≡ get_or x p 0
counted_front x r p i long h small P' I =
    let P : p < 16 = omega arith in
    let other : p ≢ 15 = omega arith in
    gathered_from r p i (get_or x p 0) small (eight (λ k. bit_of r k p i ≡ bit_at (get_or x p 0) k)
    (ap (λ zs. bit_at (get_or zs p 0) i) h.r0 ∙ ap (λ n. bit_at n i) (get_or-set_other (map (picked_lane (2 ^ 0) 255) x) 15 p 0xaa 0 other) ∙ spread_bit x p i 0 long P I)
    (ap (λ zs. bit_at (get_or zs p 0) i) h.r1 ∙ ap (λ n. bit_at n i) (get_or-set_other (map (picked_lane (2 ^ 1) 255) x) 15 p 0xcc 0 other) ∙ spread_bit x p i 1 long P I)
    (ap (λ zs. bit_at (get_or zs p 0) i) h.r2 ∙ ap (λ n. bit_at n i) (get_or-set_other (map (picked_lane (2 ^ 2) 255) x) 15 p 0xf0 0 other) ∙ spread_bit x p i 2 long P I)
    (ap (λ zs. bit_at (get_or zs p 0) i) h.r3 ∙ spread_bit x p i 3 long P I)
    (ap (λ zs. bit_at (get_or zs p 0) i) h.r4 ∙ spread_bit x p i 4 long P I)
    (ap (λ zs. bit_at (get_or zs p 0) i) h.r5 ∙ spread_bit x p i 5 long P I)
    (ap (λ zs. bit_at (get_or zs p 0) i) h.r6 ∙ spread_bit x p i 6 long P I)
    (ap (λ zs. bit_at (get_or zs p 0) i) h.r7 ∙ spread_bit x p i 7 long P I))

counted_end : (x : List ℕ) (r : List (List ℕ)) (i : ℕ) → length x ≡ 16 → HasCounted x r → get_or x 15 0 < 256 → i < 8
    → gathered r 15 i ≡ get_or x 15 0 / 8 * 8 + i
counted_end x r i long h small I =
    let v = get_or x 15 0 in
    let last : (k : ℕ) → 15 < length (map (picked_lane (2 ^ k) 255) x) = λ k. omega (arith, length-map x (picked_lane (2 ^ k) 255)) in
    gathered_from r 15 i (v / 8 * 8 + i) (omega arith) (eight (λ k. bit_of r k 15 i ≡ bit_at (v / 8 * 8 + i) k)
    (ap (λ zs. bit_at (get_or zs 15 0) i) h.r0 ∙ ap (λ n. bit_at n i) (get_or-set_same (map (picked_lane (2 ^ 0) 255) x) 15 0xaa 0 (last 0)) ∙ eight (λ i. bit_at 0xaa i ≡ bit_at i 0) refl refl refl refl refl refl refl refl i I ∙ omega arith)
    (ap (λ zs. bit_at (get_or zs 15 0) i) h.r1 ∙ ap (λ n. bit_at n i) (get_or-set_same (map (picked_lane (2 ^ 1) 255) x) 15 0xcc 0 (last 1)) ∙ eight (λ i. bit_at 0xcc i ≡ bit_at i 1) refl refl refl refl refl refl refl refl i I ∙ omega arith)
    (ap (λ zs. bit_at (get_or zs 15 0) i) h.r2 ∙ ap (λ n. bit_at n i) (get_or-set_same (map (picked_lane (2 ^ 2) 255) x) 15 0xf0 0 (last 2)) ∙ eight (λ i. bit_at 0xf0 i ≡ bit_at i 2) refl refl refl refl refl refl refl refl i I ∙ omega arith)
    (ap (λ zs. bit_at (get_or zs 15 0) i) h.r3 ∙ spread_bit x 15 i 3 long (omega arith) I ∙ omega arith)
    (ap (λ zs. bit_at (get_or zs 15 0) i) h.r4 ∙ spread_bit x 15 i 4 long (omega arith) I ∙ omega arith)
    (ap (λ zs. bit_at (get_or zs 15 0) i) h.r5 ∙ spread_bit x 15 i 5 long (omega arith) I ∙ omega arith)
    (ap (λ zs. bit_at (get_or zs 15 0) i) h.r6 ∙ spread_bit x 15 i 6 long (omega arith) I ∙ omega arith)
    (ap (λ zs. bit_at (get_or zs 15 0) i) h.r7 ∙ spread_bit x 15 i 7 long (omega arith) I ∙ omega arith))

pub counted_is : (x : List ℕ) (r : List (List ℕ)) → length x ≡ 16 → ((p : ℕ) → p < 16 → get_or x p 0 < 256) → HasCounted x r → (i : ℕ) → i < 8
    → state_at r i ≡ take 15 (moved lane_of x) ++ (get_or (moved lane_of x) 15 0 / 8 * 8 + i) ∷ []
counted_is x r long small h i I =
    let block = moved lane_of x in
    let e = get_or block 15 0 / 8 * 8 + i in
    let size : length (state_at r i) ≡ 16 = length-map (range_with_len 0 16) (λ p. gathered r (lane_of p) i) ∙ length-range_with_len 0 16 in
    let front : length (take 15 block) ≡ 15 = length-take-le 15 block (omega (arith, moved_size lane_of x)) in
    let whole : length (take 15 block ++ e ∷ []) ≡ 16 = omega (arith, length-append (take 15 block) (e ∷ []), front) in
    ext_get_or 0 (state_at r i) (take 15 block ++ e ∷ []) (size ∙ sym whole) (λ p lt.
    let P : p < 16 = omega (arith, size) in
    get_or-map-range_with_len (λ p. gathered r (lane_of p) i) 0 16 p p 0 P (zero-add p)
    ∙ elim (cases_lt p 15) [
      | inl low ↦ counted_front x r (lane_of p) i long h (small (lane_of p) (lane-lt p P)) (omega arith) I
          ∙ sym (get_or_append_left (take 15 block) (e ∷ []) 0 p (omega (arith, front)) ∙ get_or-take 15 block p 0 low ∙ moved_at lane_of x p P)
      | inr high ↦
          let is : p ≡ 15 = omega arith in
          ap (λ p. gathered r (lane_of p) i) is ∙ counted_end x r i long h (small 15 (omega arith)) I
          ∙ ap (λ n. n / 8 * 8 + i) (sym (moved_at lane_of x 15 (omega arith)))
          ∙ sym (ap (λ p. get_or (take 15 block ++ e ∷ []) p 0) is ∙ get_or_at (take 15 block) e [] 0 15 front)
    ])

-- ---- whole states

pub state_added : (q k r : List (List ℕ)) (key : List ℕ) → length key ≡ 16 → ((p i : ℕ) → p < 16 → i < 8 → gathered k (lane_of p) i ≡ get_or key p 0)
    → ((p i : ℕ) → p < 16 → gathered r p i ≡ bit_xor (gathered q p i) (gathered k p i)) → (i : ℕ) → i < 8 → state_at r i ≡ xor_bytes (state_at q i) key
state_added q k r key long kb rb i I =
    let size : length (state_at r i) ≡ 16 = length-map (range_with_len 0 16) (λ p. gathered r (lane_of p) i) ∙ length-range_with_len 0 16 in
    let qsize : length (state_at q i) ≡ 16 = length-map (range_with_len 0 16) (λ p. gathered q (lane_of p) i) ∙ length-range_with_len 0 16 in
    ext_get_or 0 (state_at r i) (xor_bytes (state_at q i) key) (size ∙ sym (length-zip2 bit_xor (state_at q i) key (qsize ∙ sym long) ∙ qsize)) (λ p lt.
    let P : p < 16 = omega (arith, size) in
    get_or-map-range_with_len (λ p. gathered r (lane_of p) i) 0 16 p p 0 P (zero-add p) ∙ rb (lane_of p) i (lane-lt p P) ∙ ap (bit_xor (gathered q (lane_of p) i)) (kb p i P I)
    ∙ ap (λ z. bit_xor z (get_or key p 0)) (sym (get_or-map-range_with_len (λ p. gathered q (lane_of p) i) 0 16 p p 0 P (zero-add p)))
    ∙ sym (get_or-zip2 bit_xor (state_at q i) key p 0 0 0 (omega (arith, qsize)) (omega arith)))

-- ---- the columns

pub map_same : (f g : ℕ → ℕ) → ((p : ℕ) → p < 16 → f p ≡ g p) → map f (range_with_len 0 16) ≡ map g (range_with_len 0 16)
map_same f g h =
    let lf : length (map f (range_with_len 0 16)) ≡ 16 = length-map (range_with_len 0 16) f ∙ length-range_with_len 0 16 in
    let lg : length (map g (range_with_len 0 16)) ≡ 16 = length-map (range_with_len 0 16) g ∙ length-range_with_len 0 16 in
    ext_get_or 0 (map f (range_with_len 0 16)) (map g (range_with_len 0 16)) (lf ∙ sym lg) (λ p lt.
    let P : p < 16 = omega (arith, lf) in
    get_or-map-range_with_len f 0 16 p p 0 P (zero-add p) ∙ h p P ∙ sym (get_or-map-range_with_len g 0 16 p p 0 P (zero-add p)))

pub byte_same : (m n : ℕ) → m < 256 → n < 256 → ((k : ℕ) → k < 8 → bit_at m k ≡ bit_at n k) → m ≡ n
byte_same m n M N h =
    let b0 = h 0 (omega arith) in
    let b1 = h 1 (omega arith) in
    let b2 = h 2 (omega arith) in
    let b3 = h 3 (omega arith) in
    let b4 = h 4 (omega arith) in
    let b5 = h 5 (omega arith) in
    let b6 = h 6 (omega arith) in
    let b7 = h 7 (omega arith) in
    let both : byte_from m ≡ byte_from n = omega (arith, b0, b1, b2, b3, b4, b5, b6, b7) in
    sym (bits_of m M) ∙ both ∙ bits_of n N

two_table : map (product 2) (range_with_len 0 256) ≡ map xtime (range_with_len 0 256)
unfolding xtime by_power low_product product
two_table = refl

three_table : map (product 3) (range_with_len 0 256) ≡ map (λ a. bit_xor (xtime a) a) (range_with_len 0 256)
unfolding xtime by_power low_product product
three_table = refl

x8 : (a b : ℕ) → a < 256 → b < 256 → bit_xor a b < 256
x8 a b A B = xor_lt 8 a b A B

xtime_sum : (a b : ℕ) → a < 256 → b < 256 → xtime (bit_xor a b) ≡ bit_xor (xtime a) (xtime b)
unfolding xtime
xtime_sum a b A B =
    let c = bit_xor a b in
    let C = x8 a b A B in
    let one : (j k : ℕ) → ((v : ℕ) → v < 256 → bit_at (xtime v) j ≡ bit_at v k) → bit_at (xtime c) j ≡ bit_at (bit_xor (xtime a) (xtime b)) j =
    λ j k e. e c C ∙ bit_at_xor a b k ∙ ap (λ z. (z + bit_at b k) % 2) (sym (e a A)) ∙ ap (λ z. (bit_at (xtime a) j + z) % 2) (sym (e b B)) ∙ sym (bit_at_xor (xtime a) (xtime b) j) in
    let two : (j k : ℕ) → ((v : ℕ) → v < 256 → bit_at (xtime v) j ≡ (bit_at v k + bit_at v 7) % 2) → bit_at (xtime c) j ≡ bit_at (bit_xor (xtime a) (xtime b)) j =
    λ j k e. e c C ∙ ap (λ z. (z + bit_at c 7) % 2) (bit_at_xor a b k) ∙ ap (λ z. ((bit_at a k + bit_at b k) % 2 + z) % 2) (bit_at_xor a b 7)
    ∙ mixes (bit_at a k) (bit_at b k) (bit_at a 7) (bit_at b 7)
    ∙ ap (λ z. (z + (bit_at b k + bit_at b 7) % 2) % 2) (sym (e a A)) ∙ ap (λ z. (bit_at (xtime a) j + z) % 2) (sym (e b B)) ∙ sym (bit_at_xor (xtime a) (xtime b) j) in
    byte_same (xtime c) (bit_xor (xtime a) (xtime b)) (xtime-lt c C) (x8 (xtime a) (xtime b) (xtime-lt a A) (xtime-lt b B))
    (eight (λ j. bit_at (xtime c) j ≡ bit_at (bit_xor (xtime a) (xtime b)) j)
    (one 0 7 (xtime_one 0 7 refl)) (two 1 0 (xtime_two 1 0 refl)) (one 2 1 (xtime_one 2 1 refl)) (two 3 2 (xtime_two 3 2 refl))
    (two 4 3 (xtime_two 4 3 refl)) (one 5 4 (xtime_one 5 4 refl)) (one 6 5 (xtime_one 6 5 refl)) (one 7 6 (xtime_one 7 6 refl)))
  where
    mixes : (w x y z : ℕ) → ((w + x) % 2 + (y + z) % 2) % 2 ≡ ((w + y) % 2 + (x + z) % 2) % 2
    mixes w x y z = omega arith

-- sums of five in the orders that occur

swap : (a b c : ℕ) → bit_xor (bit_xor a b) c ≡ bit_xor (bit_xor a c) b
swap a b c = xor_assoc a b c ∙ ap (bit_xor a) (xor_comm b c) ∙ sym (xor_assoc a c b)

-- what both of two have
cancel : (a b c : ℕ) → bit_xor (bit_xor a c) (bit_xor b c) ≡ bit_xor a b
cancel a b c =
    sym (xor_assoc (bit_xor a c) b c) ∙ ap (λ z. bit_xor z c) (swap a c b) ∙ xor_assoc (bit_xor a b) c c ∙ ap (bit_xor (bit_xor a b)) (xor_self c) ∙ xor_zero_r (bit_xor a b)

flat : (a b c d e : ℕ) → bit_xor (bit_xor (bit_xor a b) c) (bit_xor d e) ≡ bit_xor (bit_xor (bit_xor (bit_xor a b) c) d) e
flat a b c d e = sym (xor_assoc (bit_xor (bit_xor a b) c) d e)

-- twice a and b, and b, c, d
row0 : (A B b c d : ℕ) → bit_xor (bit_xor (bit_xor A (bit_xor B b)) c) d ≡ bit_xor (bit_xor (bit_xor A B) b) (bit_xor c d)
row0 A B b c d = ap (λ z. bit_xor (bit_xor z c) d) (sym (xor_assoc A B b)) ∙ sym (flat A B b c d)

row1 : (a B C c d : ℕ) → bit_xor (bit_xor (bit_xor a B) (bit_xor C c)) d ≡ bit_xor (bit_xor (bit_xor B C) c) (bit_xor d a)
row1 a B C c d =
    ap (λ z. bit_xor z d) (sym (xor_assoc (bit_xor a B) C c) ∙ ap (λ z. bit_xor z c) (ap (λ z. bit_xor z C) (xor_comm a B) ∙ swap B a C) ∙ swap (bit_xor B C) a c)
    ∙ swap (bit_xor (bit_xor B C) c) a d ∙ sym (flat B C c d a)

row2 : (a b C D d : ℕ) → bit_xor (bit_xor (bit_xor a b) C) (bit_xor D d) ≡ bit_xor (bit_xor (bit_xor C D) d) (bit_xor a b)
row2 a b C D d =
    xor_assoc (bit_xor a b) C (bit_xor D d) ∙ xor_comm (bit_xor a b) (bit_xor C (bit_xor D d)) ∙ ap (λ z. bit_xor z (bit_xor a b)) (sym (xor_assoc C D d))

row3 : (A a b c D : ℕ) → bit_xor (bit_xor (bit_xor (bit_xor A a) b) c) D ≡ bit_xor (bit_xor (bit_xor D A) a) (bit_xor b c)
row3 A a b c D =
    xor_comm (bit_xor (bit_xor (bit_xor A a) b) c) D ∙ ap (bit_xor D) (xor_assoc (bit_xor A a) b c) ∙ sym (xor_assoc D (bit_xor A a) (bit_xor b c))
    ∙ ap (λ z. bit_xor z (bit_xor b c)) (sym (xor_assoc D A a))

pub column_is : (a b c d : ℕ) → a < 256 → b < 256 → c < 256 → d < 256
    → mixed_column a b c d ≡ mixed_byte a b c d ∷ mixed_byte b c d a ∷ mixed_byte c d a b ∷ mixed_byte d a b c ∷ []
column_is a b c d A B C D =
    let t : (x : ℕ) → x < 256 → product 2 x ≡ xtime x = agree (product 2) xtime two_table in
    let h : (x : ℕ) → x < 256 → product 3 x ≡ bit_xor (xtime x) x = agree (product 3) (λ a. bit_xor (xtime a) a) three_table in
    let s : (x y : ℕ) → x < 256 → y < 256 → bit_xor (xtime x) (xtime y) ≡ xtime (bit_xor x y) = λ x y X Y. sym (xtime_sum x y X Y) in
    let ta = t a A in
    let tb = t b B in
    let tc = t c C in
    let td = t d D in
    let ha = h a A in
    let hb = h b B in
    let hc = h c C in
    let hd = h d D in
    let r0 = row0 (xtime a) (xtime b) b c d ∙ ap (λ z. bit_xor (bit_xor z b) (bit_xor c d)) (s a b A B) in
    let r1 = row1 a (xtime b) (xtime c) c d ∙ ap (λ z. bit_xor (bit_xor z c) (bit_xor d a)) (s b c B C) in
    let r2 = row2 a b (xtime c) (xtime d) d ∙ ap (λ z. bit_xor (bit_xor z d) (bit_xor a b)) (s c d C D) in
    let r3 = row3 (xtime a) a b c (xtime d) ∙ ap (λ z. bit_xor (bit_xor z a) (bit_xor b c)) (s d a D A) in
    rw (ta, tb, tc, td, ha, hb, hc, hd, r0, r1, r2, r3) refl

-- MixColumns of a state with byte b l in lane l
pub mixed_state : (b : ℕ → ℕ) → ((l : ℕ) → b l < 256)
    → map (λ p. mixed_byte (b (lane_of p)) (b (next_place (lane_of p))) (b (half_place (lane_of p))) (b (next_place (half_place (lane_of p))))) (range_with_len 0 16)
    ≡ mix_columns (map (λ p. b (lane_of p)) (range_with_len 0 16))
unfolding mix_columns
mixed_state b g =
    let state = map (λ p. b (lane_of p)) (range_with_len 0 16) in
    let c0 = column_is (b 0) (b 4) (b 8) (b 12) (g 0) (g 4) (g 8) (g 12) in
    let c1 = column_is (b 1) (b 5) (b 9) (b 13) (g 1) (g 5) (g 9) (g 13) in
    let c2 = column_is (b 2) (b 6) (b 10) (b 14) (g 2) (g 6) (g 10) (g 14) in
    let c3 = column_is (b 3) (b 7) (b 11) (b 15) (g 3) (g 7) (g 11) (g 15) in
    sym (ap (λ zs. zs ++ mixed state 1 ++ mixed state 2 ++ mixed state 3) c0
    ∙ ap (λ zs. (mixed_byte (b 0) (b 4) (b 8) (b 12) ∷ mixed_byte (b 4) (b 8) (b 12) (b 0) ∷ mixed_byte (b 8) (b 12) (b 0) (b 4) ∷ mixed_byte (b 12) (b 0) (b 4) (b 8) ∷ [])
    ++ zs.0 ++ zs.1 ++ zs.2) (triple c1 c2 c3))
  where
    triple : {A : Type 0} {a b c x y z : A} → a ≡ x → b ≡ y → c ≡ z → ◌≡◌ {A = A × A × A} (a, b, c) (x, y, z)
    triple {A} {a} {b} {c} {x} {y} {z} e f g = ap (λ (w : A). (w, b, c)) e ∙ ap (λ (w : A). (x, w, c)) f ∙ ap (λ (w : A). (x, y, w)) g

-- SubBytes and ShiftRows of a state
pub rows_state : (q : List (List ℕ)) (i : ℕ) → map (λ p. s_box (gathered q (row_place (lane_of p)) i)) (range_with_len 0 16) ≡ shift_rows (sub_bytes (state_at q i))
unfolding shift_rows sub_bytes
rows_state q i = refl

-- ---- without the constant

-- the constant, added to all four bytes, comes out as it is
pub constants_out : (a b c d : ℕ) → mixed_byte (without_constant a) (without_constant b) (without_constant c) (without_constant d) ≡ without_constant (mixed_byte a b c d)
constants_out a b c d =
    let top = xtime (bit_xor a b) in
    ap (λ z. bit_xor (bit_xor (xtime z) (without_constant b)) (bit_xor (without_constant c) (without_constant d))) (cancel a b constant)
    ∙ ap (λ z. bit_xor (bit_xor top (without_constant b)) z) (cancel c d constant)
    ∙ ap (λ z. bit_xor z (bit_xor c d)) (sym (xor_assoc top b constant)) ∙ swap (bit_xor top b) constant (bit_xor c d)

-- the bytes after SubBytes and ShiftRows
pub rows_bytes : (q s r : List (List ℕ)) → ((p i : ℕ) → p < 16 → i < 8 → gathered s p i ≡ without_constant (s_box (gathered q p i)))
    → ((k : ℕ) → k < 8 → get_or r k [] ≡ moved row_place (get_or s k [])) → (l i : ℕ) → l < 16 → i < 8 → gathered r l i ≡ without_constant (s_box (gathered q (row_place l) i))
rows_bytes q s r hs hr l i L I = moved_bytes row_place s r hr l i L ∙ hs (row_place l) i (omega arith) I

-- and after MixColumns
pub mixed_bytes : (r u : List (List ℕ)) (b : ℕ → ℕ) (i : ℕ) → i < 8 → ((l : ℕ) → l < 16 → gathered r l i ≡ without_constant (b l))
    → ((p i : ℕ) → p < 16 → i < 8 → gathered u p i ≡ mixed_byte (gathered r p i) (gathered r (next_place p) i) (gathered r (half_place p) i) (gathered r (next_place (half_place p)) i))
    → (l : ℕ) → l < 16 → gathered u l i ≡ without_constant (mixed_byte (b l) (b (next_place l)) (b (half_place l)) (b (next_place (half_place l))))
mixed_bytes r u b i I hr hu l L =
    let n = next_place l in
    let h = half_place l in
    let m = next_place (half_place l) in
    hu l i L I
    ∙ ap (λ z. mixed_byte z (gathered r n i) (gathered r h i) (gathered r m i)) (hr l L)
    ∙ ap (λ z. mixed_byte (without_constant (b l)) z (gathered r h i) (gathered r m i)) (hr n (omega arith))
    ∙ ap (λ z. mixed_byte (without_constant (b l)) (without_constant (b n)) z (gathered r m i)) (hr h (omega arith))
    ∙ ap (λ z. mixed_byte (without_constant (b l)) (without_constant (b n)) (without_constant (b h)) z) (hr m (omega arith))
    ∙ constants_out (b l) (b n) (b h) (b m)

-- the sum of bytes without the constant and of a round key with it
pub state_summed : (u k r : List (List ℕ)) (key : List ℕ) (c i : ℕ) → i < 8 → IsKeyOf k c key
    → ((p i : ℕ) → p < 16 → gathered r p i ≡ bit_xor (gathered u p i) (gathered k p i)) → (b : ℕ → ℕ) → ((l : ℕ) → l < 16 → gathered u l i ≡ bit_xor (b l) c)
    → state_at r i ≡ xor_bytes (map (λ p. b (lane_of p)) (range_with_len 0 16)) key
state_summed u k r key c i I is sum b here =
    let bytes = map (λ p. b (lane_of p)) (range_with_len 0 16) in
    let size : length (state_at r i) ≡ 16 = length-map (range_with_len 0 16) (λ p. gathered r (lane_of p) i) ∙ length-range_with_len 0 16 in
    let long : length bytes ≡ 16 = length-map (range_with_len 0 16) (λ p. b (lane_of p)) ∙ length-range_with_len 0 16 in
    ext_get_or 0 (state_at r i) (xor_bytes bytes key) (size ∙ sym (length-zip2 bit_xor bytes key (long ∙ sym is.long) ∙ long)) (λ p lt.
    let P : p < 16 = omega (arith, size) in
    let l = lane_of p in
    get_or-map-range_with_len (λ p. gathered r (lane_of p) i) 0 16 p p 0 P (zero-add p) ∙ sum l i (lane-lt p P)
    ∙ ap (λ z. bit_xor z (gathered k l i)) (here l (lane-lt p P)) ∙ ap (bit_xor (bit_xor (b l) c)) (is.bytes p i P I) ∙ cancel (b l) (get_or key p 0) c
    ∙ ap (λ z. bit_xor z (get_or key p 0)) (sym (get_or-map-range_with_len (λ p. b (lane_of p)) 0 16 p p 0 P (zero-add p)))
    ∙ sym (get_or-zip2 bit_xor bytes key p 0 0 0 (omega (arith, long)) (omega (arith, is.long))))
