-- The S-box by its circuit: gates act on each bit alone, so one run of the circuit on numbers of 256 bits,
-- bit v of which belongs to the byte v, computes it for all bytes.
use Rattle.std.proofs.Common.{◌≡◌, ℕ, zero, suc, ◌+◌, ◌-◌, ◌*◌, ◌%◌, ◌<◌, List, [], ◌∷◌, length, get_or, slice_index, map, bit_xor, bit_and, min, refl, sym, ap, subst, ◌∙◌, arith}
use Rattle.std.specs.List.{range_with_len}
use Rattle.std.specs.Int.{bit_at}
use Rattle.std.proofs.Math.Nat.{zero-add}
use Rattle.std.proofs.lemmas.List.FromFn.{get_or-map-range_with_len}
use Rattle.std.proofs.lemmas.Simd.{length-zip2, get_or-zip2}
use Rattle.std.proofs.lemmas.Nat.{xor_lt}
use Rattle.std.proofs.lemmas.Nat.Bits.{bit_at_xor, bit_at_and, bit_at-lt}
use Rattle.std.specs.Int.Bits.{xor_assoc, xor_zero_r}
use Rattle.aes_block.specs.Field.{xtime, by_power, low_product, product, inverse_among, inverse, affine_bits, s_box}
use Rattle.aes_block.specs.Sliced.{bit_of, gathered, byte_from, constant, without_constant, IsState}
use lib.Lanes.{zip2, Each2}
use Rattle.aes_block.specs.Circuit.{outer_sums, inner_sums, inner_inverse, inner_products, last_sums, circuit}

-- bit i of lane p is bit v of the number
pub record Same (p i v : ℕ) (xs : List ℕ) (n : ℕ) : Type 0 where
  pub long : length xs ≡ 16
  pub bit : bit_at (get_or xs p 0) i ≡ bit_at n v

-- so of each register
abbrev pub Related : ℕ → ℕ → ℕ → ℕ → List (List ℕ) → List ℕ → Type 0
Related n p i v q Q = (k : ℕ) → k < n → Same p i v (get_or q k []) (get_or Q k 0)

xor_same : {p i v : ℕ} → p < 16 → {xs ys : List ℕ} → {m n : ℕ} → Same p i v xs m → Same p i v ys n → Same p i v (zip2 bit_xor xs ys) (bit_xor m n)
xor_same {p} {i} {v} P {xs} {ys} {m} {n} a b =
    let la = a.long in
    let lb = b.long in
    record {
      long = length-zip2 bit_xor xs ys (la ∙ sym lb) ∙ la;
      bit = ap (λ z. bit_at z i) (get_or-zip2 bit_xor xs ys p 0 0 0 (omega arith) (omega arith)) ∙ bit_at_xor (get_or xs p 0) (get_or ys p 0) i
          ∙ ap (λ z. (z + bit_at (get_or ys p 0) i) % 2) a.bit ∙ ap (λ z. (bit_at m v + z) % 2) b.bit ∙ sym (bit_at_xor m n v);
    }

and_same : {p i v : ℕ} → p < 16 → {xs ys : List ℕ} → {m n : ℕ} → Same p i v xs m → Same p i v ys n → Same p i v (zip2 bit_and xs ys) (bit_and m n)
and_same {p} {i} {v} P {xs} {ys} {m} {n} a b =
    let la = a.long in
    let lb = b.long in
    record {
      long = length-zip2 bit_and xs ys (la ∙ sym lb) ∙ la;
      bit = ap (λ z. bit_at z i) (get_or-zip2 bit_and xs ys p 0 0 0 (omega arith) (omega arith)) ∙ bit_at_and (get_or xs p 0) (get_or ys p 0) i
          ∙ ap (λ z. min z (bit_at (get_or ys p 0) i)) a.bit ∙ ap (min (bit_at m v)) b.bit ∙ sym (bit_at_and m n v);
    }

related : (n p i v : ℕ) → (q : List (List ℕ)) (Q : List ℕ) → length q ≡ n → length Q ≡ n → Each2 (Same p i v) q Q → Related n p i v q Q
related zero p i v q Q e f h k lt = absurd (omega arith)
related (suc n) p i v [] Q e f h k lt = absurd (omega arith)
related (suc n) p i v (x ∷ q) [] e f h k lt = absurd (omega arith)
related (suc n) p i v (x ∷ q) (m ∷ Q) e f h zero lt = h.0
related (suc n) p i v (x ∷ q) (m ∷ Q) e f h (suc k) lt = related n p i v q Q (omega arith) (omega arith) h.1 k (omega arith)

pub outer_sums_related : (p i v : ℕ) → p < 16 → i < 8 → v < 256 → (q : List (List ℕ)) (Q : List ℕ) → Related 8 p i v q Q
    → Related 22 p i v (outer_sums [] (zip2 bit_xor) (zip2 bit_and) q) (outer_sums 0 bit_xor bit_and Q)
unfolding outer_sums
outer_sums_related p i v P I V q Q rq =
    let hq0 = rq 0 (omega arith) in
    let hq1 = rq 1 (omega arith) in
    let hq2 = rq 2 (omega arith) in
    let hq3 = rq 3 (omega arith) in
    let hq4 = rq 4 (omega arith) in
    let hq5 = rq 5 (omega arith) in
    let hq6 = rq 6 (omega arith) in
    let hq7 = rq 7 (omega arith) in
    let hy14 = xor_same P hq4 hq2 in
    let hy13 = xor_same P hq7 hq1 in
    let hy9 = xor_same P hq7 hq4 in
    let hy8 = xor_same P hq7 hq2 in
    let ht0 = xor_same P hq6 hq5 in
    let hy1 = xor_same P ht0 hq0 in
    let hy4 = xor_same P hy1 hq4 in
    let hy12 = xor_same P hy13 hy14 in
    let hy2 = xor_same P hy1 hq7 in
    let hy5 = xor_same P hy1 hq1 in
    let hy3 = xor_same P hy5 hy8 in
    let ht1 = xor_same P hq3 hy12 in
    let hy15 = xor_same P ht1 hq2 in
    let hy20 = xor_same P ht1 hq6 in
    let hy6 = xor_same P hy15 hq0 in
    let hy10 = xor_same P hy15 ht0 in
    let hy11 = xor_same P hy20 hy9 in
    let hy7 = xor_same P hq0 hy11 in
    let hy17 = xor_same P hy10 hy11 in
    let hy19 = xor_same P hy10 hy8 in
    let hy16 = xor_same P ht0 hy11 in
    let hy21 = xor_same P hy13 hy16 in
    let hy18 = xor_same P hq7 hy16 in
    related 22 p i v (outer_sums [] (zip2 bit_xor) (zip2 bit_and) q) (outer_sums 0 bit_xor bit_and Q) refl refl (hy1, (hy2, (hy3, (hy4, (hy5, (hy6, (hy7, (hy8, (hy9, (hy10, (hy11, (hy12, (hy13, (hy14, (hy15, (hy16, (hy17, (hy18, (hy19, (hy20, (hy21, (hq0, tt))))))))))))))))))))))

pub inner_sums_related : (p i v : ℕ) → p < 16 → i < 8 → v < 256 → (y : List (List ℕ)) (Y : List ℕ) → Related 22 p i v y Y
    → Related 4 p i v (inner_sums [] (zip2 bit_xor) (zip2 bit_and) y) (inner_sums 0 bit_xor bit_and Y)
unfolding inner_sums
inner_sums_related p i v P I V y Y ry =
    let hy1 = ry 0 (omega arith) in
    let hy2 = ry 1 (omega arith) in
    let hy3 = ry 2 (omega arith) in
    let hy4 = ry 3 (omega arith) in
    let hy5 = ry 4 (omega arith) in
    let hy6 = ry 5 (omega arith) in
    let hy7 = ry 6 (omega arith) in
    let hy8 = ry 7 (omega arith) in
    let hy9 = ry 8 (omega arith) in
    let hy10 = ry 9 (omega arith) in
    let hy11 = ry 10 (omega arith) in
    let hy12 = ry 11 (omega arith) in
    let hy13 = ry 12 (omega arith) in
    let hy14 = ry 13 (omega arith) in
    let hy15 = ry 14 (omega arith) in
    let hy16 = ry 15 (omega arith) in
    let hy17 = ry 16 (omega arith) in
    let hy18 = ry 17 (omega arith) in
    let hy19 = ry 18 (omega arith) in
    let hy20 = ry 19 (omega arith) in
    let hy21 = ry 20 (omega arith) in
    let hq0 = ry 21 (omega arith) in
    let ht2 = and_same P hy12 hy15 in
    let ht3 = and_same P hy3 hy6 in
    let ht4 = xor_same P ht3 ht2 in
    let ht5 = and_same P hy4 hq0 in
    let ht6 = xor_same P ht5 ht2 in
    let ht7 = and_same P hy13 hy16 in
    let ht8 = and_same P hy5 hy1 in
    let ht9 = xor_same P ht8 ht7 in
    let ht10 = and_same P hy2 hy7 in
    let ht11 = xor_same P ht10 ht7 in
    let ht12 = and_same P hy9 hy11 in
    let ht13 = and_same P hy14 hy17 in
    let ht14 = xor_same P ht13 ht12 in
    let ht15 = and_same P hy8 hy10 in
    let ht16 = xor_same P ht15 ht12 in
    let ht17 = xor_same P ht4 ht14 in
    let ht18 = xor_same P ht6 ht16 in
    let ht19 = xor_same P ht9 ht14 in
    let ht20 = xor_same P ht11 ht16 in
    let ht21 = xor_same P ht17 hy20 in
    let ht22 = xor_same P ht18 hy19 in
    let ht23 = xor_same P ht19 hy21 in
    let ht24 = xor_same P ht20 hy18 in
    related 4 p i v (inner_sums [] (zip2 bit_xor) (zip2 bit_and) y) (inner_sums 0 bit_xor bit_and Y) refl refl (ht21, (ht22, (ht23, (ht24, tt))))

pub inner_inverse_related : (p i v : ℕ) → p < 16 → i < 8 → v < 256 → (t : List (List ℕ)) (T : List ℕ) → Related 4 p i v t T
    → Related 9 p i v (inner_inverse [] (zip2 bit_xor) (zip2 bit_and) t) (inner_inverse 0 bit_xor bit_and T)
unfolding inner_inverse
inner_inverse_related p i v P I V t T rt =
    let ht21 = rt 0 (omega arith) in
    let ht22 = rt 1 (omega arith) in
    let ht23 = rt 2 (omega arith) in
    let ht24 = rt 3 (omega arith) in
    let ht25 = xor_same P ht21 ht22 in
    let ht26 = and_same P ht21 ht23 in
    let ht27 = xor_same P ht24 ht26 in
    let ht28 = and_same P ht25 ht27 in
    let ht29 = xor_same P ht28 ht22 in
    let ht30 = xor_same P ht23 ht24 in
    let ht31 = xor_same P ht22 ht26 in
    let ht32 = and_same P ht31 ht30 in
    let ht33 = xor_same P ht32 ht24 in
    let ht34 = xor_same P ht23 ht33 in
    let ht35 = xor_same P ht27 ht33 in
    let ht36 = and_same P ht24 ht35 in
    let ht37 = xor_same P ht36 ht34 in
    let ht38 = xor_same P ht27 ht36 in
    let ht39 = and_same P ht29 ht38 in
    let ht40 = xor_same P ht25 ht39 in
    let ht41 = xor_same P ht40 ht37 in
    let ht42 = xor_same P ht29 ht33 in
    let ht43 = xor_same P ht29 ht40 in
    let ht44 = xor_same P ht33 ht37 in
    let ht45 = xor_same P ht42 ht41 in
    related 9 p i v (inner_inverse [] (zip2 bit_xor) (zip2 bit_and) t) (inner_inverse 0 bit_xor bit_and T) refl refl (ht29, (ht33, (ht37, (ht40, (ht41, (ht42, (ht43, (ht44, (ht45, tt)))))))))

pub inner_products_related : (p i v : ℕ) → p < 16 → i < 8 → v < 256 → (y : List (List ℕ)) (Y : List ℕ) (t : List (List ℕ)) (T : List ℕ) → Related 22 p i v y Y → Related 9 p i v t T
    → Related 18 p i v (inner_products [] (zip2 bit_xor) (zip2 bit_and) y t) (inner_products 0 bit_xor bit_and Y T)
unfolding inner_products
inner_products_related p i v P I V y Y t T ry rt =
    let hy1 = ry 0 (omega arith) in
    let hy2 = ry 1 (omega arith) in
    let hy3 = ry 2 (omega arith) in
    let hy4 = ry 3 (omega arith) in
    let hy5 = ry 4 (omega arith) in
    let hy6 = ry 5 (omega arith) in
    let hy7 = ry 6 (omega arith) in
    let hy8 = ry 7 (omega arith) in
    let hy9 = ry 8 (omega arith) in
    let hy10 = ry 9 (omega arith) in
    let hy11 = ry 10 (omega arith) in
    let hy12 = ry 11 (omega arith) in
    let hy13 = ry 12 (omega arith) in
    let hy14 = ry 13 (omega arith) in
    let hy15 = ry 14 (omega arith) in
    let hy16 = ry 15 (omega arith) in
    let hy17 = ry 16 (omega arith) in
    let hq0 = ry 21 (omega arith) in
    let ht29 = rt 0 (omega arith) in
    let ht33 = rt 1 (omega arith) in
    let ht37 = rt 2 (omega arith) in
    let ht40 = rt 3 (omega arith) in
    let ht41 = rt 4 (omega arith) in
    let ht42 = rt 5 (omega arith) in
    let ht43 = rt 6 (omega arith) in
    let ht44 = rt 7 (omega arith) in
    let ht45 = rt 8 (omega arith) in
    let hz0 = and_same P ht44 hy15 in
    let hz1 = and_same P ht37 hy6 in
    let hz2 = and_same P ht33 hq0 in
    let hz3 = and_same P ht43 hy16 in
    let hz4 = and_same P ht40 hy1 in
    let hz5 = and_same P ht29 hy7 in
    let hz6 = and_same P ht42 hy11 in
    let hz7 = and_same P ht45 hy17 in
    let hz8 = and_same P ht41 hy10 in
    let hz9 = and_same P ht44 hy12 in
    let hz10 = and_same P ht37 hy3 in
    let hz11 = and_same P ht33 hy4 in
    let hz12 = and_same P ht43 hy13 in
    let hz13 = and_same P ht40 hy5 in
    let hz14 = and_same P ht29 hy2 in
    let hz15 = and_same P ht42 hy9 in
    let hz16 = and_same P ht45 hy14 in
    let hz17 = and_same P ht41 hy8 in
    related 18 p i v (inner_products [] (zip2 bit_xor) (zip2 bit_and) y t) (inner_products 0 bit_xor bit_and Y T) refl refl (hz0, (hz1, (hz2, (hz3, (hz4, (hz5, (hz6, (hz7, (hz8, (hz9, (hz10, (hz11, (hz12, (hz13, (hz14, (hz15, (hz16, (hz17, tt))))))))))))))))))

pub last_sums_related : (p i v : ℕ) → p < 16 → i < 8 → v < 256 → (z : List (List ℕ)) (Z : List ℕ) → Related 18 p i v z Z
    → Related 8 p i v (last_sums [] (zip2 bit_xor) (zip2 bit_and) z) (last_sums 0 bit_xor bit_and Z)
unfolding last_sums
last_sums_related p i v P I V z Z rz =
    let hz0 = rz 0 (omega arith) in
    let hz1 = rz 1 (omega arith) in
    let hz2 = rz 2 (omega arith) in
    let hz3 = rz 3 (omega arith) in
    let hz4 = rz 4 (omega arith) in
    let hz5 = rz 5 (omega arith) in
    let hz6 = rz 6 (omega arith) in
    let hz7 = rz 7 (omega arith) in
    let hz8 = rz 8 (omega arith) in
    let hz9 = rz 9 (omega arith) in
    let hz10 = rz 10 (omega arith) in
    let hz11 = rz 11 (omega arith) in
    let hz12 = rz 12 (omega arith) in
    let hz13 = rz 13 (omega arith) in
    let hz14 = rz 14 (omega arith) in
    let hz15 = rz 15 (omega arith) in
    let hz16 = rz 16 (omega arith) in
    let hz17 = rz 17 (omega arith) in
    let ht46 = xor_same P hz15 hz16 in
    let ht47 = xor_same P hz10 hz11 in
    let ht48 = xor_same P hz5 hz13 in
    let ht49 = xor_same P hz9 hz10 in
    let ht50 = xor_same P hz2 hz12 in
    let ht51 = xor_same P hz2 hz5 in
    let ht52 = xor_same P hz7 hz8 in
    let ht53 = xor_same P hz0 hz3 in
    let ht54 = xor_same P hz6 hz7 in
    let ht55 = xor_same P hz16 hz17 in
    let ht56 = xor_same P hz12 ht48 in
    let ht57 = xor_same P ht50 ht53 in
    let ht58 = xor_same P hz4 ht46 in
    let ht59 = xor_same P hz3 ht54 in
    let ht60 = xor_same P ht46 ht57 in
    let ht61 = xor_same P hz14 ht57 in
    let ht62 = xor_same P ht52 ht58 in
    let ht63 = xor_same P ht49 ht58 in
    let ht64 = xor_same P hz4 ht59 in
    let ht65 = xor_same P ht61 ht62 in
    let ht66 = xor_same P hz1 ht63 in
    let hs0 = xor_same P ht59 ht63 in
    let hs6 = xor_same P ht56 ht62 in
    let hs7 = xor_same P ht48 ht60 in
    let ht67 = xor_same P ht64 ht65 in
    let hs3 = xor_same P ht53 ht66 in
    let hs4 = xor_same P ht51 ht66 in
    let hs5 = xor_same P ht47 ht65 in
    let hs1 = xor_same P ht64 hs3 in
    let hs2 = xor_same P ht55 ht67 in
    related 8 p i v (last_sums [] (zip2 bit_xor) (zip2 bit_and) z) (last_sums 0 bit_xor bit_and Z) refl refl (hs7, (hs6, (hs5, (hs4, (hs3, (hs2, (hs1, (hs0, tt))))))))

pub circuit_related : (p i v : ℕ) → p < 16 → i < 8 → v < 256 → (q : List (List ℕ)) (Q : List ℕ) → Related 8 p i v q Q
    → Related 8 p i v (circuit [] (zip2 bit_xor) (zip2 bit_and) q) (circuit 0 bit_xor bit_and Q)
unfolding circuit
circuit_related p i v P I V q Q h =
    let y = outer_sums_related p i v P I V q Q h in
    let s = inner_sums_related p i v P I V _ _ y in
    let t = inner_inverse_related p i v P I V _ _ s in
    let z = inner_products_related p i v P I V _ _ _ _ y t in
    last_sums_related p i v P I V _ _ z

-- bit v of column j is bit j of v
abbrev pub inputs : List ℕ
inputs = 0xaaaaaaaaaaaaaaaaaaaaaaaaaaaaaaaaaaaaaaaaaaaaaaaaaaaaaaaaaaaaaaaa ∷ 0xcccccccccccccccccccccccccccccccccccccccccccccccccccccccccccccccc ∷ 0xf0f0f0f0f0f0f0f0f0f0f0f0f0f0f0f0f0f0f0f0f0f0f0f0f0f0f0f0f0f0f0f0 ∷ 0xff00ff00ff00ff00ff00ff00ff00ff00ff00ff00ff00ff00ff00ff00ff00ff00 ∷ 0xffff0000ffff0000ffff0000ffff0000ffff0000ffff0000ffff0000ffff0000 ∷ 0xffffffff00000000ffffffff00000000ffffffff00000000ffffffff00000000 ∷ 0xffffffffffffffff0000000000000000ffffffffffffffff0000000000000000 ∷ 0xffffffffffffffffffffffffffffffff00000000000000000000000000000000 ∷ []

-- bit v of column j is bit j of the S-box of v, without the constant
abbrev pub outputs : List ℕ
outputs = 0xb0e152c690db85fbef424def3ff9154a9754b405753485ec4eb12198f6939112 ∷ 0x378f68bf6b15275695baf4d10ccb794b19e5b3a1687e90858451ff82b3ac0382 ∷ 0xac39b6c0d6ce2efc577d64e03b0c3ffb23a869a2a428c424a16387fb3b48b4c6 ∷ 0x4e9ddb76c892fb1be9da849cf6ac6c1b2568ea2effa8527d109020a2193d586a ∷ 0xf210a3aece472e532624b286bc48ecb4f7f17a494ce30f58c2b0f97752b8b11e ∷ 0xab4db7ecf4b0da90827233b8f9ce61f7943d55b1f287855b07fba08492672280 ∷ 0xde1f47ccdaa6e87dc094346e4cf24aa61b7ae4c40c54da9f67f5c33d3d024b00 ∷ 0x52379de7b844e3e14cb3770196ca0329e7bac28f866aac825caa2ec7bf977090 ∷ []

pub circuit_run : circuit 0 bit_xor bit_and inputs ≡ outputs
unfolding circuit outer_sums inner_sums inner_inverse inner_products last_sums
circuit_run = refl

column0_in : map (bit_at (slice_index inputs 0)) (range_with_len 0 256) ≡ map (λ v. bit_at v 0) (range_with_len 0 256)
column0_in = refl

column1_in : map (bit_at (slice_index inputs 1)) (range_with_len 0 256) ≡ map (λ v. bit_at v 1) (range_with_len 0 256)
column1_in = refl

column2_in : map (bit_at (slice_index inputs 2)) (range_with_len 0 256) ≡ map (λ v. bit_at v 2) (range_with_len 0 256)
column2_in = refl

column3_in : map (bit_at (slice_index inputs 3)) (range_with_len 0 256) ≡ map (λ v. bit_at v 3) (range_with_len 0 256)
column3_in = refl

column4_in : map (bit_at (slice_index inputs 4)) (range_with_len 0 256) ≡ map (λ v. bit_at v 4) (range_with_len 0 256)
column4_in = refl

column5_in : map (bit_at (slice_index inputs 5)) (range_with_len 0 256) ≡ map (λ v. bit_at v 5) (range_with_len 0 256)
column5_in = refl

column6_in : map (bit_at (slice_index inputs 6)) (range_with_len 0 256) ≡ map (λ v. bit_at v 6) (range_with_len 0 256)
column6_in = refl

column7_in : map (bit_at (slice_index inputs 7)) (range_with_len 0 256) ≡ map (λ v. bit_at v 7) (range_with_len 0 256)
column7_in = refl

-- ---- bytes

column : (j : ℕ) (f : ℕ → ℕ) → map (bit_at (slice_index inputs j)) (range_with_len 0 256) ≡ map f (range_with_len 0 256) → (v : ℕ) → v < 256 → bit_at (get_or inputs j 0) v ≡ f v
column j f table v V =
    sym (get_or-map-range_with_len (bit_at (get_or inputs j 0)) 0 256 v v 0 V (zero-add v))
    ∙ ap (λ zs. get_or zs v 0) table ∙ get_or-map-range_with_len f 0 256 v v 0 V (zero-add v)

column_in : (k v : ℕ) → k < 8 → v < 256 → bit_at (get_or inputs k 0) v ≡ bit_at v k
column_in zero v K V = column zero (λ v. bit_at v 0) column0_in v V
column_in (suc zero) v K V = column 1 (λ v. bit_at v 1) column1_in v V
column_in (suc (suc zero)) v K V = column 2 (λ v. bit_at v 2) column2_in v V
column_in (suc (suc (suc zero))) v K V = column 3 (λ v. bit_at v 3) column3_in v V
column_in (suc (suc (suc (suc zero)))) v K V = column 4 (λ v. bit_at v 4) column4_in v V
column_in (suc (suc (suc (suc (suc zero))))) v K V = column 5 (λ v. bit_at v 5) column5_in v V
column_in (suc (suc (suc (suc (suc (suc zero)))))) v K V = column 6 (λ v. bit_at v 6) column6_in v V
column_in (suc (suc (suc (suc (suc (suc (suc zero))))))) v K V = column 7 (λ v. bit_at v 7) column7_in v V
column_in (suc (suc (suc (suc (suc (suc (suc (suc k)))))))) v K V = absurd (omega arith)

-- the bits of eight bits' sum
sum_bits : (a b c d e f g h : ℕ) → a < 2 → b < 2 → c < 2 → d < 2 → e < 2 → f < 2 → g < 2 → h < 2 → (k : ℕ) → k < 8
    → bit_at (a + b * 2 + c * 4 + d * 8 + e * 16 + f * 32 + g * 64 + h * 128) k ≡ get_or (a ∷ b ∷ c ∷ d ∷ e ∷ f ∷ g ∷ h ∷ []) k 0
sum_bits a b c d e f g h A B C D E F G H zero K = omega arith
sum_bits a b c d e f g h A B C D E F G H (suc zero) K = omega arith
sum_bits a b c d e f g h A B C D E F G H (suc (suc zero)) K = omega arith
sum_bits a b c d e f g h A B C D E F G H (suc (suc (suc zero))) K = omega arith
sum_bits a b c d e f g h A B C D E F G H (suc (suc (suc (suc zero)))) K = omega arith
sum_bits a b c d e f g h A B C D E F G H (suc (suc (suc (suc (suc zero))))) K = omega arith
sum_bits a b c d e f g h A B C D E F G H (suc (suc (suc (suc (suc (suc zero)))))) K = omega arith
sum_bits a b c d e f g h A B C D E F G H (suc (suc (suc (suc (suc (suc (suc zero))))))) K = omega arith
sum_bits a b c d e f g h A B C D E F G H (suc (suc (suc (suc (suc (suc (suc (suc k)))))))) K = absurd (omega arith)

-- the byte that the bits v of the columns make
abbrev output : ℕ → ℕ
output v = bit_at (slice_index outputs 0) v + bit_at (slice_index outputs 1) v * 2 + bit_at (slice_index outputs 2) v * 4 + bit_at (slice_index outputs 3) v * 8 + bit_at (slice_index outputs 4) v * 16 + bit_at (slice_index outputs 5) v * 32 + bit_at (slice_index outputs 6) v * 64 + bit_at (slice_index outputs 7) v * 128

outputs_table : map output (range_with_len 0 256) ≡ map (λ v. without_constant (s_box v)) (range_with_len 0 256)
unfolding xtime by_power low_product product inverse_among inverse affine_bits s_box
outputs_table = refl

output_is : (v : ℕ) → v < 256 → output v ≡ without_constant (s_box v)
output_is v V =
    sym (get_or-map-range_with_len output 0 256 v v 0 V (zero-add v)) ∙ ap (λ zs. get_or zs v 0) outputs_table
    ∙ get_or-map-range_with_len (λ v. without_constant (s_box v)) 0 256 v v 0 V (zero-add v)

output-lt : (v : ℕ) → output v < 256
output-lt v = omega (arith, bit_at-lt (get_or outputs 0 0) v, bit_at-lt (get_or outputs 1 0) v, bit_at-lt (get_or outputs 2 0) v, bit_at-lt (get_or outputs 3 0) v, bit_at-lt (get_or outputs 4 0) v, bit_at-lt (get_or outputs 5 0) v, bit_at-lt (get_or outputs 6 0) v, bit_at-lt (get_or outputs 7 0) v)

result-lt : (v : ℕ) → v < 256 → without_constant (s_box v) < 256
result-lt v V = subst (λ s. s < 256) (output_is v V) (output-lt v)

-- what is taken out twice is there
pub constant_back : (b : ℕ) → without_constant (without_constant b) ≡ b
constant_back b = xor_assoc b constant constant ∙ xor_zero_r b

pub s_box-lt : (v : ℕ) → v < 256 → s_box v < 256
s_box-lt v V = subst (λ s. s < 256) (constant_back (s_box v)) (xor_lt 8 (without_constant (s_box v)) constant (result-lt v V) (omega arith))

column_out : (k v : ℕ) → k < 8 → v < 256 → bit_at (get_or outputs k 0) v ≡ bit_at (without_constant (s_box v)) k
column_out k v K V =
    sym (get_or-map-range_with_len (λ j. bit_at (get_or outputs j 0) v) 0 8 k k 0 K (zero-add k))
    ∙ sym (sum_bits (bit_at (get_or outputs 0 0) v) (bit_at (get_or outputs 1 0) v) (bit_at (get_or outputs 2 0) v) (bit_at (get_or outputs 3 0) v) (bit_at (get_or outputs 4 0) v) (bit_at (get_or outputs 5 0) v) (bit_at (get_or outputs 6 0) v) (bit_at (get_or outputs 7 0) v)
    (bit_at-lt (get_or outputs 0 0) v) (bit_at-lt (get_or outputs 1 0) v) (bit_at-lt (get_or outputs 2 0) v) (bit_at-lt (get_or outputs 3 0) v) (bit_at-lt (get_or outputs 4 0) v) (bit_at-lt (get_or outputs 5 0) v) (bit_at-lt (get_or outputs 6 0) v) (bit_at-lt (get_or outputs 7 0) v) k K)
    ∙ ap (λ s. bit_at s k) (output_is v V)

bits_table : map byte_from (range_with_len 0 256) ≡ map (λ n. n) (range_with_len 0 256)
bits_table = refl

-- a byte is the sum of its bits
pub bits_of : (n : ℕ) → n < 256 → byte_from n ≡ n
bits_of n small =
    sym (get_or-map-range_with_len byte_from 0 256 n n 0 small (zero-add n)) ∙ ap (λ zs. get_or zs n 0) bits_table ∙ get_or-map-range_with_len (λ n. n) 0 256 n n 0 small (zero-add n)

bit_lt : (q : List (List ℕ)) (j p i : ℕ) → bit_of q j p i < 2
bit_lt q j p i = bit_at-lt (get_or (get_or q j []) p 0) i

pub gathered-lt : (q : List (List ℕ)) (p i : ℕ) → gathered q p i < 256
gathered-lt q p i = omega (arith, bit_lt q 0 p i, bit_lt q 1 p i, bit_lt q 2 p i, bit_lt q 3 p i, bit_lt q 4 p i, bit_lt q 5 p i, bit_lt q 6 p i, bit_lt q 7 p i)

picked : (q : List (List ℕ)) (p i k : ℕ) → k < 8
    → get_or (bit_of q 0 p i ∷ bit_of q 1 p i ∷ bit_of q 2 p i ∷ bit_of q 3 p i ∷ bit_of q 4 p i ∷ bit_of q 5 p i ∷ bit_of q 6 p i ∷ bit_of q 7 p i ∷ []) k 0 ≡ bit_of q k p i
picked q p i k K = get_or-map-range_with_len (λ j. bit_of q j p i) 0 8 k k 0 K (zero-add k)

pub gathered_bit : (q : List (List ℕ)) (p i k : ℕ) → k < 8 → bit_at (gathered q p i) k ≡ bit_of q k p i
gathered_bit q p i k K =
    sum_bits (bit_of q 0 p i) (bit_of q 1 p i) (bit_of q 2 p i) (bit_of q 3 p i) (bit_of q 4 p i) (bit_of q 5 p i) (bit_of q 6 p i) (bit_of q 7 p i)
    (bit_lt q 0 p i) (bit_lt q 1 p i) (bit_lt q 2 p i) (bit_lt q 3 p i) (bit_lt q 4 p i) (bit_lt q 5 p i) (bit_lt q 6 p i) (bit_lt q 7 p i) k K
    ∙ picked q p i k K

-- bytes whose bits are known
pub gathered_from : (q : List (List ℕ)) (p i n : ℕ) → n < 256 → ((k : ℕ) → k < 8 → bit_of q k p i ≡ bit_at n k) → gathered q p i ≡ n
gathered_from q p i n small bits =
    let b0 = bits 0 (omega arith) in
    let b1 = bits 1 (omega arith) in
    let b2 = bits 2 (omega arith) in
    let b3 = bits 3 (omega arith) in
    let b4 = bits 4 (omega arith) in
    let b5 = bits 5 (omega arith) in
    let b6 = bits 6 (omega arith) in
    let b7 = bits 7 (omega arith) in
    rw (b0, b1, b2, b3, b4, b5, b6, b7) (bits_of n small)

-- the S-box of each byte
pub circuit_is_s_box : (q : List (List ℕ)) → IsState q → (p i : ℕ) → p < 16 → i < 8
    → gathered (circuit [] (zip2 bit_xor) (zip2 bit_and) q) p i ≡ without_constant (s_box (gathered q p i))
circuit_is_s_box q long p i P I =
    let v = gathered q p i in
    let V = gathered-lt q p i in
    let start : Related 8 p i v q inputs = λ k K. record { long = long k K; bit = sym (gathered_bit q p i k K) ∙ sym (column_in k v K V) } in
    let end = circuit_related p i v P I V q inputs start in
    gathered_from (circuit [] (zip2 bit_xor) (zip2 bit_and) q) p i (without_constant (s_box v)) (result-lt v V) (λ k K. (end k K).bit ∙ ap (λ zs. bit_at (get_or zs k 0) v) circuit_run ∙ column_out k v K V)

-- its registers have 16 lanes
pub circuit_long : (q : List (List ℕ)) → IsState q → IsState (circuit [] (zip2 bit_xor) (zip2 bit_and) q)
circuit_long q long k K =
    let v = gathered q 0 0 in
    let V = gathered-lt q 0 0 in
    let start : Related 8 0 0 v q inputs = λ k K. record { long = long k K; bit = sym (gathered_bit q 0 0 k K) ∙ sym (column_in k v K V) } in
    (circuit_related 0 0 v (omega arith) (omega arith) V q inputs start k K).long
