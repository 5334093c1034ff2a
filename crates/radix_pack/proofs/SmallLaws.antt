-- The small coding, place by place.
use Rattle.std.proofs.Common.{◌≡◌, ◌≢◌, ℕ, zero, suc, ◌+◌, ◌*◌, ◌/◌, ◌%◌, ◌^◌, ◌<◌, ◌≤◌, ℤ, pos, negsuc, List, [], ◌∷◌, ◌++◌, length, map, get_or, arith, ap, sym, ◌∙◌, refl, inl, inr}
use Rattle.std.specs.Prelude.{◌+ℤ◌, ◌-ℤ◌, unsigned_abs}
use Rattle.std.specs.List.{range_with_len}
use Rattle.std.proofs.lemmas.Bool.{cases_lt}
use Rattle.std.proofs.lemmas.Int.{ints}
use Rattle.std.proofs.lemmas.List.{get_or_past, get_or_default}
use Rattle.std.proofs.lemmas.List.FromFn.{length-map-range_with_len, get_or-map-range_with_len, map-range_with_len_more, fill_by_all}
use Rattle.ring_core.specs.Bounds.{IsWithin}
use Rattle.ring_core.specs.Product.{coefficients, IsCentred}
use Rattle.ring_core.proofs.ElementLaws.{IsCentred-small}
use Rattle.radix_pack.specs.Codings.{small_length, two_bits, four_coefficients, small_encode, bits_at, small_decode, IsMalformed}

-- ---- two bits of a byte

pub bits_zero : (j : ℕ) → j < 4 → 0 / 4 ^ j % 4 ≡ 0
bits_zero zero h = refl
bits_zero (suc zero) h = refl
bits_zero (suc (suc zero)) h = refl
bits_zero (suc (suc (suc zero))) h = refl
bits_zero (suc (suc (suc (suc j)))) h = absurd (omega arith)

four : ℕ → ℕ → ℕ → ℕ → ℕ → ℕ
four a b c d zero = a
four a b c d (suc zero) = b
four a b c d (suc (suc zero)) = c
four a b c d (suc (suc (suc j))) = d

bits_of_four : (a b c d j : ℕ) → a < 4 → b < 4 → c < 4 → d < 4 → j < 4 → (a + 4 * b + 16 * c + 64 * d) / 4 ^ j % 4 ≡ four a b c d j
unfolding four
bits_of_four a b c d zero ha hb hc hd h = omega arith
bits_of_four a b c d (suc zero) ha hb hc hd h = omega arith
bits_of_four a b c d (suc (suc zero)) ha hb hc hd h = omega arith
bits_of_four a b c d (suc (suc (suc zero))) ha hb hc hd h = omega arith
bits_of_four a b c d (suc (suc (suc (suc j)))) ha hb hc hd h = absurd (omega arith)

four_at : (f : ℕ → ℕ) (i j : ℕ) → j < 4 → four (f (4 * i)) (f (4 * i + 1)) (f (4 * i + 2)) (f (4 * i + 3)) j ≡ f (4 * i + j)
unfolding four
four_at f i zero h = ap f (let e : 4 * i ≡ 4 * i + 0 = omega arith in e)
four_at f i (suc zero) h = refl
four_at f i (suc (suc zero)) h = refl
four_at f i (suc (suc (suc zero))) h = refl
four_at f i (suc (suc (suc (suc j)))) h = absurd (omega arith)

-- ---- the two bits of a coefficient

two_bits_most : (a : List ℤ) (k : ℕ) → IsWithin 1 a → two_bits a k ≤ 2
two_bits_most a k w =
    elim (cases_lt k (length a)) [
      | inl l ↦ omega (arith, ints, w k, ap (λ c. unsigned_abs (c +ℤ pos 1)) (get_or_default a k (negsuc 0) (pos 0) l))
      | inr l ↦ omega (arith, ap (λ c. unsigned_abs (c +ℤ pos 1)) (get_or_past a k (negsuc 0) l))
    ]

two_bits_past : (a : List ℤ) (k : ℕ) → length a ≤ k → two_bits a k ≡ 0
two_bits_past a k l = ap (λ c. unsigned_abs (c +ℤ pos 1)) (get_or_past a k (negsuc 0) l)

one_less : (c : ℤ) → unsigned_abs c ≤ 1 → c ≡ pos (unsigned_abs (c +ℤ pos 1)) -ℤ pos 1
one_less c h = omega (arith, ints)

two_bits_back : (a : List ℤ) (k : ℕ) → IsWithin 1 a → k < length a → coefficients a k ≡ pos (two_bits a k) -ℤ pos 1
two_bits_back a k w l =
    one_less (coefficients a k) (w k)
    ∙ ap (λ c. pos (unsigned_abs (c +ℤ pos 1)) -ℤ pos 1) (get_or_default a k (pos 0) (negsuc 0) l)

-- ---- what was encoded

bits_encoded : (p : ℕ) (a : List ℤ) (k : ℕ) → IsWithin 1 a → k / 4 < small_length p → bits_at (small_encode p a) k ≡ two_bits a k
unfolding small_encode
bits_encoded p a k w l =
    let i = k / 4 in
    let byte : get_or (map (four_coefficients a) (range_with_len 0 (small_length p))) i 0 ≡ four_coefficients a i = get_or-map-range_with_len (four_coefficients a) 0 (small_length p) i i 0 l (omega arith) in
    let place : 4 * i + k % 4 ≡ k = omega arith in
    ap (λ b. b / 4 ^ (k % 4) % 4) byte
    ∙ bits_of_four (two_bits a (4 * i)) (two_bits a (4 * i + 1)) (two_bits a (4 * i + 2)) (two_bits a (4 * i + 3)) (k % 4) (omega (arith, two_bits_most a (4 * i) w)) (omega (arith, two_bits_most a (4 * i + 1) w)) (omega (arith, two_bits_most a (4 * i + 2) w)) (omega (arith, two_bits_most a (4 * i + 3) w)) (omega arith)
    ∙ four_at (two_bits a) i (k % 4) (omega arith)
    ∙ ap (two_bits a) place

bits_past : (p : ℕ) (a : List ℤ) (k : ℕ) → small_length p ≤ k / 4 → bits_at (small_encode p a) k ≡ 0
unfolding small_encode
bits_past p a k l =
    ap (λ b. b / 4 ^ (k % 4) % 4) (get_or_past (map (four_coefficients a) (range_with_len 0 (small_length p))) (k / 4) 0 (omega (arith, length-map-range_with_len (four_coefficients a) 0 (small_length p))))
    ∙ bits_zero (k % 4) (omega arith)

no_three : (p : ℕ) (a : List ℤ) (k : ℕ) → IsWithin 1 a → bits_at (small_encode p a) k ≢ 3
no_three p a k w e =
    elim (cases_lt (k / 4) (small_length p)) [
      | inl l ↦ absurd (omega (arith, bits_encoded p a k w l, two_bits_most a k w, e))
      | inr l ↦ absurd (omega (arith, bits_past p a k l, e))
    ]

no_spare : (p : ℕ) (a : List ℤ) (k : ℕ) → IsWithin 1 a → length a ≡ p → p ≤ k → bits_at (small_encode p a) k ≡ 0
no_spare p a k w e h =
    elim (cases_lt (k / 4) (small_length p)) [
      | inl l ↦ bits_encoded p a k w l ∙ two_bits_past a k (omega arith)
      | inr l ↦ bits_past p a k l
    ]

pub small_well_formed : (p : ℕ) (a : List ℤ) → IsCentred 3 p a → ¬ IsMalformed p (small_encode p a)
small_well_formed p a c m =
    let w = IsCentred-small p a c in
    elim m.1 [
      | inl three ↦ no_three p a m.0 w three
      | inr spare ↦ spare.1 (no_spare p a m.0 w c.0 spare.0)
    ]

pub small_source : (p : ℕ) (a : List ℤ) → IsCentred 3 p a → small_decode p (small_encode p a) ≡ a
unfolding small_decode
small_source p a c =
    let w = IsCentred-small p a c in
    sym (fill_by_all (λ k. pos (bits_at (small_encode p a) k) -ℤ pos 1) a p (pos 0) c.0 (λ k l. two_bits_back a k w (omega (arith, c.0)) ∙ ap (λ n. pos n -ℤ pos 1) (sym (bits_encoded p a k w (omega arith)))))

-- ---- what is decoded

pub length-small_decode : (p : ℕ) (bytes : List ℕ) → length (small_decode p bytes) ≡ p
unfolding small_decode
length-small_decode p bytes = length-map-range_with_len (λ k. pos (bits_at bytes k) -ℤ pos 1) 0 p

pub length-small_encode : (p : ℕ) (a : List ℤ) → length (small_encode p a) ≡ small_length p
unfolding small_encode
length-small_encode p a = length-map-range_with_len (four_coefficients a) 0 (small_length p)

one_at_most : (n : ℕ) → n < 4 → n ≢ 3 → unsigned_abs (pos n -ℤ pos 1) ≤ 1
one_at_most n h e = omega (arith, ints)

pub small_within : (p : ℕ) (bytes : List ℕ) → ¬ IsMalformed p bytes → IsWithin 1 (small_decode p bytes)
unfolding small_decode
small_within p bytes m k =
    let f = λ (i : ℕ). pos (bits_at bytes i) -ℤ pos 1 in
    elim (cases_lt k p) [
      | inl l ↦ omega (
        arith,
        ap unsigned_abs (get_or-map-range_with_len f 0 p k k (pos 0) l (omega arith)),
        one_at_most (bits_at bytes k) (omega arith) (λ three. m (k, inl three)),
      )
      | inr l ↦ omega (arith, ap unsigned_abs (get_or_past (map f (range_with_len 0 p)) k (pos 0) (omega (arith, length-map-range_with_len f 0 p))))
    ]

-- one more coefficient
pub more_made : (f : ℕ → ℤ) (xs : List ℤ) (k : ℕ) (x : ℤ) → x ≡ f k → xs ≡ map f (range_with_len 0 k) → xs ++ x ∷ [] ≡ map f (range_with_len 0 (k + 1))
more_made f xs k x e h =
    ap (λ ys. ys ++ x ∷ []) h
    ∙ ap (λ y. map f (range_with_len 0 k) ++ y ∷ []) e
    ∙ sym (map-range_with_len_more f 0 k k (omega arith))
