-- What the lanes of a vector hold. A lane is a number by its bits: `cast_unsigned` and `cast_signed` go there and back.
use Rattle.std.proofs.Common.{◌≡◌, ℕ, zero, suc, ◌+◌, ◌-◌, ◌*◌, ◌/◌, ◌%◌, ◌^◌, ◌<◌, ◌≤◌, ℤ, pos, List, [], ◌∷◌, length, map, replicate, arith, ap, sym, ◌∙◌, refl, inl, inr}
use Rattle.std.specs.Prelude.{◌+ℤ◌, ◌*ℤ◌, unsigned_abs, slice_index_or}
use Rattle.std.specs.Int.{cast_signed, cast_unsigned, w16, w32}
use Rattle.std.specs.Int.RustNames.{FitsSigned}
use Rattle.std.proofs.lemmas.Bool.{cases_lt}
use Rattle.std.proofs.lemmas.Int.{ints, to_z-of_z, fits_signed_from_abs, unsigned_abs-mul}
use Rattle.std.proofs.lemmas.Nat.{mul-le}
use Rattle.std.proofs.lemmas.List.{get_or-map, length-map, length-replicate}
use Rattle.std.proofs.lemmas.Simd.{length-zip2, get_or-zip2, length-chunk, get_or-chunk, get_or-replicate, Each1-from_get_or, get_or-put_chunk_below, get_or-put_chunk_at, get_or-put_chunk_above}
use lib.Lanes.{zip2, Each1, Each2, chunk, put_chunk}
use borrow.Rule.Simd.Lanes.{Asks1, Asks2, act1, act2}
use borrow.Table.Row.{s_int}
use mir.Syntax.{add, mul, cast, signed}
use Rattle.ring_core.specs.Bounds.{IsWithin}
use Rattle.ring_core.specs.Product.{Series, coefficients}
use Rattle.ring_lanes.specs.Rows.{eighth, AreEights, AreLanes}

-- ---- any operation

pub AreLanes-same : (lanes : List ℤ) (s t : Series) → ((l : ℕ) → l < 32 → s l ≡ t l) → AreLanes lanes s → AreLanes lanes t
AreLanes-same lanes s t e a = (a.0, λ l h. a.1 l h ∙ e l h)

lane_count : (number : ℕ → ℤ) (xs : List ℕ) (s : Series) → AreLanes (map number xs) s → length xs ≡ 32
lane_count number xs s a = sym (length-map xs number) ∙ a.0

lane_at : (number : ℕ → ℤ) (xs : List ℕ) (s : Series) (l : ℕ) → AreLanes (map number xs) s → l < 32 → number (slice_index_or xs l 0) ≡ s l
lane_at number xs s l a h =
    sym (get_or-map number xs l 0 (pos 0) (omega (arith, lane_count number xs s a))) ∙ a.1 l h

-- a vector of zeros
pub zero_lanes : AreLanes (replicate 32 (pos 0)) (λ l. pos 0)
zero_lanes = (refl, λ l low. get_or-replicate 32 l (pos 0) (pos 0) low)

-- an operation on two vectors
zip_lanes : (number : ℕ → ℤ) (f : ℕ → ℕ → ℕ) (xs ys : List ℕ) (s : Series) → length xs ≡ 32 → length ys ≡ 32 → ((l : ℕ) → l < 32 → number (f (slice_index_or xs l 0) (slice_index_or ys l 0)) ≡ s l) → AreLanes (map number (zip2 f xs ys)) s
zip_lanes number f xs ys s ex ey is =
    let long : length (zip2 f xs ys) ≡ 32 = length-zip2 f xs ys (ex ∙ sym ey) ∙ ex in (
      length-map (zip2 f xs ys) number ∙ long,
      λ l h. get_or-map number (zip2 f xs ys) l 0 (pos 0) (omega arith)
          ∙ ap number (get_or-zip2 f xs ys l 0 0 0 (omega arith) (omega arith))
          ∙ is l h,
    )

zip_asks : (P : ℕ → ℕ → Type 0) (xs ys : List ℕ) → ((l : ℕ) → l < length xs → P (slice_index_or xs l 0) (slice_index_or ys l 0)) → Each2 P xs ys
zip_asks P [] ys h = tt
zip_asks P (x ∷ xs) [] h = tt
zip_asks P (x ∷ xs) (y ∷ ys) h = (h 0 (omega arith), zip_asks P xs ys (λ l k. h (suc l) (omega arith)))

-- ---- a vector of copies

all_same : (n a : ℕ) (xs : List ℕ) → length xs ≡ n → ((i : ℕ) → i < n → slice_index_or xs i 0 ≡ a) → xs ≡ replicate n a
all_same zero a [] e h = refl
all_same zero a (x ∷ xs) e h = absurd (omega arith)
all_same (suc n) a [] e h = absurd (omega arith)
all_same (suc n) a (x ∷ xs) e h =
    ap (λ t. t ∷ xs) (h 0 (omega arith))
    ∙ ap (λ t. a ∷ t) (all_same n a xs (omega arith) (λ i l. h (suc i) (omega arith)))

-- the eight copies of number i
pub copies_loaded : (xs : List ℤ) (i : ℕ) → 8 * i + 8 ≤ length xs → AreEights xs → map (cast_unsigned w16) (chunk (8 * i) 8 xs) ≡ replicate 8 (cast_unsigned w16 (eighth xs i))
copies_loaded xs i fit copies =
    let count : length (chunk (8 * i) 8 xs) ≡ 8 = length-chunk (8 * i) 8 xs fit in
    all_same 8 (cast_unsigned w16 (eighth xs i)) (map (cast_unsigned w16) (chunk (8 * i) 8 xs)) (length-map (chunk (8 * i) 8 xs) (cast_unsigned w16) ∙ count) (λ j l.
    get_or-map (cast_unsigned w16) (chunk (8 * i) 8 xs) j (pos 0) 0 (omega arith)
    ∙ ap (cast_unsigned w16) (get_or-chunk (8 * i) 8 xs j (pos 0) l ∙ copies i j l))

pub AreEights-within : (bound : ℕ) (xs : List ℤ) (s : Series) → AreEights xs → ((i : ℕ) → eighth xs i ≡ s i) → ((i : ℕ) → unsigned_abs (s i) ≤ bound) → IsWithin bound xs
AreEights-within bound xs s copies same wide k =
    let at : coefficients xs k ≡ s (k / 8) =
    ap (coefficients xs) (let e : k ≡ 8 * (k / 8) + k % 8 = omega arith in e) ∙ copies (k / 8) (k % 8) (omega arith) ∙ same (k / 8)
    in
    omega (arith, ap unsigned_abs at, wide (k / 8))

-- number i more stands in the list eight times, and zeros behind it
pub eightfold_more : (copies list : List ℤ) (i : ℕ) (x : ℤ) → x ≡ coefficients list i → 8 * i + 8 ≤ length copies → ((k j : ℕ) → k < i → j < 8 → coefficients copies (8 * k + j) ≡ coefficients list k) → (k j : ℕ) → k < i + 1 → j < 8 → coefficients (put_chunk (8 * i) copies (replicate 8 x)) (8 * k + j) ≡ coefficients list k
eightfold_more copies list i x e fit before k j l h =
    elim (cases_lt k i) [
      | inl low ↦ get_or-put_chunk_below (8 * i) copies (replicate 8 x) (8 * k + j) (pos 0) (omega arith) ∙ before k j low h
      | inr from ↦
          let same : i ≡ k = omega arith in
          ap (λ t. coefficients (put_chunk (8 * i) copies (replicate 8 x)) (8 * t + j)) (sym same)
          ∙ get_or-put_chunk_at (8 * i) copies (replicate 8 x) j (pos 0) (omega (arith, length-replicate 8 x)) (omega (arith, length-replicate 8 x))
          ∙ get_or-replicate 8 j x (pos 0) h
          ∙ e
          ∙ ap (coefficients list) same
    ]

pub eightfold_left : (copies : List ℤ) (i : ℕ) (x : ℤ) → ((k : ℕ) → 8 * i ≤ k → coefficients copies k ≡ pos 0) → (k : ℕ) → 8 * (i + 1) ≤ k → coefficients (put_chunk (8 * i) copies (replicate 8 x)) k ≡ pos 0
eightfold_left copies i x left k l =
    get_or-put_chunk_above (8 * i) copies (replicate 8 x) k (pos 0) (omega (arith, length-replicate 8 x)) ∙ left k (omega arith)

-- ---- a row: the numbers from p on, times a factor, in lanes of 16 bits

abbrev pub row : List ℤ → ℕ → ℤ → List ℕ
row long p factor = zip2 (act2 (mul signed) (s_int w16) (s_int w16) (s_int w16)) (map (cast_unsigned w16) (chunk p 32 long)) (replicate 32 (cast_unsigned w16 factor))

loaded_count : (long : List ℤ) (p : ℕ) → p + 32 ≤ length long → length (map (cast_unsigned w16) (chunk p 32 long)) ≡ 32
loaded_count long p fit = length-map (chunk p 32 long) (cast_unsigned w16) ∙ length-chunk p 32 long fit

loaded_at : (long : List ℤ) (p l : ℕ) → p + 32 ≤ length long → l < 32 → slice_index_or (map (cast_unsigned w16) (chunk p 32 long)) l 0 ≡ cast_unsigned w16 (coefficients long (p + l))
loaded_at long p l fit h =
    get_or-map (cast_unsigned w16) (chunk p 32 long) l (pos 0) 0 (omega (arith, length-chunk p 32 long fit))
    ∙ ap (cast_unsigned w16) (get_or-chunk p 32 long l (pos 0) h)

term_within : (x factor : ℤ) → unsigned_abs x ≤ 4095 → unsigned_abs factor ≤ 1 → unsigned_abs (x *ℤ factor) ≤ 4095
term_within x factor hx hf =
    omega (arith, unsigned_abs-mul x factor, mul-le (unsigned_abs x) (unsigned_abs factor) 4095 1 hx hf)

term_asks : (x factor : ℤ) → unsigned_abs x ≤ 4095 → unsigned_abs factor ≤ 1 → Asks2 (mul signed) (s_int w16) (s_int w16) (cast_unsigned w16 x) (cast_unsigned w16 factor)
term_asks x factor hx hf =
    let fx : FitsSigned w16 x = omega (arith, ints) in
    let ff : FitsSigned w16 factor = omega (arith, ints) in
    let fits : FitsSigned w16 (x *ℤ factor) = fits_signed_from_abs w16 (x *ℤ factor) (omega (arith, term_within x factor hx hf)) in
    simp to_z-of_z fits

term_is : (x factor : ℤ) → unsigned_abs x ≤ 4095 → unsigned_abs factor ≤ 1 → cast_signed w16 (act2 (mul signed) (s_int w16) (s_int w16) (s_int w16) (cast_unsigned w16 x) (cast_unsigned w16 factor)) ≡ x *ℤ factor
term_is x factor hx hf =
    let fx : FitsSigned w16 x = omega (arith, ints) in
    let ff : FitsSigned w16 factor = omega (arith, ints) in
    let fits : FitsSigned w16 (x *ℤ factor) = fits_signed_from_abs w16 (x *ℤ factor) (omega (arith, term_within x factor hx hf)) in
    simp to_z-of_z refl

pub row_asks : (long : List ℤ) (p : ℕ) (factor : ℤ) → p + 32 ≤ length long → IsWithin 4095 long → unsigned_abs factor ≤ 1 → Each2 (Asks2 (mul signed) (s_int w16) (s_int w16)) (map (cast_unsigned w16) (chunk p 32 long)) (replicate 32 (cast_unsigned w16 factor))
row_asks long p factor fit wide small =
    zip_asks (Asks2 (mul signed) (s_int w16) (s_int w16)) (map (cast_unsigned w16) (chunk p 32 long)) (replicate 32 (cast_unsigned w16 factor)) (λ l h.
    let low : l < 32 = omega (arith, loaded_count long p fit) in
    rw (loaded_at long p l fit low, get_or-replicate 32 l (cast_unsigned w16 factor) 0 low) (term_asks (coefficients long (p + l)) factor (wide (p + l)) small))

pub row_lanes : (long : List ℤ) (p : ℕ) (factor : ℤ) → p + 32 ≤ length long → IsWithin 4095 long → unsigned_abs factor ≤ 1 → AreLanes (map (cast_signed w16) (row long p factor)) (λ l. coefficients long (p + l) *ℤ factor)
row_lanes long p factor fit wide small =
    zip_lanes (cast_signed w16) (act2 (mul signed) (s_int w16) (s_int w16) (s_int w16)) (map (cast_unsigned w16) (chunk p 32 long)) (replicate 32 (cast_unsigned w16 factor)) (λ l. coefficients long (p + l) *ℤ factor) (loaded_count long p fit) (length-replicate 32 (cast_unsigned w16 factor)) (λ l low.
    rw (loaded_at long p l fit low, get_or-replicate 32 l (cast_unsigned w16 factor) 0 low) (term_is (coefficients long (p + l)) factor (wide (p + l)) small))

-- ---- sums, in lanes of 16 and of 32 bits

sum_is_16 : (a b : ℕ) (s t : ℤ) → cast_signed w16 a ≡ s → cast_signed w16 b ≡ t → unsigned_abs (s +ℤ t) < 2 ^ 15 → cast_signed w16 (act2 (add signed) (s_int w16) (s_int w16) (s_int w16) a b) ≡ s +ℤ t
sum_is_16 a b s t ea eb h =
    let fits : FitsSigned w16 (s +ℤ t) = fits_signed_from_abs w16 (s +ℤ t) h in
    rw (ea, eb) (to_z-of_z w16 (s +ℤ t) fits)

sum_asks_16 : (a b : ℕ) (s t : ℤ) → cast_signed w16 a ≡ s → cast_signed w16 b ≡ t → unsigned_abs (s +ℤ t) < 2 ^ 15 → Asks2 (add signed) (s_int w16) (s_int w16) a b
sum_asks_16 a b s t ea eb h = rw (ea, eb) (fits_signed_from_abs w16 (s +ℤ t) h)

pub sums_asks_16 : (xs ys : List ℕ) (s t : Series) → AreLanes (map (cast_signed w16) xs) s → AreLanes (map (cast_signed w16) ys) t → ((l : ℕ) → l < 32 → unsigned_abs (s l +ℤ t l) < 2 ^ 15) → Each2 (Asks2 (add signed) (s_int w16) (s_int w16)) xs ys
sums_asks_16 xs ys s t ax ay h =
    zip_asks (Asks2 (add signed) (s_int w16) (s_int w16)) xs ys (λ l k.
    let low : l < 32 = omega (arith, lane_count (cast_signed w16) xs s ax) in
    sum_asks_16 (slice_index_or xs l 0) (slice_index_or ys l 0) (s l) (t l) (lane_at (cast_signed w16) xs s l ax low) (lane_at (cast_signed w16) ys t l ay low) (h l low))

pub sums_lanes_16 : (xs ys : List ℕ) (s t : Series) → AreLanes (map (cast_signed w16) xs) s → AreLanes (map (cast_signed w16) ys) t → ((l : ℕ) → l < 32 → unsigned_abs (s l +ℤ t l) < 2 ^ 15) → AreLanes (map (cast_signed w16) (zip2 (act2 (add signed) (s_int w16) (s_int w16) (s_int w16)) xs ys)) (λ l. s l +ℤ t l)
sums_lanes_16 xs ys s t ax ay h =
    zip_lanes (cast_signed w16) (act2 (add signed) (s_int w16) (s_int w16) (s_int w16)) xs ys (λ l. s l +ℤ t l) (lane_count (cast_signed w16) xs s ax) (lane_count (cast_signed w16) ys t ay) (λ l low.
    sum_is_16 (slice_index_or xs l 0) (slice_index_or ys l 0) (s l) (t l) (lane_at (cast_signed w16) xs s l ax low) (lane_at (cast_signed w16) ys t l ay low) (h l low))

sum_is_32 : (a b : ℕ) (s t : ℤ) → cast_signed w32 a ≡ s → cast_signed w32 b ≡ t → unsigned_abs (s +ℤ t) < 2 ^ 31 → cast_signed w32 (act2 (add signed) (s_int w32) (s_int w32) (s_int w32) a b) ≡ s +ℤ t
sum_is_32 a b s t ea eb h =
    let fits : FitsSigned w32 (s +ℤ t) = fits_signed_from_abs w32 (s +ℤ t) h in
    rw (ea, eb) (to_z-of_z w32 (s +ℤ t) fits)

sum_asks_32 : (a b : ℕ) (s t : ℤ) → cast_signed w32 a ≡ s → cast_signed w32 b ≡ t → unsigned_abs (s +ℤ t) < 2 ^ 31 → Asks2 (add signed) (s_int w32) (s_int w32) a b
sum_asks_32 a b s t ea eb h = rw (ea, eb) (fits_signed_from_abs w32 (s +ℤ t) h)

pub sums_asks_32 : (xs ys : List ℕ) (s t : Series) → AreLanes (map (cast_signed w32) xs) s → AreLanes (map (cast_signed w32) ys) t → ((l : ℕ) → l < 32 → unsigned_abs (s l +ℤ t l) < 2 ^ 31) → Each2 (Asks2 (add signed) (s_int w32) (s_int w32)) xs ys
sums_asks_32 xs ys s t ax ay h =
    zip_asks (Asks2 (add signed) (s_int w32) (s_int w32)) xs ys (λ l k.
    let low : l < 32 = omega (arith, lane_count (cast_signed w32) xs s ax) in
    sum_asks_32 (slice_index_or xs l 0) (slice_index_or ys l 0) (s l) (t l) (lane_at (cast_signed w32) xs s l ax low) (lane_at (cast_signed w32) ys t l ay low) (h l low))

pub sums_lanes_32 : (xs ys : List ℕ) (s t : Series) → AreLanes (map (cast_signed w32) xs) s → AreLanes (map (cast_signed w32) ys) t → ((l : ℕ) → l < 32 → unsigned_abs (s l +ℤ t l) < 2 ^ 31) → AreLanes (map (cast_signed w32) (zip2 (act2 (add signed) (s_int w32) (s_int w32) (s_int w32)) xs ys)) (λ l. s l +ℤ t l)
sums_lanes_32 xs ys s t ax ay h =
    zip_lanes (cast_signed w32) (act2 (add signed) (s_int w32) (s_int w32) (s_int w32)) xs ys (λ l. s l +ℤ t l) (lane_count (cast_signed w32) xs s ax) (lane_count (cast_signed w32) ys t ay) (λ l low.
    sum_is_32 (slice_index_or xs l 0) (slice_index_or ys l 0) (s l) (t l) (lane_at (cast_signed w32) xs s l ax low) (lane_at (cast_signed w32) ys t l ay low) (h l low))

-- ---- lanes of 16 bits, widened to 32

abbrev pub widened : List ℤ → List ℕ
widened xs = map (act1 (cast signed signed w32) (s_int w16) (s_int w32)) (map (cast_unsigned w16) xs)

wide_asks : (x : ℤ) → unsigned_abs x < 2 ^ 15 → Asks1 (cast signed signed w32) (s_int w16) (cast_unsigned w16 x)
wide_asks x h =
    let fits : FitsSigned w16 x = fits_signed_from_abs w16 x h in
    let wide : FitsSigned w32 x = fits_signed_from_abs w32 x (omega arith) in
    simp to_z-of_z wide

wide_is : (x : ℤ) → unsigned_abs x < 2 ^ 15 → cast_signed w32 (act1 (cast signed signed w32) (s_int w16) (s_int w32) (cast_unsigned w16 x)) ≡ x
wide_is x h =
    let fits : FitsSigned w16 x = fits_signed_from_abs w16 x h in
    let wide : FitsSigned w32 x = fits_signed_from_abs w32 x (omega arith) in
    simp to_z-of_z refl

pub widened_asks : (xs : List ℤ) (s : Series) → AreLanes xs s → ((l : ℕ) → l < 32 → unsigned_abs (s l) < 2 ^ 15) → Each1 (Asks1 (cast signed signed w32) (s_int w16)) (map (cast_unsigned w16) xs)
widened_asks xs s a h =
    Each1-from_get_or (Asks1 (cast signed signed w32) (s_int w16)) (map (cast_unsigned w16) xs) 0 (λ l k.
    let low : l < 32 = omega (arith, length-map xs (cast_unsigned w16), a.0) in
    rw (get_or-map (cast_unsigned w16) xs l (pos 0) 0 (omega (arith, a.0)), a.1 l low) (wide_asks (s l) (h l low)))

pub widened_lanes : (xs : List ℤ) (s : Series) → AreLanes xs s → ((l : ℕ) → l < 32 → unsigned_abs (s l) < 2 ^ 15) → AreLanes (map (cast_signed w32) (widened xs)) s
widened_lanes xs s a h =
    let bits : List ℕ = map (cast_unsigned w16) xs in
    let count : length bits ≡ 32 = length-map xs (cast_unsigned w16) ∙ a.0 in
    let f : ℕ → ℕ = act1 (cast signed signed w32) (s_int w16) (s_int w32) in
    let wide : length (map f bits) ≡ 32 = length-map bits f ∙ count in (
      length-map (map f bits) (cast_signed w32) ∙ wide,
      λ l low. get_or-map (cast_signed w32) (map f bits) l 0 (pos 0) (omega arith)
          ∙ ap (cast_signed w32) (get_or-map f bits l 0 0 (omega arith))
          ∙ ap (λ t. cast_signed w32 (f t)) (get_or-map (cast_unsigned w16) xs l (pos 0) 0 (omega (arith, a.0)))
          ∙ ap (λ t. cast_signed w32 (f (cast_unsigned w16 t))) (a.1 l low)
          ∙ wide_is (s l) (h l low),
    )

-- ---- a vector of 32 bits, stored

stored_lanes : (xs : List ℤ) (s : Series) → AreLanes xs s → ((l : ℕ) → l < 32 → unsigned_abs (s l) < 2 ^ 31) → AreLanes (map (cast_signed w32) (map (cast_unsigned w32) xs)) s
stored_lanes xs s a h =
    let bits : List ℕ = map (cast_unsigned w32) xs in
    let count : length bits ≡ 32 = length-map xs (cast_unsigned w32) ∙ a.0 in (
      length-map bits (cast_signed w32) ∙ count,
      λ l low. get_or-map (cast_signed w32) bits l 0 (pos 0) (omega arith)
          ∙ ap (cast_signed w32) (get_or-map (cast_unsigned w32) xs l (pos 0) 0 (omega (arith, a.0)))
          ∙ ap (λ t. cast_signed w32 (cast_unsigned w32 t)) (a.1 l low)
          ∙ to_z-of_z w32 (s l) (fits_signed_from_abs w32 (s l) (h l low)),
    )

-- 32 numbers of the series more stand in the list
pub stored_more : (sums xs : List ℤ) (s : Series) (block : ℕ) → 32 * block + 32 ≤ length sums → AreLanes xs (λ l. s (32 * block + l)) → ((l : ℕ) → l < 32 → unsigned_abs (s (32 * block + l)) < 2 ^ 31) → ((k : ℕ) → k < 32 * block → coefficients sums k ≡ s k) → (k : ℕ) → k < 32 * (block + 1) → coefficients (put_chunk (32 * block) sums (map (cast_signed w32) (map (cast_unsigned w32) xs))) k ≡ s k
stored_more sums xs s block fit a h before k l =
    let ys : List ℤ = map (cast_signed w32) (map (cast_unsigned w32) xs) in
    let b : AreLanes ys (λ l. s (32 * block + l)) = stored_lanes xs (λ l. s (32 * block + l)) a h in
    elim (cases_lt k (32 * block)) [
      | inl low ↦ get_or-put_chunk_below (32 * block) sums ys k (pos 0) low ∙ before k low
      | inr from ↦
          let place : 32 * block + (k - 32 * block) ≡ k = omega arith in
          ap (coefficients (put_chunk (32 * block) sums ys)) (sym place)
          ∙ get_or-put_chunk_at (32 * block) sums ys (k - 32 * block) (pos 0) (omega (arith, b.0)) (omega (arith, b.0))
          ∙ b.1 (k - 32 * block) (omega arith)
          ∙ ap s place
    ]
