-- Decoding what was encoded gives the values.
use Rattle.std.proofs.Common.{◌≡◌, ℕ, zero, suc, ◌+◌, ◌*◌, ◌/◌, ◌%◌, ◌^◌, ◌≤◌, List, [], ◌∷◌, ◌++◌, length, map, take, drop, arith, ap, sym, ◌∙◌, refl}
use Rattle.std.proofs.lemmas.List.{take_at, drop_at, length-append, length-map}
use Rattle.std.proofs.lemmas.Nat.{div-mul-add, mod-mul-add}
use Rattle.std.proofs.Math.Nat.{mod-eq_of_lt}
use Rattle.radix_pack.specs.declared.levels.Digit.{Digit}
use Rattle.radix_pack.specs.Radix.{low_bytes, above_bytes, number, pair_bytes, pair_radix, last_bytes, joined, pair_written, level_bytes, next_digits, encode_in, with_radices, encode, level_count, next_radices, length_in, encoded_length, parted, decode_in, decode, AreRadices, AreBelow, AreDigits}
use Rattle.radix_pack.proofs.Turns.{length-low_bytes, number-low_bytes, pair_radix_below, pair_above_below, last_number, joined_below}

abbrev pub values_of : List Digit → List ℕ
values_of = map (λ x. x.value)

abbrev pub radices_of : List Digit → List ℕ
radices_of = map (λ x. x.radix)

pub AreDigits-next : (xs : List Digit) → AreDigits xs → AreDigits (next_digits xs)
AreDigits-next [] h = tt
AreDigits-next (x ∷ []) h = h
AreDigits-next (x ∷ y ∷ rest) h = (
  pair_above_below x.radix y.radix (joined x y) (joined_below x.value x.radix y.value y.radix h.0 h.2.0),
  pair_radix_below x.radix y.radix h.1 h.2.1,
  AreDigits-next rest h.2.2,
)

pub radices_of-next : (xs : List Digit) → next_radices (radices_of xs) ≡ radices_of (next_digits xs)
radices_of-next [] = refl
radices_of-next (x ∷ []) = refl
radices_of-next (x ∷ y ∷ rest) = ap (λ t. pair_radix x.radix y.radix ∷ t) (radices_of-next rest)

pub length-level_bytes : (xs : List Digit) → length (level_bytes xs) ≡ level_count (radices_of xs)
length-level_bytes [] = refl
length-level_bytes (x ∷ []) = refl
length-level_bytes (x ∷ y ∷ rest) =
    omega (arith, length-append (pair_written x y) (level_bytes rest), length-low_bytes (pair_bytes x.radix y.radix) (joined x y), length-level_bytes rest)

pub length-next_digits : (xs : List Digit) → length (next_digits xs) ≡ (length xs + 1) / 2
length-next_digits [] = refl
length-next_digits (x ∷ []) = refl
length-next_digits (x ∷ y ∷ rest) = omega (arith, length-next_digits rest)

-- a level's bytes and the next level's values give its values
parted_is : (xs : List Digit) → AreDigits xs → parted (radices_of xs) (level_bytes xs) (values_of (next_digits xs)) ≡ values_of xs
parted_is [] h = refl
parted_is (x ∷ []) h = refl
parted_is (x ∷ y ∷ rest) h =
    let m = x.radix in
    let n = y.radix in
    let s = pair_bytes m n in
    let r = joined x y in
    let front : take s (low_bytes s r ++ level_bytes rest) ≡ low_bytes s r = take_at (low_bytes s r) (level_bytes rest) s (length-low_bytes s r) in
    let back : drop s (low_bytes s r ++ level_bytes rest) ≡ level_bytes rest = drop_at (low_bytes s r) (level_bytes rest) s (length-low_bytes s r) in
    let all : number (take s (low_bytes s r ++ level_bytes rest)) + 256 ^ s * above_bytes s r ≡ r = omega (arith, ap number front, number-low_bytes s r) in
    let turned : r ≡ y.value * m + x.value = omega arith in
    let first : r % m ≡ x.value = ap (λ t. t % m) turned ∙ mod-mul-add y.value m x.value h.0 in
    let second : r / m % n ≡ y.value = ap (λ t. t / m % n) turned ∙ ap (λ t. t % n) (div-mul-add y.value m x.value h.0) ∙ mod-eq_of_lt h.2.0 in
    rw (all, back, first, second) (ap (λ t. x.value ∷ y.value ∷ t) (parted_is rest h.2.2))

round_trip : (levels : ℕ) (xs : List Digit) → length xs ≤ levels → AreDigits xs → decode_in levels (radices_of xs) (encode_in levels xs) ≡ values_of xs
round_trip zero [] h a = refl
round_trip zero (x ∷ xs) h a = absurd (omega arith)
round_trip (suc levels) [] h a = refl
round_trip (suc levels) (x ∷ []) h a =
    ap (λ t. t ∷ []) (ap (λ t. t % x.radix) (last_number x.radix x.value a.1 a.0) ∙ mod-eq_of_lt a.0)
round_trip (suc levels) (x ∷ y ∷ rest) h a =
    let xs : List Digit = x ∷ y ∷ rest in
    let later = encode_in levels (next_digits xs) in
    let shorter : length (next_digits xs) ≤ levels = omega (arith, length-next_digits xs) in
    let above : decode_in levels (next_radices (radices_of xs)) later ≡ values_of (next_digits xs) =
    ap (λ t. decode_in levels t later) (radices_of-next xs) ∙ round_trip levels (next_digits xs) shorter (AreDigits-next xs a)
    in
    ap (λ t. parted (radices_of xs) t (decode_in levels (next_radices (radices_of xs)) (drop (level_count (radices_of xs)) (level_bytes xs ++ later)))) (take_at (level_bytes xs) later (level_count (radices_of xs)) (length-level_bytes xs))
    ∙ ap (λ t. parted (radices_of xs) (level_bytes xs) (decode_in levels (next_radices (radices_of xs)) t)) (drop_at (level_bytes xs) later (level_count (radices_of xs)) (length-level_bytes xs))
    ∙ ap (λ t. parted (radices_of xs) (level_bytes xs) t) above
    ∙ parted_is xs a

-- ---- values with their radices

pub AreDigits-with_radices : (values radices : List ℕ) → AreRadices radices → AreBelow values radices → AreDigits (with_radices values radices)
AreDigits-with_radices [] ms m b = tt
AreDigits-with_radices (r ∷ rs) [] m b = absurd (omega (arith, b.0))
AreDigits-with_radices (r ∷ rs) (n ∷ ms) m b = (
  b.1 0 (omega arith),
  (m 0 (omega arith)).1,
  AreDigits-with_radices rs ms (λ k l. m (suc k) (omega arith)) (omega (arith, b.0), λ k l. b.1 (suc k) (omega arith)),
)

pub values_of-with_radices : (values radices : List ℕ) → length values ≡ length radices → values_of (with_radices values radices) ≡ values
values_of-with_radices [] ms e = refl
values_of-with_radices (r ∷ rs) [] e = absurd (omega arith)
values_of-with_radices (r ∷ rs) (m ∷ ms) e = ap (λ t. r ∷ t) (values_of-with_radices rs ms (omega arith))

pub radices_of-with_radices : (values radices : List ℕ) → length values ≡ length radices → radices_of (with_radices values radices) ≡ radices
radices_of-with_radices [] [] e = refl
radices_of-with_radices [] (m ∷ ms) e = absurd (omega arith)
radices_of-with_radices (r ∷ rs) [] e = absurd (omega arith)
radices_of-with_radices (r ∷ rs) (m ∷ ms) e = ap (λ t. m ∷ t) (radices_of-with_radices rs ms (omega arith))

pub decode-encode : (values radices : List ℕ) → AreRadices radices → AreBelow values radices → decode (encode values radices) radices ≡ values
unfolding decode encode
decode-encode values radices m b =
    let xs = with_radices values radices in
    let same : radices_of xs ≡ radices = radices_of-with_radices values radices b.0 in
    let count : length xs ≡ length radices = omega (arith, ap length same, length-map xs (λ x. x.radix)) in
    ap (λ t. decode_in (length radices) t (encode_in (length radices) xs)) (sym same)
    ∙ round_trip (length radices) xs (omega arith) (AreDigits-with_radices values radices m b)
    ∙ values_of-with_radices values radices b.0

-- ---- lengths

length_encode_in : (levels : ℕ) (xs : List Digit) → length (encode_in levels xs) ≡ length_in levels (radices_of xs)
length_encode_in zero xs = refl
length_encode_in (suc levels) [] = refl
length_encode_in (suc levels) (x ∷ []) = length-low_bytes (last_bytes x.radix) x.value
length_encode_in (suc levels) (x ∷ y ∷ rest) =
    let xs : List Digit = x ∷ y ∷ rest in
    length-append (level_bytes xs) (encode_in levels (next_digits xs))
    ∙ omega (arith, length-level_bytes xs, length_encode_in levels (next_digits xs), ap (length_in levels) (radices_of-next xs))

pub length-encode : (values radices : List ℕ) → length values ≡ length radices → length (encode values radices) ≡ encoded_length radices
unfolding encode encoded_length
length-encode values radices e =
    length_encode_in (length radices) (with_radices values radices) ∙ ap (length_in (length radices)) (radices_of-with_radices values radices e)

-- ---- what the code encodes

pub length-with_radices : (values radices : List ℕ) → length values ≡ length radices → length (with_radices values radices) ≡ length radices
length-with_radices values radices e =
    let xs = with_radices values radices in
    omega (arith, ap length (radices_of-with_radices values radices e), length-map xs (λ x. x.radix))

pub encode_is : (values radices : List ℕ) (xs : List Digit) → length values ≡ length radices → xs ≡ with_radices values radices → encode_in (length xs) xs ≡ encode values radices
unfolding encode
encode_is values radices xs e d =
    ap (λ t. encode_in (length t) t) d ∙ ap (λ n. encode_in n (with_radices values radices)) (length-with_radices values radices e)
