-- Hex digits are read by lanes.
use Rattle.std.proofs.Common.{◌≡◌, ℕ, zero, suc, ◌+◌, ◌-◌, ◌*◌, ◌/◌, ◌%◌, ◌^◌, ◌<◌, ◌≤◌, Bool, true, false, not, cond, ltb, leb, eqb, ◌&&◌, List, [], ◌∷◌, ◌++◌, length, get_or, take, drop, map, replicate, slice_set, refl, sym, ap, ◌∙◌, arith, w8, Fits, Some, Result, Ok, codes}
use Rattle.std.specs.List.{list_all, AllPass}
use Rattle.std.specs.Str.{bytes_eq}
use Rattle.std.specs.Result.{result_unwrap_or}
use Rattle.std.proofs.lemmas.Simd.{tops_compared, zip2_splat_left, mask_l-mod, length-chunk, chunk-drop, take_more_put_chunk}
use Rattle.std.proofs.Math.Seq.{take-add}
use Rattle.std.proofs.lemmas.List.{map-append, drop-drop, append-nil, take_all, take_more_set, append_assoc, drop_all, length-map}
use Rattle.std.proofs.lemmas.List.Folds.{list_all-append}
use Rattle.std.proofs.lemmas.List.Sums.{AllPass-from_list_all}
use Rattle.std.proofs.lemmas.List.Elements.{All-head, All-tail}
use Rattle.std.proofs.lemmas.Bool.{and_parts, eqb-true}
use Rattle.std.proofs.lemmas.Bool.Decides.{nat_tests}
use Rattle.hex.specs.declared.error.FromHexError.{FromHexError}
use Rattle.hex.specs.Hex.{decode_pairs, pair_value, hex_digit_value}
use Rattle.hex.proofs.Pairs.{drop-pair, decode_pairs-ok_pair, cons_byte}
use Rattle.hex.proofs.HexLemmas.{decode_of-even}
use lib.Lanes.{Each1, chunk, put_chunk, zip2, sel_l, mask_l, top}
use Rattle.field_text.specs.Fields.{is_hex, is_hex_digit, bytes, bytes_of}
use Rattle.field_text.specs.HexLanes.{hex_value, byte_of, is_value, joined, pairs_of}
use Rattle.field_text.proofs.Cutting.{not_true}
use Rattle.field_text.proofs.Lanes.{less, more, below, one_choice}

-- ---- the values of digits

one_value : (x : ℕ) → cond (top 7 (below (less x 48) 10)) (less x 48)
    (cond (top 7 (below (less x 97) 6)) (more (less x 97) 10) 255) ≡ hex_value x
unfolding hex_value
one_value x =
    one_choice (ltb (less x 48) 10) (less x 48) _
    ∙ ap (cond (ltb (less x 48) 10) (less x 48))
    (one_choice (ltb (less x 97) 6) (more (less x 97) 10) 255)

-- each lane has the value of its digit
pub values_of : (xs : List ℕ) (n : ℕ) → length xs ≡ n
    → sel_l (map (top 7) (zip2 below (zip2 less xs (replicate n 48)) (replicate n 10)))
    (zip2 less xs (replicate n 48))
    (sel_l (map (top 7) (zip2 below (zip2 less xs (replicate n 97)) (replicate n 6)))
    (zip2 more (zip2 less xs (replicate n 97)) (replicate n 10)) (replicate n 255))
    ≡ map hex_value xs
values_of [] n e = refl
values_of (x ∷ xs) zero e = absurd (omega arith)
values_of (x ∷ xs) (suc n) e =
    let rest = values_of xs n (omega arith) in
    rw (one_value x, rest) refl

mask_double : (n : ℕ) → eqb (zero + 2 * n) 0 ≡ eqb n 0
mask_double n = grind arith

-- no bit of a mask is set where the test passes for no lane
mask_none : (p : ℕ → Bool) (xs : List ℕ)
    → eqb (mask_l (map p xs)) 0 ≡ list_all (λ x. not (p x)) xs
mask_none p [] = refl
mask_none p (x ∷ xs) = go (p x) (mask_none p xs)
  where
    go : (t : Bool) → eqb (mask_l (map p xs)) 0 ≡ list_all (λ x. not (p x)) xs
        → eqb (cond t 1 zero + 2 * mask_l (map p xs)) 0 ≡ (not t && list_all (λ x. not (p x)) xs)
    go true e = grind arith
    go false e = mask_double (mask_l (map p xs)) ∙ e

-- one mask tests 16 values
pub tested : (xs : List ℕ) → length xs ≡ 16
    → eqb (mask_l (map (top 7) (zip2 (λ a b. cond (leb a b) (2 ^ 8 - 1) 0) (replicate 16 16) xs))
    % 2 ^ 64) 0 ≡ list_all is_value xs
tested xs long =
    let mask = tops_compared w8 leb (replicate 16 16) xs ∙ zip2_splat_left leb 16 16 xs long in
    let size = length-map xs (λ x. leb 16 x) in
    ap (λ ms. eqb (mask_l ms % 2 ^ 64) 0) mask
    ∙ ap (λ n. eqb n 0) (mask_l-mod (map (λ x. leb 16 x) xs) 64 (omega (arith, size)))
    ∙ mask_none (λ x. leb 16 x) xs

-- a value is that of a digit exactly where the byte is a digit
digit_test : (c : ℕ) → c < 256 → is_value (hex_value c) ≡ is_hex_digit c
unfolding hex_value
digit_test c fits = grind (arith, nat_tests)

digits_test : (xs : List ℕ) → Each1 (Fits w8) xs
    → list_all is_value (map hex_value xs) ≡ list_all is_hex_digit xs
digits_test [] fits = refl
digits_test (x ∷ xs) fits = rw (digit_test x fits.0.fits, digits_test xs fits.1) refl

-- ---- blocks of 32 digits

-- two loads of 16 are one of 32
two_chunks : (at : ℕ) (xs : List ℕ) → chunk at 32 xs ≡ chunk at 16 xs ++ chunk (at + 16) 16 xs
two_chunks at xs =
    take-add 16 16 (drop at xs) ∙ ap (λ zs. take 16 (drop at xs) ++ take 16 zs) (drop-drop 16 at xs)

-- the test of both loads is that of the block
pub block_test : (at : ℕ) (xs a b : List ℕ)
    → Each1 (Fits w8) (chunk at 16 xs) → Each1 (Fits w8) (chunk (at + 16) 16 xs)
    → a ≡ map hex_value (chunk at 16 xs) → b ≡ map hex_value (chunk (at + 16) 16 xs)
    → list_all is_hex_digit (chunk at 32 xs) ≡ (list_all is_value a && list_all is_value b)
block_test at xs a b fa fb ea eb =
    ap (list_all is_hex_digit) (two_chunks at xs)
    ∙ list_all-append is_hex_digit (chunk at 16 xs) (chunk (at + 16) 16 xs)
    ∙ rw (ea, eb, digits_test (chunk at 16 xs) fa, digits_test (chunk (at + 16) 16 xs) fb) refl

-- and the bytes of both are its bytes
pub block_bytes : (at : ℕ) (xs a b : List ℕ)
    → a ≡ map hex_value (chunk at 16 xs) → b ≡ map hex_value (chunk (at + 16) 16 xs)
    → joined (a ++ b) ≡ pairs_of (chunk at 32 xs)
block_bytes at xs a b ea eb =
    rw (ea, eb) (ap joined (sym (map-append hex_value (chunk at 16 xs) (chunk (at + 16) 16 xs))
    ∙ ap (map hex_value) (sym (two_chunks at xs))))

joined-append : (n : ℕ) (xs ys : List ℕ) → length xs ≡ 2 * n
    → joined (xs ++ ys) ≡ joined xs ++ joined ys
unfolding joined
joined-append zero [] ys e = refl
joined-append zero (x ∷ xs) ys e = absurd (omega arith)
joined-append (suc n) [] ys e = absurd (omega arith)
joined-append (suc n) (x ∷ []) ys e = absurd (omega arith)
joined-append (suc n) (x ∷ y ∷ xs) ys e =
    ap (λ zs. (x * 16 % 256 + y) % 256 ∷ zs) (joined-append n xs ys (omega arith))

-- the bytes of a block and of what is behind it
block_more : (at : ℕ) (xs : List ℕ) → at + 32 ≤ length xs
    → pairs_of (drop at xs) ≡ pairs_of (chunk at 32 xs) ++ pairs_of (drop (at + 32) xs)
block_more at xs within =
    let size : length (map hex_value (chunk at 32 xs)) ≡ 2 * 16 =
    omega (arith, length-map (chunk at 32 xs) hex_value, length-chunk at 32 xs within) in
    ap pairs_of (chunk-drop at 32 xs)
    ∙ ap joined (map-append hex_value (chunk at 32 xs) (drop (at + 32) xs))
    ∙ joined-append 16 (map hex_value (chunk at 32 xs)) (map hex_value (drop (at + 32) xs)) size

block_all : (at : ℕ) (xs : List ℕ) → list_all is_hex_digit (drop at xs)
    ≡ (list_all is_hex_digit (chunk at 32 xs) && list_all is_hex_digit (drop (at + 32) xs))
block_all at xs =
    ap (list_all is_hex_digit) (chunk-drop at 32 xs)
    ∙ list_all-append is_hex_digit (chunk at 32 xs) (drop (at + 32) xs)

-- a block with another byte
pub block_none : (at : ℕ) (xs : List ℕ) → (list_all is_hex_digit (chunk at 32 xs) ≡ true → ⊥)
    → list_all is_hex_digit (drop at xs) ≡ false
block_none at xs h =
    block_all at xs
    ∙ ap (λ b. b && list_all is_hex_digit (drop (at + 32) xs)) (not_true _ h)

-- a block of digits
pub block_some : (at : ℕ) (xs : List ℕ) → list_all is_hex_digit (chunk at 32 xs) ≡ true
    → list_all is_hex_digit (drop at xs) ≡ list_all is_hex_digit (drop (at + 32) xs)
block_some at xs h =
    block_all at xs ∙ ap (λ b. b && list_all is_hex_digit (drop (at + 32) xs)) h

-- the bytes of a block are written
pub block_written : (i : ℕ) (xs room bytes : List ℕ)
    → 2 * i + 32 ≤ length xs → i + 16 ≤ length room → length bytes ≡ 16
    → bytes ≡ pairs_of (chunk (2 * i) 32 xs)
    → take i room ++ pairs_of (drop (2 * i) xs) ≡ pairs_of xs
    → take (i + 16) (put_chunk i room bytes) ++ pairs_of (drop (2 * (i + 16)) xs) ≡ pairs_of xs
block_written i xs room bytes within fits long is so_far =
    let next : 2 * (i + 16) ≡ 2 * i + 32 = omega arith in
    let front = take_more_put_chunk i room bytes (i + 16) (omega arith) fits in
    let rest = pairs_of (drop (2 * (i + 16)) xs) in
    let more : bytes ++ rest ≡ pairs_of (drop (2 * i) xs) =
    ap (λ zs. zs ++ rest) is
    ∙ ap (λ k. pairs_of (chunk (2 * i) 32 xs) ++ pairs_of (drop k xs)) next
    ∙ sym (block_more (2 * i) xs within) in
    ap (λ zs. zs ++ rest) front ∙ append_assoc (take i room) bytes rest
    ∙ ap (λ zs. take i room ++ zs) more ∙ so_far

-- ---- pairs behind the last block

one_digit : (c : ℕ) → is_hex_digit c ≡ true
    → (hex_digit_value c ≡ Some (hex_value c)) × (hex_value c < 16)
unfolding hex_value
one_digit c h = (grind (arith, nat_tests), grind (arith, nat_tests))

digit_small : (c : ℕ) → c < 256 → hex_value c < 16 → is_hex_digit c ≡ true
unfolding hex_value
digit_small c fits small = grind (arith, nat_tests)

pub pair_is : (a b x y : ℕ) → a < 256 → b < 256 → x ≡ hex_value a → y ≡ hex_value b
    → x < 16 → y < 16
    → ((is_hex_digit a && is_hex_digit b) ≡ true) × (x * 16 + y ≡ byte_of a b)
pair_is a b x y fa fb ex ey sx sy =
    let ha = digit_small a fa (omega arith) in
    let hb = digit_small b fb (omega arith) in
    (rw (ha, hb) refl, omega arith)

pub pair_not : (a b x y : ℕ) → x ≡ hex_value a → y ≡ hex_value b → (x < 16 → y < 16 → ⊥)
    → (is_hex_digit a && is_hex_digit b) ≡ true → ⊥
pair_not a b x y ex ey large e =
    let parts = and_parts (is_hex_digit a) (is_hex_digit b) e in
    large (omega (arith, (one_digit a parts.0).1)) (omega (arith, (one_digit b parts.1).1))

-- whether the digits of pair i are digits
abbrev pair_test : List ℕ → ℕ → Bool
pair_test xs i = is_hex_digit (get_or xs (2 * i) 0) && is_hex_digit (get_or xs (2 * i + 1) 0)

-- two digits and what is behind them
pair_all : (xs : List ℕ) (i : ℕ) → 2 * i + 1 < length xs
    → list_all is_hex_digit (drop (2 * i) xs)
    ≡ (pair_test xs i && list_all is_hex_digit (drop (2 * (i + 1)) xs))
pair_all xs i fits =
    ap (list_all is_hex_digit) (drop-pair xs i fits)
    ∙ and_assoc (is_hex_digit (get_or xs (2 * i) 0)) (is_hex_digit (get_or xs (2 * i + 1) 0)) _
  where
    and_assoc : (a b c : Bool) → (a && (b && c)) ≡ ((a && b) && c)
    and_assoc true b c = refl
    and_assoc false b c = refl

pub pair_none : (xs : List ℕ) (i : ℕ) → 2 * i + 1 < length xs → (pair_test xs i ≡ true → ⊥)
    → list_all is_hex_digit (drop (2 * i) xs) ≡ false
pair_none xs i fits h =
    pair_all xs i fits
    ∙ ap (λ b. b && list_all is_hex_digit (drop (2 * (i + 1)) xs)) (not_true _ h)

pub pair_some : (xs : List ℕ) (i : ℕ) → 2 * i + 1 < length xs → pair_test xs i ≡ true
    → list_all is_hex_digit (drop (2 * i) xs) ≡ list_all is_hex_digit (drop (2 * (i + 1)) xs)
pair_some xs i fits h =
    pair_all xs i fits ∙ ap (λ b. b && list_all is_hex_digit (drop (2 * (i + 1)) xs)) h

pub pair_written : (xs room : List ℕ) (i byte : ℕ) → 2 * i + 1 < length xs → i < length room
    → byte ≡ byte_of (get_or xs (2 * i) 0) (get_or xs (2 * i + 1) 0)
    → take i room ++ pairs_of (drop (2 * i) xs) ≡ pairs_of xs
    → take (i + 1) (slice_set room i byte) ++ pairs_of (drop (2 * (i + 1)) xs) ≡ pairs_of xs
unfolding joined
pair_written xs room i byte fits within is so_far =
    let rest = pairs_of (drop (2 * (i + 1)) xs) in
    ap (λ zs. zs ++ rest) (take_more_set room i byte within)
    ∙ append_assoc (take i room) (byte ∷ []) rest
    ∙ ap (λ b. take i room ++ b ∷ rest) is
    ∙ ap (λ zs. take i room ++ pairs_of zs) (sym (drop-pair xs i fits))
    ∙ so_far

-- all bytes are written
pub all_written : (xs room : List ℕ) (i : ℕ) → length room ≤ i → length xs ≡ 2 * length room
    → take i room ++ pairs_of (drop (2 * i) xs) ≡ pairs_of xs → room ≡ pairs_of xs
unfolding joined
all_written xs room i past long so_far =
    sym (append-nil room) ∙ ap (λ zs. zs ++ []) (sym (take_all i room past))
    ∙ ap (λ zs. take i room ++ pairs_of zs) (sym (drop_all (2 * i) xs (omega arith))) ∙ so_far

-- ---- a whole field

-- a hex text has an even number of digits
pub hex_parts : (text : List ℕ) → is_hex text ≡ true
    → (length text % 2 ≡ 0) × AllPass is_hex_digit text
hex_parts [] e = absurd cc
hex_parts (d ∷ ds) e =
    let parts = and_parts (eqb (length (d ∷ ds) % 2) 0) (list_all is_hex_digit (d ∷ ds)) e in
    (eqb-true _ _ parts.0, AllPass-from_list_all is_hex_digit (d ∷ ds) parts.1)

-- for digits these are the bytes that `hex` decodes
pairs_decode : (i : ℕ) (xs : List ℕ) → AllPass is_hex_digit xs → (n : ℕ) → length xs ≡ 2 * n
    → decode_pairs i xs ≡ Ok (pairs_of xs)
unfolding joined decode_pairs
pairs_decode i [] all n e = refl
pairs_decode i (x ∷ []) all n e = absurd (omega arith)
pairs_decode i (x ∷ y ∷ xs) all zero e = absurd (omega arith)
pairs_decode i (x ∷ y ∷ xs) all (suc n) e =
    let passes : ℕ → Type 0 = λ c. is_hex_digit c ≡ true in
    let tail = All-tail passes x (y ∷ xs) all in
    let hx = one_digit x (All-head passes x (y ∷ xs) all) in
    let hy = one_digit y (All-head passes y xs tail) in
    let rest = pairs_decode (i + 2) xs (All-tail passes y xs tail) n (omega arith) in
    let pair : pair_value x y i ≡ Ok (hex_value x * 16 + hex_value y) = rw (hx.0, hy.0) refl in
    let same : hex_value x * 16 + hex_value y ≡ byte_of x y = omega (arith, hx.1, hy.1) in
    decode_pairs-ok_pair i x y _ xs pair ∙ ap (cons_byte (hex_value x * 16 + hex_value y)) rest
    ∙ ap (λ b. Ok (b ∷ pairs_of xs)) same

pub pairs_bytes : (xs : List ℕ) → is_hex xs ≡ true → pairs_of xs ≡ bytes_of xs
pairs_bytes xs e =
    let parts = hex_parts xs e in
    let half : length xs ≡ 2 * (length xs / 2) = omega (arith, parts.0) in
    ap (λ (r : Result (List ℕ) FromHexError). result_unwrap_or r [])
    (sym (decode_of-even xs parts.0 ∙ pairs_decode 0 xs parts.1 (length xs / 2) half))

hex_from : (xs : List ℕ) → 0 < length xs / 2 → length xs % 2 ≡ 0
    → list_all is_hex_digit xs ≡ true → is_hex xs ≡ true
hex_from [] some even all = absurd (omega arith)
hex_from (x ∷ xs) some even all = rw (even, all) refl

length-joined : (n : ℕ) (xs : List ℕ) → length xs ≡ 2 * n → length (joined xs) ≡ n
unfolding joined
length-joined zero [] e = refl
length-joined zero (x ∷ xs) e = absurd (omega arith)
length-joined (suc n) [] e = absurd (omega arith)
length-joined (suc n) (x ∷ []) e = absurd (omega arith)
length-joined (suc n) (x ∷ y ∷ xs) e = ap suc (length-joined n xs (omega arith))

-- what a bytes field of digits gives
pub field_bytes : (most : ℕ) (pool piece : List ℕ) (start : ℕ) (new : List ℕ)
    → bytes_eq piece (codes "-") ≡ false → 0 < length piece / 2 → length piece % 2 ≡ 0
    → length piece / 2 ≤ most → list_all is_hex_digit piece ≡ true
    → start ≡ length pool → new ≡ pool ++ pairs_of piece
    → bytes most pool piece
    ≡ Ok (record { span = record { start = start; len = length piece / 2 }; pool = new })
field_bytes most pool piece start new dash some even small all at is =
    let hex = hex_from piece some even all in
    let same = pairs_bytes piece hex in
    let half : length (map hex_value piece) ≡ 2 * (length piece / 2) =
    omega (arith, length-map piece hex_value) in
    let size : length (bytes_of piece) ≡ length piece / 2 =
    ap length (sym same) ∙ length-joined (length piece / 2) (map hex_value piece) half in
    let le : ltb most (length piece / 2) ≡ false = grind (arith, nat_tests) in
    rw (dash, hex, le, at, is, same, size) refl
