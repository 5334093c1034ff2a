-- Hex digits are printed by lanes.
use Rattle.std.proofs.Common.{◌≡◌, ℕ, zero, suc, ◌+◌, ◌*◌, ◌/◌, ◌%◌, ◌^◌, ◌<◌, ◌≤◌, cond, ltb}
use Rattle.std.proofs.Common.{List, [], ◌∷◌, ◌++◌, length, get_or, take, drop, map, replicate}
use Rattle.std.proofs.Common.{slice_index, bit_and, refl, sym, ap, subst, ◌∙◌, arith, w8, Fits}
use Rattle.std.specs.List.{range_with_len}
use Rattle.std.proofs.Math.Nat.{zero-add}
use Rattle.std.proofs.lemmas.List.{append-nil, append_assoc, drop_all}
use Rattle.std.proofs.lemmas.List.FromFn.{get_or-map-range_with_len}
use Rattle.std.proofs.lemmas.Simd.{zip2_splat, map-map}
use Rattle.std.proofs.lemmas.Simd.{chunk-drop, take_more_put_chunk, length-put_chunk}
use Rattle.hex.specs.Hex.{encode_with, encode_lower, lower_digits}
use lib.Lanes.{Each1, chunk, put_chunk, pick_l, zip2, sel_l, top}
use Rattle.field_text.specs.HexLanes.{hex_digit, weave, digits_of}
use Rattle.field_text.proofs.Held.{encode-append}
use Rattle.field_text.proofs.Lanes.{more, below, one_choice, spelled}

-- ---- one digit

-- two functions that agree on a table agree on each byte
agree : (f g : ℕ → ℕ) → map f (range_with_len 0 256) ≡ map g (range_with_len 0 256)
    → (x : ℕ) → x < 256 → f x ≡ g x
agree f g table x small =
    sym (get_or-map-range_with_len f 0 256 x x 0 small (zero-add x))
    ∙ ap (λ zs. get_or zs x 0) table
    ∙ get_or-map-range_with_len g 0 256 x x 0 small (zero-add x)

high_table : map (λ b. hex_digit (b / 16)) (range_with_len 0 256)
    ≡ map (λ b. slice_index lower_digits (b / 16)) (range_with_len 0 256)
unfolding hex_digit
high_table = refl

lane_table : map (λ b. hex_digit (bit_and b 15)) (range_with_len 0 256)
    ≡ map (λ b. slice_index lower_digits (b % 16)) (range_with_len 0 256)
unfolding hex_digit
lane_table = refl

low_table : map (λ b. hex_digit (b % 16)) (range_with_len 0 256)
    ≡ map (λ b. slice_index lower_digits (b % 16)) (range_with_len 0 256)
unfolding hex_digit
low_table = refl

-- the digits of each byte are those of `hex`
pub high_digit : (b : ℕ) → b < 256 → hex_digit (b / 16) ≡ slice_index lower_digits (b / 16)
high_digit b small =
    agree (λ b. hex_digit (b / 16)) (λ b. slice_index lower_digits (b / 16)) high_table b small

pub low_digit : (b : ℕ) → b < 256 → hex_digit (b % 16) ≡ slice_index lower_digits (b % 16)
low_digit b small =
    agree (λ b. hex_digit (b % 16)) (λ b. slice_index lower_digits (b % 16)) low_table b small

low_lane : (b : ℕ) → b < 256 → hex_digit (bit_and b 15) ≡ slice_index lower_digits (b % 16)
low_lane b small =
    agree (λ b. hex_digit (bit_and b 15)) (λ b. slice_index lower_digits (b % 16)) lane_table b small

pub digits_encode : (xs : List ℕ) → Each1 (Fits w8) xs → digits_of xs ≡ encode_lower xs
unfolding weave encode_with
digits_encode [] fits = refl
digits_encode (x ∷ xs) fits =
    let high = high_digit x fits.0.fits in
    let low = low_lane x fits.0.fits in
    rw (high, low, digits_encode xs fits.1) refl

-- ---- lanes

one_lane : (x : ℕ) → cond (top 7 (below x 10)) (more x 48) (more x 87) ≡ hex_digit x
unfolding hex_digit
one_lane x = one_choice (ltb x 10) (more x 48) (more x 87)

-- each lane has the digit of its value
pub digits_in_lanes : (xs : List ℕ) (n : ℕ) → length xs ≡ n
    → sel_l (map (top 7) (zip2 below xs (replicate n 10)))
    (zip2 more xs (replicate n 48)) (zip2 more xs (replicate n 87)) ≡ map hex_digit xs
digits_in_lanes [] n e = refl
digits_in_lanes (x ∷ xs) zero e = absurd (omega arith)
digits_in_lanes (x ∷ xs) (suc n) e =
    let rest = digits_in_lanes xs n (omega arith) in
    rw (one_lane x, rest) refl

-- the values of 16 bytes, and their digits
pub lane_digits : (xs high low : List ℕ) → length xs ≡ 16
    → high ≡ map hex_digit (zip2 (λ a b. a / 2 ^ b) xs (replicate 16 4))
    → low ≡ map hex_digit (zip2 bit_and xs (replicate 16 15)) → weave high low ≡ digits_of xs
lane_digits xs high low long eh el =
    let h = ap (map hex_digit) (zip2_splat (λ a b. a / 2 ^ b) xs 16 4 long)
    ∙ map-map hex_digit (λ x. x / 16) xs in
    let l = ap (map hex_digit) (zip2_splat bit_and xs 16 15 long)
    ∙ map-map hex_digit (λ x. bit_and x 15) xs in
    ap (λ zs. weave zs low) (eh ∙ h) ∙ ap (weave (map (λ x. hex_digit (x / 16)) xs)) (el ∙ l)

-- where the elements of two lists of 16 stand in both, by turns
abbrev turns : List ℕ
turns =
    0 ∷ 16 ∷ 1 ∷ 17 ∷ 2 ∷ 18 ∷ 3 ∷ 19 ∷ 4 ∷ 20 ∷ 5 ∷ 21 ∷ 6 ∷ 22 ∷ 7 ∷ 23
    ∷ 8 ∷ 24 ∷ 9 ∷ 25 ∷ 10 ∷ 26 ∷ 11 ∷ 27 ∷ 12 ∷ 28 ∷ 13 ∷ 29 ∷ 14 ∷ 30 ∷ 15 ∷ 31 ∷ []

pub by_turns : (a b : List ℕ) → length a ≡ 16 → length b ≡ 16
    → pick_l 0 (a ++ b) turns ≡ weave a b
unfolding weave
by_turns a b ea eb =
    let first = map (λ i. get_or a i 0) (range_with_len 0 16) in
    subst (λ zs. pick_l 0 (zs ++ b) turns ≡ weave zs b) (sym (spelled a 16 ea))
    (subst (λ ws. pick_l 0 (first ++ ws) turns ≡ weave first ws) (sym (spelled b 16 eb)) refl)

-- ---- a whole text

-- two stores of 16
pub two_stores : (i : ℕ) (room first second : List ℕ) → i + 32 ≤ length room
    → length first ≡ 16 → length second ≡ 16
    → take (i + 32) (put_chunk (i + 16) (put_chunk i room first) second)
    ≡ take i room ++ (first ++ second)
two_stores i room first second within a b =
    let size = length-put_chunk i room first in
    let both = take_more_put_chunk (i + 16) (put_chunk i room first) second (i + 32)
    (omega arith) (omega (arith, size)) in
    let one = take_more_put_chunk i room first (i + 16) (omega arith) (omega arith) in
    both ∙ ap (λ zs. zs ++ second) one ∙ append_assoc (take i room) first second

-- the digits of 16 bytes are written
pub digits_written : (bytes room new : List ℕ) (i : ℕ) → Each1 (Fits w8) (chunk i 16 bytes)
    → take (2 * i + 32) new ≡ take (2 * i) room ++ digits_of (chunk i 16 bytes)
    → take (2 * i) room ++ encode_lower (drop i bytes) ≡ encode_lower bytes
    → take (2 * (i + 16)) new ++ encode_lower (drop (i + 16) bytes) ≡ encode_lower bytes
digits_written bytes room new i fits is so_far =
    let next : 2 * (i + 16) ≡ 2 * i + 32 = omega arith in
    let digits = chunk i 16 bytes in
    let rest = encode_lower (drop (i + 16) bytes) in
    let more : digits_of digits ++ rest ≡ encode_lower (drop i bytes) =
    ap (λ zs. zs ++ rest) (digits_encode digits fits)
    ∙ sym (encode-append lower_digits digits (drop (i + 16) bytes))
    ∙ ap encode_lower (sym (chunk-drop i 16 bytes)) in
    ap (λ k. take k new ++ rest) next ∙ ap (λ zs. zs ++ rest) is
    ∙ append_assoc (take (2 * i) room) (digits_of digits) rest
    ∙ ap (λ zs. take (2 * i) room ++ zs) more ∙ so_far

pub digits_done : (bytes room : List ℕ) (i : ℕ) → i ≡ length bytes
    → take (2 * i) room ++ encode_lower (drop i bytes) ≡ encode_lower bytes
    → take (2 * length bytes) room ≡ encode_lower bytes
unfolding encode_with
digits_done bytes room i e so_far =
    let none = sym (drop_all i bytes (omega arith)) in
    sym (append-nil (take (2 * length bytes) room)) ∙ ap (λ k. take (2 * k) room ++ []) (sym e)
    ∙ ap (λ zs. take (2 * i) room ++ encode_lower zs) none ∙ so_far
