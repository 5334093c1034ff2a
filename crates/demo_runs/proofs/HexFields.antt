-- Bytes fields that are spelled, and where texts of hex digits are cut.
use Rattle.std.proofs.Common.{◌≡◌, ℕ, suc, ◌/◌, ◌%◌, ◌<◌, ◌≤◌, ◌==◌, ◌&&◌, Bool, true, false, List, [], ◌∷◌, ◌++◌, length, codes, Ok, inl, inr, refl, ap, ◌∙◌, append-nil, arith}
use Rattle.std.specs.Prelude.{slice_index}
use Rattle.std.specs.List.{slice_split, list_all}
use Rattle.std.specs.Str.{bytes_eq}
use Rattle.std.specs.Result.{result_unwrap_or}
use Rattle.std.proofs.lemmas.Bool.{agree_below_at, le-ltb, cases_lt}
use Rattle.std.proofs.lemmas.List.{get_or_past}
use Rattle.hex.specs.Hex.{encode_with, encode_lower, lower_digits, IsBytes}
use Rattle.hex.proofs.HexLemmas.{length-encode_with, decode_of-encode_lower}
use Rattle.field_text.specs.Printing.{hex_text}
use Rattle.field_text.specs.Fields.{pooled, is_hex_digit, is_hex, bytes_of, bytes}

-- ---- cuts

-- no hex digit is a line feed, nor a space
pub no_feed : (k : ℕ) → (slice_index lower_digits k == 10) ≡ false
no_feed k =
    elim (cases_lt k 16) [
      | inl low ↦ agree_below_at (λ k. slice_index lower_digits k == 10) (λ _. false) 16 k refl low
      | inr high ↦ ap (λ (c : ℕ). c == 10) (get_or_past lower_digits k 0 high)
    ]

pub no_space : (k : ℕ) → (slice_index lower_digits k == 32) ≡ false
no_space k =
    elim (cases_lt k 16) [
      | inl low ↦ agree_below_at (λ k. slice_index lower_digits k == 32) (λ _. false) 16 k refl low
      | inr high ↦ ap (λ (c : ℕ). c == 32) (get_or_past lower_digits k 0 high)
    ]

-- hex digits go to the front of the first part
pub cut_on : (s : ℕ) → ((k : ℕ) → (slice_index lower_digits k == s) ≡ false) → (bs rest first : List ℕ)
    (parts : List (List ℕ)) → slice_split (λ byte. byte == s) rest ≡ first ∷ parts
    → slice_split (λ byte. byte == s) (encode_lower bs ++ rest) ≡ (encode_lower bs ++ first) ∷ parts
unfolding encode_with
cut_on s apart [] rest first parts e = e
cut_on s apart (b ∷ bs) rest first parts e =
    rw (apart (b / 16), apart (b % 16), cut_on s apart bs rest first parts e) refl

pub cut_behind : (s : ℕ) → ((k : ℕ) → (slice_index lower_digits k == s) ≡ false) → (bs rest : List ℕ)
    (parts : List (List ℕ)) → slice_split (λ byte. byte == s) rest ≡ [] ∷ parts
    → slice_split (λ byte. byte == s) (encode_lower bs ++ rest) ≡ encode_lower bs ∷ parts
cut_behind s apart bs rest parts e =
    cut_on s apart bs rest [] parts e ∙ ap (λ (part : List ℕ). part ∷ parts) (append-nil (encode_lower bs))

-- ---- fields

-- some bytes are their digits
pub hex_is : (bs : List ℕ) → 0 < length bs → hex_text bs ≡ encode_lower bs
hex_is [] some = absurd (omega arith)
hex_is (b ∷ bs) some = refl

digit_passes : (k : ℕ) → k < 16 → is_hex_digit (slice_index lower_digits k) ≡ true
digit_passes k low = agree_below_at (λ k. is_hex_digit (slice_index lower_digits k)) (λ _. true) 16 k refl low

digits_pass : (bs : List ℕ) → IsBytes bs → list_all is_hex_digit (encode_lower bs) ≡ true
unfolding encode_with
digits_pass [] are = refl
digits_pass (b ∷ bs) are =
    let fits : b < 256 = are 0 in
    let high : b / 16 < 16 = omega arith in
    let low : b % 16 < 16 = omega arith in
    rw (digit_passes (b / 16) high, digit_passes (b % 16) low, digits_pass bs (λ k. are (suc k))) refl

hex_passes : (text : List ℕ) → length text % 2 ≡ 0 → 0 < length text → list_all is_hex_digit text ≡ true
    → is_hex text ≡ true
hex_passes [] even some all = absurd (omega arith)
hex_passes (d ∷ more) even some all = rw (even, all) refl

no_dash : (text : List ℕ) → 2 ≤ length text → bytes_eq text (codes "-") ≡ false
no_dash [] long = absurd (omega arith)
no_dash (x ∷ []) long = absurd (omega arith)
no_dash (x ∷ y ∷ more) long =
    elim (x == 45) as (λ (b : Bool). (b && false) ≡ false) [
      | true ↦ refl
      | false ↦ refl
    ]

bytes_back : (bs : List ℕ) → IsBytes bs → bytes_of (encode_lower bs) ≡ bs
bytes_back bs are = ap (λ r. result_unwrap_or r []) (decode_of-encode_lower bs are)

-- a bytes field of these bytes
pub field : (most : ℕ) (pool bs : List ℕ) → IsBytes bs → 0 < length bs → length bs ≤ most
    → bytes most pool (hex_text bs) ≡ Ok (pooled pool bs)
field most pool bs are some few =
    let size = length-encode_with lower_digits bs in
    let even : length (encode_lower bs) % 2 ≡ 0 = omega (arith, size) in
    let long : 2 ≤ length (encode_lower bs) = omega (arith, size) in
    let within : length (encode_lower bs) / 2 ≤ most = omega (arith, size) in
    let dash = no_dash (encode_lower bs) long in
    let hex = hex_passes (encode_lower bs) even (omega (arith, size)) (digits_pass bs are) in
    rw (hex_is bs some, dash, hex, le-ltb most (length (encode_lower bs) / 2) within, bytes_back bs are) refl
