-- A reply line tells its number and its bytes.
use Rattle.std.proofs.Common.{◌≡◌, ℕ, suc, ◌+◌, ◌/◌, ◌%◌, ◌^◌, ◌<◌, ◌==◌, Bool, false, List, [], ◌∷◌, ◌++◌, codes, inl, inr, refl, sym, ap, ◌∙◌, append_assoc, arith}
use Rattle.std.specs.Prelude.{slice_index, decimal}
use Rattle.std.specs.List.{slice_split, All}
use Rattle.std.specs.Str.Parse.{digits_value}
use Rattle.std.proofs.lemmas.Bool.{cases_lt}
use Rattle.std.proofs.lemmas.Bool.Decides.{nat_tests}
use Rattle.std.proofs.lemmas.List.{get_or_past, append_cancel_right, append_cancel_left}
use Rattle.std.proofs.lemmas.List.Splits.{slice_split_at}
use Rattle.std.proofs.lemmas.Fmt.{decimal_is_IsNumeral, decimal_by_steps}
use Rattle.std.proofs.lemmas.List.Elements.{All-nil, All-cons, All-push}
use Rattle.hex.specs.Hex.{encode_with, encode_lower, lower_digits, hex_digit_value, IsBytes}
use Rattle.hex.proofs.HexLemmas.{IsDigits-lower_digits}
use Rattle.field_text.specs.Printing.{hex_text}
use Rattle.batch_plans.specs.Lines.{served_line}

-- ---- numbers

NoSpace : List ℕ → Type 0
NoSpace text = All (λ c. (c == 32) ≡ false) text

digit_is : (n : ℕ) → (48 + n == 32) ≡ false
digit_is n = grind (arith, nat_tests)

spaceless : (n : ℕ) → n < 2 ^ 64 → NoSpace (decimal n)
unfolding NoSpace
spaceless n small =
    decimal_by_steps (λ _ text. All (λ c. (c == 32) ≡ false) text)
    (λ n low. All-cons (λ c. (c == 32) ≡ false) (48 + n) [] (digit_is n) (All-nil (λ c. (c == 32) ≡ false)))
    (λ n ds many all. All-push (λ c. (c == 32) ≡ false) ds (48 + n % 10) all (digit_is (n % 10)))
    n small

same_heads : {X : Type 0} (x y : X) (xs ys : List X) → x ∷ xs ≡ y ∷ ys → (x ≡ y) × (xs ≡ ys)
same_heads x y xs ys e = (cc, cc)

numbers_same : (n m : ℕ) (s t : List ℕ) → n < 2 ^ 64 → m < 2 ^ 64
    → decimal n ++ (codes " " ++ s) ≡ decimal m ++ (codes " " ++ t) → (n ≡ m) × (s ≡ t)
unfolding NoSpace
numbers_same n m s t small few e =
    let space : ℕ → Bool = λ c. c == 32 in
    let first : slice_split space (decimal n ++ 32 ∷ s) ≡ decimal n ∷ slice_split space s =
    slice_split_at space (decimal n) 32 s (spaceless n small) refl in
    let second : slice_split space (decimal m ++ 32 ∷ t) ≡ decimal m ∷ slice_split space t =
    slice_split_at space (decimal m) 32 t (spaceless m few) refl in
    let parts : decimal n ∷ slice_split space s ≡ decimal m ∷ slice_split space t =
    sym first ∙ ap (slice_split space) e ∙ second in
    let texts : decimal n ≡ decimal m = (same_heads (decimal n) (decimal m) (slice_split space s) (slice_split space t) parts).0 in
    let number : n ≡ m = sym ((decimal_is_IsNumeral n small).1) ∙ ap (digits_value 10) texts ∙ (decimal_is_IsNumeral m few).1 in
    let rest : decimal n ++ (32 ∷ s) ≡ decimal n ++ (32 ∷ t) =
    e ∙ ap (λ (d : List ℕ). d ++ (32 ∷ t)) (sym texts) in
    let tails : 32 ∷ s ≡ 32 ∷ t = append_cancel_left (decimal n) (32 ∷ s) (32 ∷ t) rest in
    (number, (same_heads 32 32 s t tails).1)

-- ---- bytes

-- a place of the table of digits that has the digit of a place below 16 is that place
one_place : (k d : ℕ) → d < 16 → slice_index lower_digits d ≡ slice_index lower_digits k → d ≡ k
one_place k d low e =
    elim (cases_lt k 16) [
      | inl small ↦
          (let same = sym (IsDigits-lower_digits d low) ∙ ap hex_digit_value e ∙ IsDigits-lower_digits k small in cc)
      | inr high ↦
          (let none : slice_index lower_digits k ≡ 0 = get_or_past lower_digits k 0 high in
          let same = sym (IsDigits-lower_digits d low) ∙ ap hex_digit_value (e ∙ none) in
          absurd cc)
    ]

digits_same : (xs ys : List ℕ) → IsBytes xs → encode_lower xs ≡ encode_lower ys → xs ≡ ys
unfolding encode_with
digits_same [] [] are e = refl
digits_same [] (y ∷ ys) are e = absurd cc
digits_same (x ∷ xs) [] are e = absurd cc
digits_same (x ∷ xs) (y ∷ ys) are e =
    let fits : x < 256 = are 0 in
    let high : slice_index lower_digits (x / 16) ≡ slice_index lower_digits (y / 16) = cc in
    let low : slice_index lower_digits (x % 16) ≡ slice_index lower_digits (y % 16) = cc in
    let rest : encode_with lower_digits xs ≡ encode_with lower_digits ys = cc in
    let a : x / 16 ≡ y / 16 = one_place (y / 16) (x / 16) (omega arith) high in
    let b : x % 16 ≡ y % 16 = one_place (y % 16) (x % 16) (omega arith) low in
    let same : x ≡ y = omega arith in
    let more = digits_same xs ys (λ k. are (suc k)) rest in
    cc

texts_same : (xs ys : List ℕ) → IsBytes xs → hex_text xs ≡ hex_text ys → xs ≡ ys
unfolding encode_with
texts_same [] [] are e = refl
texts_same [] (y ∷ ys) are e = absurd cc
texts_same (x ∷ xs) [] are e = absurd cc
texts_same (x ∷ xs) (y ∷ ys) are e = digits_same (x ∷ xs) (y ∷ ys) are e

-- ---- lines

regroup : (a b c d e : List ℕ) → (((a ++ b) ++ c) ++ d) ++ e ≡ a ++ (b ++ (c ++ (d ++ e)))
regroup a b c d e = simp append_assoc

pub lines_same : (word : List ℕ) (n m : ℕ) (xs ys : List ℕ) → n < 2 ^ 64 → m < 2 ^ 64 → IsBytes xs
    → served_line word n xs ≡ served_line word m ys → (n ≡ m) × (xs ≡ ys)
lines_same word n m xs ys small few are e =
    let behind : decimal n ++ (codes " " ++ (hex_text xs ++ codes "\n")) ≡ decimal m ++ (codes " " ++ (hex_text ys ++ codes "\n")) = append_cancel_left word
    (decimal n ++ (codes " " ++ (hex_text xs ++ codes "\n")))
    (decimal m ++ (codes " " ++ (hex_text ys ++ codes "\n")))
    (sym (regroup word (decimal n) (codes " ") (hex_text xs) (codes "\n")) ∙ e
    ∙ regroup word (decimal m) (codes " ") (hex_text ys) (codes "\n")) in
    let parts = numbers_same n m (hex_text xs ++ codes "\n") (hex_text ys ++ codes "\n") small few behind in
    let texts : hex_text xs ≡ hex_text ys = append_cancel_right (hex_text xs) (hex_text ys) (codes "\n") parts.1 in
    (parts.0, texts_same xs ys are texts)
