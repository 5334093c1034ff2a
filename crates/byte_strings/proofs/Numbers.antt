-- Numbers that go on.
use Rattle.std.proofs.Common.{◌≡◌, ℕ, ◌+◌, ◌*◌, ◌<◌, ◌≤◌, true, List, [], ◌∷◌, length, get_or, drop, refl, add-one, arith}
use Rattle.std.specs.List.{list_all}
use Rattle.std.specs.Char.{is_ascii_digit, digit_value}
use Rattle.std.specs.Str.Parse.{digits_value_after}
use Rattle.std.proofs.Math.Seq.{drop-cons}
use Rattle.byte_strings.specs.Decimals.{is_decimal}

-- more digits make no smaller number
pub after-le : (digits : List ℕ) (n : ℕ) → n ≤ digits_value_after 10 n digits
after-le [] n = omega arith
after-le (d ∷ ds) n = omega (arith, after-le ds (n * 10 + digit_value d))

-- one more digit
pub one_more : (digits : List ℕ) (i n : ℕ) → i < length digits
    → digits_value_after 10 n (drop i digits) ≡ digits_value_after 10 (n * 10 + digit_value (get_or digits i 0)) (drop (i + 1) digits)
one_more digits i n lt = rw (add-one, drop-cons digits i 0) refl

-- a decimal is digits
pub number_digits : (text : List ℕ) → is_decimal text ≡ true → list_all is_ascii_digit text ≡ true
number_digits [] e = absurd cc
number_digits (d ∷ []) e = grind arith
number_digits (d ∷ next ∷ more) e = grind arith

pub ruleset number_facts = (after-le, one_more, number_digits)
