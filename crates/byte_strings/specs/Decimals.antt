-- Numbers as they are written in decimal digits. A text is the list of its bytes.
use Rattle.std.specs.Prelude.{ℕ, ◌==◌, ◌&&◌, not, nat_le, Bool, false, List, [], ◌∷◌, Option, Some, None, if◌then◌else◌}
use Rattle.std.specs.List.{list_all}
use Rattle.std.specs.Char.{is_ascii_digit}
use Rattle.std.specs.Str.Parse.{digits_value}

-- a decimal without leading zeros: `0`, or a digit 1 to 9 followed by digits 0 to 9
abbrev pub is_decimal : List ℕ → Bool
is_decimal [] = false
is_decimal (digit ∷ []) = is_ascii_digit digit
is_decimal (digit ∷ next ∷ more) =
    not (digit == 48) && list_all is_ascii_digit (digit ∷ next ∷ more)

-- the number is one from low to high
abbrev pub is_from_to : ℕ → ℕ → ℕ → Bool
is_from_to low high value = nat_le low value && nat_le value high

-- the number that a decimal from low to high writes
abbrev pub decimal_from_to : ℕ → ℕ → List ℕ → Option ℕ
decimal_from_to low high text = let value = digits_value 10 text in
    if is_decimal text && is_from_to low high value then Some value else None
