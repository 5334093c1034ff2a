-- ---- for the proofs

-- Hex digits and bytes as the lanes turn them into one another. No public contract names these.
use Rattle.std.specs.Prelude.{ℕ, ◌+◌, ◌*◌, ◌/◌, ◌%◌, bit_and, nat_lt, nat_le, not, Bool}
use Rattle.std.specs.Prelude.{List, [], ◌∷◌, map, if◌then◌else◌}

-- the value of a digit 0 to 9 or a to f, and 255 for any other byte
unfoldable pub hex_value : ℕ → ℕ
hex_value c =
    if nat_lt ((c + 208) % 256) 10 then (c + 208) % 256
    else (if nat_lt ((c + 159) % 256) 6 then ((c + 159) % 256 + 10) % 256 else 255)

-- whether a value is a digit's
abbrev pub is_value : ℕ → Bool
is_value value = not (nat_le 16 value)

-- the bytes of pairs of values
unfoldable pub joined : List ℕ → List ℕ
joined [] = []
joined (value ∷ []) = []
joined (high ∷ low ∷ rest) = (high * 16 % 256 + low) % 256 ∷ joined rest

-- the byte of two digits
abbrev pub byte_of : ℕ → ℕ → ℕ
byte_of high low = (hex_value high * 16 % 256 + hex_value low) % 256

-- the bytes of pairs of digits
abbrev pub pairs_of : List ℕ → List ℕ
pairs_of digits = joined (map hex_value digits)

-- the digit of a value below 16
unfoldable pub hex_digit : ℕ → ℕ
hex_digit value = if nat_lt value 10 then (value + 48) % 256 else (value + 87) % 256

-- elements of two lists by turns
unfoldable pub weave : List ℕ → List ℕ → List ℕ
weave [] ys = []
weave (x ∷ xs) [] = []
weave (x ∷ xs) (y ∷ ys) = x ∷ y ∷ weave xs ys

-- the digits of bytes
abbrev pub digits_of : List ℕ → List ℕ
digits_of bytes =
    weave (map (λ b. hex_digit (b / 16)) bytes) (map (λ b. hex_digit (bit_and b 15)) bytes)
