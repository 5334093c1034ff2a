-- ---- for the proofs: what the tables of a key hold, and the sums of their rows.
-- Row j has to do with byte j of a block, where byte 0 is the lowest. A vector's lanes are a block's
-- bytes, the highest first.
use Rattle.std.specs.Prelude.{◌≡◌, ◌<◌, List, [], ◌∷◌, ℕ, zero, suc, ◌*◌, ◌/◌, ◌%◌, ◌^◌, map, slice_index_or, bit_xor}
use Rattle.std.specs.Int.{bit_at, byte_at}
use Rattle.std.specs.List.{range_with_len}
use Rattle.ghash_core.specs.Field.{by_power, product, power}
use Rattle.ghash_core.specs.declared.powers.Powers.{Powers}
use Rattle.ghash_core.specs.declared.rows.Table.{Table}

-- The element that a string of bytes is, where the first has the coefficients of u^0 to u^7. There may
-- be more than 16: u^128 is reduced.
unfoldable pub element : List ℕ → ℕ
element [] = 0
element (b ∷ bs) = bit_xor (b * 2 ^ 120) (by_power 8 (element bs))

-- the element of two vectors, the second after the first
abbrev pub wide : List ℕ → List ℕ → ℕ
wide low high = bit_xor (element low) (by_power 128 (element high))

-- What u^128 times a first byte is, since u^128 = 1 + u + u^2 + u^7: what of it stays in the first byte,
-- and what comes to the next.
abbrev pub stays : ℕ → ℕ
stays b = bit_xor (bit_xor (bit_xor b (b / 2)) (b / 4)) (b / 128)

abbrev pub goes_on : ℕ → ℕ
goes_on b = bit_xor (bit_xor (b * 128 % 256) (b * 64 % 256)) (b * 2 % 256)

-- the sum of those of four that the four bits of v name, the highest bit the first
abbrev pub chosen : ℕ → ℕ → ℕ → ℕ → ℕ → ℕ
chosen v a b c d = bit_xor (bit_xor (bit_xor (bit_at v 3 * a) (bit_at v 2 * b)) (bit_at v 1 * c)) (bit_at v 0 * d)

-- byte j of the products of h with the sixteen multiples of `unit`
unfoldable pub row : ℕ → ℕ → ℕ → List ℕ
row j unit h = map (λ v. byte_at j (product (v * unit) h)) (range_with_len 0 16)

-- all rows
abbrev pub AreRows : List (List ℕ) → ℕ → ℕ → Type 0
AreRows rows unit h = (j : ℕ) → j < 16 → slice_index_or rows j [] ≡ row j unit h

-- the table of h: `high` for the high four bits of a block's first byte, `low` for its low four
pub record IsTable (table : Table) (h : ℕ) : Type 0 where
  pub high : AreRows table.high (2 ^ 124) h
  pub low : AreRows table.low (2 ^ 120) h

-- the tables of h, h^2, h^3 and h^4
pub record ArePowers (powers : Powers) (h : ℕ) : Type 0 where
  pub first : IsTable powers.first h
  pub second : IsTable powers.second (power h 2)
  pub third : IsTable powers.third (power h 3)
  pub fourth : IsTable powers.fourth (power h 4)

-- byte j of the products of h with each byte of a block, taken as a first byte
abbrev pub bytes_of_products : ℕ → ℕ → List ℕ → List ℕ
bytes_of_products j h bs = map (λ b. byte_at j (product (b * 2 ^ 120) h)) bs

-- The sum of rows 0 to n - 1, as these bytes make them: row n - 1 stands at the front of a block, and
-- each other one byte on from the row after it.
unfoldable pub sum_of_rows : ℕ → ℕ → List ℕ → ℕ
sum_of_rows zero h bs = 0
sum_of_rows (suc j) h bs = bit_xor (by_power 8 (sum_of_rows j h bs)) (element (bytes_of_products j h bs))

-- the sum of four elements
abbrev pub sum_of_four : ℕ → ℕ → ℕ → ℕ → ℕ
sum_of_four a b c d = bit_xor (bit_xor (bit_xor a b) c) d
