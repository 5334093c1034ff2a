-- GHASH (SP 800-38D, 6.4). A byte string is a list of numbers below 256, a block is an element of
-- the field.
use Rattle.std.specs.Prelude.{◌≡◌, ◌<◌, ℕ, zero, suc, ◌+◌, ◌*◌, ◌^◌, List, [], ◌∷◌, length, take, drop, bit_xor}
use Rattle.std.specs.Int.{w128, div_ceil, from_be_bytes, to_be_bytes}
use Rattle.ghash_core.specs.Field.{product, power}

-- the block that a byte string begins with; where the bytes end, zeros follow
unfoldable pub block_of : List ℕ → ℕ
block_of bytes = from_be_bytes w128 bytes

-- the 16 bytes of a block
unfoldable pub block_bytes : ℕ → List ℕ
block_bytes block = to_be_bytes w128 block

-- the first n blocks of a byte string
unfoldable pub first_blocks : ℕ → List ℕ → List ℕ
first_blocks zero bytes = []
first_blocks (suc n) bytes = block_of (take 16 bytes) ∷ first_blocks n (drop 16 bytes)

-- the blocks of a byte string that is padded with zero bytes to whole blocks
abbrev pub padded_blocks : List ℕ → List ℕ
padded_blocks bytes = first_blocks (div_ceil (length bytes) 16) bytes

-- the block of two lengths in bits, 64 bits each (7.1, step 5)
abbrev pub length_block : ℕ → ℕ → ℕ
length_block aad_bits text_bits = aad_bits * 2 ^ 64 + text_bits

-- GHASH of X_1, .., X_m: the sum of X_j times h^(m + 1 - j)
unfoldable pub ghash : ℕ → List ℕ → ℕ
ghash h [] = 0
ghash h (x ∷ xs) = bit_xor (product x (power h (length xs + 1))) (ghash h xs)

-- the standard's steps: from Y_0 = y, the last Y_j = (Y_(j - 1) + X_j) h
unfoldable pub sum_after : ℕ → ℕ → List ℕ → ℕ
sum_after h y [] = y
sum_after h y (x ∷ xs) = sum_after h (product (bit_xor y x) h) xs

-- what a contract sees of a `Ghash`: h, and the sum so far
pub record Hashing : Type 0 where
  pub h : ℕ
  pub sum : ℕ

-- the blocks xs were taken
pub record Took (g : Hashing) (xs : List ℕ) : Type 0 where
  pub fits : g.h < 2 ^ 128
  pub sum : g.sum ≡ ghash g.h xs
