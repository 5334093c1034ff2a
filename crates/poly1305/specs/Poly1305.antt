-- Poly1305 (RFC 8439, 2.5). A byte string is a list of numbers below 256.
use Rattle.std.specs.Prelude.{ℕ, zero, suc, ◌+◌, ◌-◌, ◌*◌, ◌%◌, ◌^◌, List, [], ◌∷◌, ◌++◌, length, take, drop, replicate, bit_and}
use Rattle.std.specs.Int.{w128, div_ceil, from_le_bytes, to_le_bytes}

-- the number of at most 16 bytes, the lowest first
unfoldable pub number : List ℕ → ℕ
number bytes = from_le_bytes w128 bytes

-- P (2.5)
abbrev pub prime : ℕ
prime = 2 ^ 130 - 5

-- r with the bits cleared that have to be clear (2.5.1, clamp)
unfoldable pub clamped : ℕ → ℕ
clamped r = bit_and r 0x0ffffffc0ffffffc0ffffffc0fffffff

-- the number of a block of 1 to 16 bytes: one bit is added beyond them (2.5)
abbrev pub block_number : List ℕ → ℕ
block_number bytes = number bytes + 2 ^ (8 * length bytes)

-- the numbers of the first n blocks of a message, whose last may be short
unfoldable pub first_blocks : ℕ → List ℕ → List ℕ
first_blocks zero bytes = []
first_blocks (suc n) bytes = block_number (take 16 bytes) ∷ first_blocks n (drop 16 bytes)

-- the numbers of the blocks of a message
abbrev pub blocks : List ℕ → List ℕ
blocks bytes = first_blocks (div_ceil (length bytes) 16) bytes

-- the sum of c_1 r^q, c_2 r^(q - 1), .., c_q r
unfoldable pub polynomial : ℕ → List ℕ → ℕ
polynomial r [] = 0
polynomial r (c ∷ cs) = c * r ^ (length cs + 1) + polynomial r cs

-- the tag of a message by the two parts of a key: the polynomial of its blocks at r modulo P, and s
-- added modulo 2^128. The law `polynomial_is_by_steps` says that this is what the RFC's steps compute.
unfoldable pub tag_with : ℕ → ℕ → List ℕ → List ℕ
tag_with r s message = to_le_bytes w128 ((polynomial r (blocks message) % prime + s) % 2 ^ 128)

-- the tag of a message by a one-time key of 32 bytes (2.5.1, poly1305_mac)
abbrev pub tag : List ℕ → List ℕ → List ℕ
tag key message = tag_with (clamped (number (take 16 key))) (number (drop 16 key)) message

-- a text with zero bytes behind it up to a whole number of 16 (2.8.1, pad16)
abbrev pub padded : List ℕ → List ℕ
padded bytes = bytes ++ replicate ((16 - length bytes % 16) % 16) 0
