-- ---- for the proofs
-- Eight states by bits: bit i of lane l of register j is bit j of a byte of state i. The lanes go by the
-- state's rows and its bytes by its columns, so that byte p stands in lane `lane_of p`.
use Rattle.std.specs.Prelude.{◌≡◌, ℕ, ◌+◌, ◌-◌, ◌*◌, ◌/◌, ◌%◌, ◌^◌, ◌<◌, ◌≤◌, List, [], bit_xor, bit_and, slice_index, slice_index_or, length, map, min}
use Rattle.std.specs.List.{range_with_len}
use Rattle.std.specs.Int.{bit_at}
use Rattle.aes_block.specs.Field.{xtime}
use Rattle.aes_block.specs.Cipher.{round_key}

-- the registers have 16 lanes each
abbrev pub IsState : List (List ℕ) → Type 0
IsState q = (k : ℕ) → k < 8 → length (slice_index_or q k []) ≡ 16

-- the lanes are bytes
abbrev pub AreBytes : List (List ℕ) → Type 0
AreBytes q = (k p : ℕ) → k < 8 → p < 16 → slice_index_or (slice_index_or q k []) p 0 < 256

abbrev pub bit_of : List (List ℕ) → ℕ → ℕ → ℕ → ℕ
bit_of q j p i = bit_at (slice_index_or (slice_index_or q j []) p 0) i

-- the lane of byte p, and the byte of lane p
abbrev pub lane_of : ℕ → ℕ
lane_of p = p % 4 * 4 + p / 4

-- the byte in lane p of state i
abbrev pub gathered : List (List ℕ) → ℕ → ℕ → ℕ
gathered q p i = bit_of q 0 p i + bit_of q 1 p i * 2 + bit_of q 2 p i * 4 + bit_of q 3 p i * 8
    + bit_of q 4 p i * 16 + bit_of q 5 p i * 32 + bit_of q 6 p i * 64 + bit_of q 7 p i * 128

-- the sum of a byte's bits
abbrev pub byte_from : ℕ → ℕ
byte_from n = bit_at n 0 + bit_at n 1 * 2 + bit_at n 2 * 4 + bit_at n 3 * 8
    + bit_at n 4 * 16 + bit_at n 5 * 32 + bit_at n 6 * 64 + bit_at n 7 * 128

-- state i
abbrev pub state_at : List (List ℕ) → ℕ → List ℕ
state_at q i = map (λ p. gathered q (lane_of p) i) (range_with_len 0 16)

-- the constant of the S-box's affine map (FIPS 197, 5.1.1), and a byte without it
abbrev pub constant : ℕ
constant = 0x63

abbrev pub without_constant : ℕ → ℕ
without_constant b = bit_xor b constant

-- each state is the sum of the round key and c, byte by byte
pub record IsKeyOf (q : List (List ℕ)) (c : ℕ) (key : List ℕ) : Type 0 where
  pub registers : IsState q
  pub long : length key ≡ 16
  pub bytes : (p i : ℕ) → p < 16 → i < 8 → gathered q (lane_of p) i ≡ bit_xor (slice_index key p) c

-- what register n of the round keys has of the constant: all but those of the first key have it, since
-- they are added to bytes of the S-box without it
abbrev pub constant_of : ℕ → ℕ
constant_of n = min (n / 8) 1 * constant

-- the registers of the round keys of an expanded key, eight a key, up to the last of nr rounds
abbrev pub AreKeysOf : List (List ℕ) → List ℕ → ℕ → Type 0
AreKeysOf keys w nr = (j : ℕ) → j ≤ nr → (q : List (List ℕ))
    → ((k : ℕ) → k < 8 → slice_index_or q k [] ≡ slice_index_or keys (8 * j + k) [])
    → IsKeyOf q (constant_of (8 * j)) (round_key w j)

-- ---- lanes that move

-- lane f p at p
abbrev pub moved : (ℕ → ℕ) → List ℕ → List ℕ
moved f xs = map (λ p. slice_index_or xs (f p) 0) (range_with_len 0 16)

-- the lane that ShiftRows brings to p, and the lane one and two rows below it in its column
abbrev pub row_place : ℕ → ℕ
row_place p = p / 4 * 4 + (p % 4 + p / 4) % 4

abbrev pub next_place : ℕ → ℕ
next_place p = (p + 4) % 16

abbrev pub half_place : ℕ → ℕ
half_place p = (p + 8) % 16

-- a byte after MixColumns, from it and the three below it
abbrev pub mixed_byte : ℕ → ℕ → ℕ → ℕ → ℕ
mixed_byte a b c d = bit_xor (bit_xor (xtime (bit_xor a b)) b) (bit_xor c d)

-- ---- bits that are exchanged

-- the bits of a that m has, and those of b moved n up
abbrev pub lower : ℕ → ℕ → ℕ → ℕ → ℕ
lower n m a b = bit_xor (bit_and a m) (bit_and b m * 2 ^ n % 2 ^ 8)

-- the bits of a that m hasn't, moved n down, and those of b that it hasn't
abbrev pub upper : ℕ → ℕ → ℕ → ℕ → ℕ
upper n m a b = bit_xor (bit_and (a / 2 ^ n) m) (bit_and b (bit_xor m (2 ^ 8 - 1)))

-- k with its bit n in the place of that of i, for n = 1, 2 or 4
abbrev pub place : ℕ → ℕ → ℕ → ℕ
place n k i = k - k / n % 2 * n + i / n % 2 * n
