-- AES-128 and AES-256 (FIPS 197, 5). A byte string is a list of numbers below 256. A state is the
-- list of its 16 bytes, column by column: byte i stands in row i % 4 and column i / 4 (3.4).
use Rattle.std.specs.Prelude.{◌≡◌, ◌⊎◌, ℕ, zero, suc, ◌+◌, ◌-◌, ◌*◌, ◌/◌, ◌%◌, ◌==◌, ◌&&◌, if◌then◌else◌, List, [], ◌∷◌, ◌++◌, length, take, drop, map, slice_index, bit_xor}
use Rattle.std.specs.List.{range_with_len}
use Rattle.byte_strings.specs.Bytes.{xor_bytes}
use Rattle.aes_block.specs.Field.{by_power, product, s_box}

-- a key of AES-128 or of AES-256, which have 16 and 32 bytes
abbrev pub IsKey : List ℕ → Type 0
IsKey key = (length key ≡ 16) ⊎ (length key ≡ 32)

-- s_(r, c): the byte in row r and column c
abbrev pub entry : List ℕ → ℕ → ℕ → ℕ
entry s r c = slice_index s (4 * c + r)

-- the state whose byte in row r and column c is f r c
abbrev pub state_of : (ℕ → ℕ → ℕ) → List ℕ
state_of f = map (λ i. f (i % 4) (i / 4)) (range_with_len 0 16)

-- SubBytes (5.1.1)
unfoldable pub sub_bytes : List ℕ → List ℕ
sub_bytes s = map s_box s

-- ShiftRows (5.1.2): row r moves r columns to the left
unfoldable pub shift_rows : List ℕ → List ℕ
shift_rows s = state_of (λ r c. entry s r ((c + r) % 4))

-- a column after MixColumns (5.1.3): the matrix times the column
abbrev pub mixed_column : ℕ → ℕ → ℕ → ℕ → List ℕ
mixed_column a b c d =
    bit_xor (bit_xor (bit_xor (product 2 a) (product 3 b)) c) d
    ∷ bit_xor (bit_xor (bit_xor a (product 2 b)) (product 3 c)) d
    ∷ bit_xor (bit_xor (bit_xor a b) (product 2 c)) (product 3 d)
    ∷ bit_xor (bit_xor (bit_xor (product 3 a) b) c) (product 2 d)
    ∷ []

-- column c after MixColumns
abbrev pub mixed : List ℕ → ℕ → List ℕ
mixed s c = mixed_column (entry s 0 c) (entry s 1 c) (entry s 2 c) (entry s 3 c)

-- MixColumns (5.1.3)
unfoldable pub mix_columns : List ℕ → List ℕ
mix_columns s = mixed s 0 ++ mixed s 1 ++ mixed s 2 ++ mixed s 3

-- byte i of word j of a byte string
abbrev pub word_byte : List ℕ → ℕ → ℕ → ℕ
word_byte w j i = slice_index w (4 * j + i)

-- w_j: word j of a byte string, four bytes
abbrev pub word : List ℕ → ℕ → List ℕ
word w j = word_byte w j 0 ∷ word_byte w j 1 ∷ word_byte w j 2 ∷ word_byte w j 3 ∷ []

-- RotWord of w_j (5.2)
abbrev pub rot_word : List ℕ → ℕ → List ℕ
rot_word w j = word_byte w j 1 ∷ word_byte w j 2 ∷ word_byte w j 3 ∷ word_byte w j 0 ∷ []

-- SubWord (5.2)
abbrev pub sub_word : List ℕ → List ℕ
sub_word bytes = map s_box bytes

-- Rcon_j (5.2): x^(j - 1) and three zero bytes
abbrev pub rcon : ℕ → List ℕ
rcon j = by_power (j - 1) 1 ∷ 0 ∷ 0 ∷ 0 ∷ []

-- temp (5.2): what is added to w_(i - Nk), for a key of Nk words
unfoldable pub temp : ℕ → List ℕ → ℕ → List ℕ
temp nk w i = if i % nk == 0 then xor_bytes (sub_word (rot_word w (i - 1))) (rcon (i / nk))
    else (if nk == 8 && i % 8 == 4 then sub_word (word w (i - 1)) else word w (i - 1))

-- the words of a key of Nk words, and i words more, as one byte string (5.2)
unfoldable pub key_expansion : ℕ → List ℕ → ℕ → List ℕ
key_expansion nk key zero = key
key_expansion nk key (suc i) =
    let w = key_expansion nk key i in w ++ xor_bytes (word w i) (temp nk w (nk + i))

-- Nk, the number of words of a key (5)
abbrev pub key_words : List ℕ → ℕ
key_words key = length key / 4

-- Nr, the number of rounds (5)
abbrev pub round_count : List ℕ → ℕ
round_count key = key_words key + 6

-- KeyExpansion (5.2): all round keys, as one byte string
unfoldable pub expanded_key : List ℕ → List ℕ
expanded_key key =
    key_expansion (key_words key) key (4 * (round_count key + 1) - key_words key)

-- round key j of an expanded key
abbrev pub round_key : List ℕ → ℕ → List ℕ
round_key w j = take 16 (drop (16 * j) w)

-- the state after round n, for n below the last (5.1)
unfoldable pub state_after : List ℕ → List ℕ → ℕ → List ℕ
state_after w block zero = xor_bytes block (round_key w 0)
state_after w block (suc n) =
    xor_bytes (mix_columns (shift_rows (sub_bytes (state_after w block n)))) (round_key w (suc n))

-- Cipher (5.1) with the expanded key w and nr rounds
unfoldable pub cipher_rounds : List ℕ → ℕ → List ℕ → List ℕ
cipher_rounds w nr block =
    xor_bytes (shift_rows (sub_bytes (state_after w block (nr - 1)))) (round_key w nr)

-- Cipher (5.1) of a block of 16 bytes
abbrev pub cipher : List ℕ → List ℕ → List ℕ
cipher key block = cipher_rounds (expanded_key key) (round_count key) block
