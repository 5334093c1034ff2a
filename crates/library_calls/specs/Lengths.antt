-- The lengths that a call takes, in bytes.
use Rattle.std.specs.Prelude.{◌≡◌, ◌⊎◌, ◌≤◌, ◌<◌, ◌+◌, ◌-◌, ◌^◌, ℕ}

-- a key of AES-128 or AES-256 (FIPS 197, 5)
abbrev pub IsKeySize : ℕ → Type 0
IsKeySize size = (size ≡ 16) ⊎ (size ≡ 32)

-- of additional data, text and room: what can be sealed (SP 800-38D, 5.2.1.1), and room for the
-- ciphertext with its tag
abbrev pub FitsSeal : ℕ → ℕ → ℕ → Type 0
FitsSeal aad text room = (aad < 2 ^ 61) × (text ≤ 2 ^ 36 - 32) × (room ≡ text + 16)

-- of additional data and buffer: the same, where the text stands in the buffer, before room for the
-- tag
abbrev pub FitsSealInPlace : ℕ → ℕ → Type 0
FitsSealInPlace aad buffer = (aad < 2 ^ 61) × (16 ≤ buffer) × (buffer ≤ 2 ^ 36 - 16)

-- of additional data, ciphertext and room: what can be opened, and room for the text. That is none
-- for a ciphertext of fewer than 16 bytes, which has no tag that holds.
abbrev pub FitsOpen : ℕ → ℕ → ℕ → Type 0
FitsOpen aad ct room = (aad < 2 ^ 61) × (ct ≤ 2 ^ 36 - 16) × (room ≡ ct - 16)

-- of additional data and ciphertext: the same, where the text takes the ciphertext's place
abbrev pub FitsOpenInPlace : ℕ → ℕ → Type 0
FitsOpenInPlace aad ct = (aad < 2 ^ 61) × (ct ≤ 2 ^ 36 - 16)
