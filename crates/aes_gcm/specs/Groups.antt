-- ---- for the proofs
-- Counter blocks that are encrypted together. Counter block i has the counter 1 + i.
use Rattle.std.specs.Prelude.{◌≡◌, ◌<◌, ◌+◌, ◌*◌, ◌/◌, ℕ, List, [], slice_index_or}
use Rattle.aes_block.specs.Cipher.{cipher}
use Rattle.aes_gcm.specs.Gcm.{counter_block}

-- the ciphers of the counter blocks m whose counters differ from that of i in the last three bits j
-- alone
abbrev pub IsGroup : List ℕ → List ℕ → ℕ → List (List ℕ) → Type 0
IsGroup key nonce i group = (j m : ℕ) → j < 8 → 1 + m ≡ (1 + i) / 8 * 8 + j
    → slice_index_or group j [] ≡ cipher key (counter_block nonce m)
