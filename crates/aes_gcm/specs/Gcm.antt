-- GCM (SP 800-38D) with AES, an IV of 96 bits and a tag of 128 bits. A byte string is a list of
-- numbers below 256; lengths are in bytes.
use Rattle.std.specs.Prelude.{◌≡◌, ◌≤◌, ℕ, zero, suc, ◌+◌, ◌-◌, ◌*◌, ◌%◌, ◌^◌, List, [], ◌∷◌, ◌++◌, length, take, drop, replicate}
use Rattle.std.specs.Int.{w32, div_ceil, from_be_bytes}
use Rattle.byte_strings.specs.Bytes.{i2osp, xor_bytes}
use Rattle.aes_block.specs.Cipher.{cipher}
use Rattle.ghash_core.specs.Hash.{block_of, block_bytes, padded_blocks, length_block, ghash}

-- H, the hash subkey: the cipher of the block of zeros (7.1, step 1)
unfoldable pub hash_key : List ℕ → ℕ
hash_key key = block_of (cipher key (replicate 16 0))

-- inc32 (6.2): the last 32 bits raised by 1 modulo 2^32, and the 96 bits before them
abbrev pub inc32 : List ℕ → List ℕ
inc32 block = take 12 block ++ i2osp ((from_be_bytes w32 (drop 12 block) + 1) % 2 ^ 32) 4

-- counter block i: J0 with its last 32 bits raised by i modulo 2^32, which is inc32 i times
unfoldable pub counter_block : List ℕ → ℕ → List ℕ
counter_block nonce i = nonce ++ i2osp ((1 + i) % 2 ^ 32) 4

-- J0 = IV || 0^31 || 1 (7.1, step 2)
abbrev pub j0 : List ℕ → List ℕ
j0 nonce = counter_block nonce 0

-- the ciphers of n counter blocks, from counter block i on
unfoldable pub key_stream : List ℕ → List ℕ → ℕ → ℕ → List ℕ
key_stream key nonce i zero = []
key_stream key nonce i (suc n) =
    cipher key (counter_block nonce i) ++ key_stream key nonce (i + 1) n

-- GCTR (6.5) from counter block i on: the text XOR the key stream. The last block of the stream is
-- cut to the text's end, since `xor_bytes` ends with the shorter of the two.
unfoldable pub gctr_from : List ℕ → List ℕ → ℕ → List ℕ → List ℕ
gctr_from key nonce i text = xor_bytes text (key_stream key nonce i (div_ceil (length text) 16))

-- GCTR from inc32(J0) on (7.1, step 3)
abbrev pub gctr : List ℕ → List ℕ → List ℕ → List ℕ
gctr key nonce text = gctr_from key nonce 1 text

-- S: GHASH of the additional data and the ciphertext, each padded, and of the block of their
-- lengths in bits (7.1, step 5)
abbrev pub hash_of : List ℕ → List ℕ → List ℕ → List ℕ
hash_of key aad ct = block_bytes (ghash (hash_key key)
    (padded_blocks aad ++ padded_blocks ct ++ length_block (8 * length aad) (8 * length ct) ∷ []))

-- T: S XOR the cipher of J0 (7.1, step 6)
unfoldable pub tag_of : List ℕ → List ℕ → List ℕ → List ℕ → List ℕ
tag_of key nonce aad ct = xor_bytes (hash_of key aad ct) (cipher key (j0 nonce))

-- the authenticated encryption function (7.1): C || T
unfoldable pub seal : List ℕ → List ℕ → List ℕ → List ℕ → List ℕ
seal key nonce aad text = gctr key nonce text ++ tag_of key nonce aad (gctr key nonce text)

-- C: the bytes before the last 16
abbrev pub body : List ℕ → List ℕ
body ct = take (length ct - 16) ct

-- T: the last 16 bytes
abbrev pub last_16 : List ℕ → List ℕ
last_16 ct = drop (length ct - 16) ct

-- the authenticated decryption function doesn't fail (7.2): there is a tag, and it is that of the
-- bytes before it
pub record Holds (key nonce aad ct : List ℕ) : Type 0 where
  pub long : 16 ≤ length ct
  pub tag : last_16 ct ≡ tag_of key nonce aad (body ct)

-- P: what the authenticated decryption function gives where it doesn't fail (7.2, step 4)
unfoldable pub clear : List ℕ → List ℕ → List ℕ → List ℕ
clear key nonce ct = gctr key nonce (body ct)
