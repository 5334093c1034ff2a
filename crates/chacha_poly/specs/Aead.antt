-- AEAD_CHACHA20_POLY1305 (RFC 8439, 2.8). A byte string is a list of numbers below 256; lengths are in
-- bytes.
use Rattle.std.specs.Prelude.{◌≡◌, ◌≤◌, ℕ, ◌-◌, List, ◌++◌, length, take, drop}
use Rattle.std.specs.Int.{w64, to_le_bytes}
use Rattle.chacha20.specs.ChaCha20.{block, encrypt}
use Rattle.poly1305.specs.Poly1305.{padded, tag}

-- the one-time key: the first 32 bytes of block 0 (2.6)
abbrev pub one_time_key : List ℕ → List ℕ → List ℕ
one_time_key key nonce = take 32 (block key 0 nonce)

-- what the tag is of: the additional data and the ciphertext, each padded, and their lengths, each in 8
-- bytes from low to high (2.8)
abbrev pub mac_data : List ℕ → List ℕ → List ℕ
mac_data aad ct =
    padded aad ++ padded ct ++ (to_le_bytes w64 (length aad) ++ to_le_bytes w64 (length ct))

-- the tag of a ciphertext (2.8)
unfoldable pub tag_of : List ℕ → List ℕ → List ℕ → List ℕ → List ℕ
tag_of key nonce aad ct = tag (one_time_key key nonce) (mac_data aad ct)

-- the encryption: the ciphertext, which begins with block 1, and the tag behind it (2.8)
unfoldable pub seal : List ℕ → List ℕ → List ℕ → List ℕ → List ℕ
seal key nonce aad text = encrypt key 1 nonce text ++ tag_of key nonce aad (encrypt key 1 nonce text)

-- the ciphertext: the bytes before the last 16
abbrev pub body : List ℕ → List ℕ
body ct = take (length ct - 16) ct

-- the tag: the last 16 bytes
abbrev pub last_16 : List ℕ → List ℕ
last_16 ct = drop (length ct - 16) ct

-- the decryption takes the tag: there is one, and it is that of the bytes before it (2.8)
pub record Holds (key nonce aad ct : List ℕ) : Type 0 where
  pub long : 16 ≤ length ct
  pub tag : last_16 ct ≡ tag_of key nonce aad (body ct)

-- the plaintext, where the tag is taken (2.8)
unfoldable pub clear : List ℕ → List ℕ → List ℕ → List ℕ
clear key nonce ct = encrypt key 1 nonce (body ct)
