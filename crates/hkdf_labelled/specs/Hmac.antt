-- HMAC (RFC 2104, 2). Keys, messages and hash values are byte strings.
use Rattle.std.specs.Prelude.{ℕ, ◌-◌, List, ◌++◌, length, map, replicate, bit_xor, nat_lt, if◌then◌else◌}
use Rattle.hkdf_labelled.specs.Suites.{hash, block_size}
use Rattle.hkdf_labelled.specs.declared.suites.Kdf.{Kdf}

-- the bytes, with zero bytes after them up to a size
abbrev pub zero_padded : ℕ → List ℕ → List ℕ
zero_padded size bytes = bytes ++ replicate (size - length bytes) 0

-- K: the key, or its hash where it is longer than a block, padded to a block (RFC 2104, 2 and 3)
abbrev pub key_block : Kdf → List ℕ → List ℕ
key_block kdf key =
    zero_padded (block_size kdf)
    (if nat_lt (block_size kdf) (length key) then hash kdf key else key)

-- each byte XOR one byte
abbrev pub xor_each : List ℕ → ℕ → List ℕ
xor_each bytes byte = map (λ b. bit_xor b byte) bytes

-- K XOR ipad
abbrev pub inner_block : Kdf → List ℕ → List ℕ
inner_block kdf key = xor_each (key_block kdf key) 0x36

-- K XOR opad
abbrev pub outer_block : Kdf → List ℕ → List ℕ
outer_block kdf key = xor_each (key_block kdf key) 0x5c

-- H(K XOR opad, H(K XOR ipad, m)) (RFC 2104, 2)
unfoldable pub hmac : Kdf → List ℕ → List ℕ → List ℕ
hmac kdf key m = hash kdf (outer_block kdf key ++ hash kdf (inner_block kdf key ++ m))
