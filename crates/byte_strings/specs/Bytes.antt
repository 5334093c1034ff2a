-- Byte strings. A byte string is a list of numbers below 256.
use Rattle.std.specs.Prelude.{ℕ, List, bit_xor}
use Rattle.std.specs.Int.{bytes_high_first}
use Rattle.std.specs.Simd.Lanes.{zip2}

-- I2OSP(n, k): n as k bytes, the highest first (RFC 8017, 4.1). The RFC raises an error where n
-- doesn't fit k bytes; here the lowest k bytes of n stand in its place.
abbrev pub i2osp : ℕ → ℕ → List ℕ
i2osp n k = bytes_high_first k n

-- a XOR b, byte by byte, up to the end of the shorter; an exclusive or in the standards has one length
abbrev pub xor_bytes : List ℕ → List ℕ → List ℕ
xor_bytes a b = zip2 bit_xor a b
