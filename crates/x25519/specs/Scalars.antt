-- Secret scalars (RFC 7748, 5). A byte string is a list of numbers below 256.
use Rattle.std.specs.Prelude.{ℕ, List, slice_index, slice_set, bit_and, bit_or}
use Rattle.field25519.specs.Coding.{decode_little_endian}

-- the bytes of a scalar with the bits that are fixed: of byte 0 the lowest three are 0, and of byte 31
-- the highest is 0 and the next is 1
abbrev pub clamped : List ℕ → List ℕ
clamped k = slice_set (slice_set k 0 (bit_and (slice_index k 0) 248)) 31 (bit_or (bit_and (slice_index k 31) 127) 64)

-- decodeScalar25519(k) (RFC 7748, 5)
abbrev pub decode_scalar : List ℕ → ℕ
decode_scalar k = decode_little_endian (clamped k)
