-- Numbers as byte strings (RFC 7748, 5). A byte string is a list of numbers below 256.
use Rattle.std.specs.Prelude.{ℕ, zero, suc, ◌+◌, ◌*◌, ◌/◌, ◌%◌, ◌^◌, List, [], ◌∷◌}
use Rattle.field25519.specs.Field.{prime}

-- decodeLittleEndian(b): the sum of b_i 2^(8 i) (RFC 7748, 5)
unfoldable pub decode_little_endian : List ℕ → ℕ
decode_little_endian [] = 0
decode_little_endian (b ∷ bs) = b + 256 * decode_little_endian bs

-- so many bytes of a number, the lowest first
unfoldable pub encode_little_endian : ℕ → ℕ → List ℕ
encode_little_endian zero n = []
encode_little_endian (suc k) n = n % 256 ∷ encode_little_endian k (n / 256)

-- decodeUCoordinate(u, 255), of 32 bytes: the RFC masks the top bit of the last byte, which is bit 255 of
-- the number, and takes a number from p on modulo p (RFC 7748, 5)
abbrev pub decode_u_coordinate : List ℕ → ℕ
decode_u_coordinate u = decode_little_endian u % 2 ^ 255 % prime

-- encodeUCoordinate(u, 255), of a number below p: its 32 bytes (RFC 7748, 5)
abbrev pub encode_u_coordinate : ℕ → List ℕ
encode_u_coordinate u = encode_little_endian 32 u
