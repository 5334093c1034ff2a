-- The nonce of a message (RFC 9180, 5.2).
use Rattle.std.specs.Prelude.{ℕ, List}
use Rattle.byte_strings.specs.Bytes.{i2osp, xor_bytes}

-- Nn of both AES-GCM suites, in bytes (RFC 9180, 7.3)
abbrev pub nonce_size : ℕ
nonce_size = 12

-- ComputeNonce(seq), with the context's base_nonce
abbrev pub compute_nonce : List ℕ → ℕ → List ℕ
compute_nonce base_nonce seq = xor_bytes base_nonce (i2osp seq nonce_size)
