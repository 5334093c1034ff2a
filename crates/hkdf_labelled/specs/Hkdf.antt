-- HKDF (RFC 5869, 2). Lengths are in bytes.
use Rattle.std.specs.Prelude.{ℕ, zero, suc, List, [], ◌∷◌, ◌++◌, take}
use Rattle.hkdf_labelled.specs.Hmac.{hmac}
use Rattle.hkdf_labelled.specs.declared.suites.Kdf.{Kdf}

-- HKDF-Extract(salt, IKM) (RFC 5869, 2.2)
abbrev pub extract : Kdf → List ℕ → List ℕ → List ℕ
extract kdf salt ikm = hmac kdf salt ikm

-- T(i): T(0) is empty, and T(i) = HMAC(PRK, T(i - 1) | info | i) (RFC 5869, 2.3)
unfoldable pub output_block : Kdf → List ℕ → List ℕ → ℕ → List ℕ
output_block kdf prk info zero = []
output_block kdf prk info (suc i) =
    hmac kdf prk (output_block kdf prk info i ++ info ++ suc i ∷ [])

-- T = T(1) | T(2) | .. | T(n) (RFC 5869, 2.3)
unfoldable pub output_blocks : Kdf → List ℕ → List ℕ → ℕ → List ℕ
output_blocks kdf prk info zero = []
output_blocks kdf prk info (suc n) =
    output_blocks kdf prk info n ++ output_block kdf prk info (suc n)

-- HKDF-Expand(PRK, info, L): the first L bytes of T, for L up to 255 Nh (RFC 5869, 2.3). The RFC
-- forms only as many blocks as L needs; further ones leave the first L bytes as they are.
unfoldable pub expand : Kdf → List ℕ → List ℕ → ℕ → List ℕ
expand kdf prk info len = take len (output_blocks kdf prk info 255)
