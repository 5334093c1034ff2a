-- The algorithms of a suite (RFC 9180, 7): hash functions, sizes in bytes, numbers.
use Rattle.std.specs.Prelude.{ℕ, ◌==◌, Bool, true, false, List, [], ◌∷◌, Option, Some, None, if◌then◌else◌}
use Rattle.sha2.specs.Sha256.{sha256}
use Rattle.sha2.specs.Sha512.{sha384, sha512}
use Rattle.hkdf_labelled.specs.declared.suites.Kdf.{Kdf}
use Rattle.hkdf_labelled.specs.declared.suites.Kdf.TheVariants.{Sha256, Sha384, Sha512}
use Rattle.hkdf_labelled.specs.declared.suites.Aead.{Aead}
use Rattle.hkdf_labelled.specs.declared.suites.Aead.TheVariants.{Aes128, Aes256, ExportOnly}
use Rattle.hkdf_labelled.specs.declared.suites.AeadParameters.{AeadParameters}

-- H, the hash function of a KDF (FIPS 180-4)
abbrev pub hash : Kdf → List ℕ → List ℕ
hash Sha256 m = sha256 m
hash Sha384 m = sha384 m
hash Sha512 m = sha512 m

-- Nh, the size of a hash value (RFC 9180, 7.2)
abbrev pub hash_size : Kdf → ℕ
hash_size Sha256 = 32
hash_size Sha384 = 48
hash_size Sha512 = 64

-- B, the size of a block of the hash function (FIPS 180-4, 1)
abbrev pub block_size : Kdf → ℕ
block_size Sha256 = 64
block_size Sha384 = 128
block_size Sha512 = 128

-- kdf_id (RFC 9180, 7.2)
abbrev pub kdf_id : Kdf → ℕ
kdf_id Sha256 = 1
kdf_id Sha384 = 2
kdf_id Sha512 = 3

-- what an AEAD is: its number, and Nk, Nn and Nt in bytes (RFC 9180, 7.3). An export-only suite has no
-- key, no nonces and no tags.
abbrev pub parameters : Aead → AeadParameters
parameters Aes128 = record { id = 1; key_size = 16; nonce_size = 12; tag_size = 16 }
parameters Aes256 = record { id = 2; key_size = 32; nonce_size = 12; tag_size = 16 }
parameters ExportOnly = record { id = 65535; key_size = 0; nonce_size = 0; tag_size = 0 }

-- whether an AEAD encrypts
abbrev pub encrypts : Aead → Bool
encrypts Aes128 = true
encrypts Aes256 = true
encrypts ExportOnly = false

-- aead_id
abbrev pub aead_id : Aead → ℕ
aead_id aead = (parameters aead).id

-- the AEAD of a number, without ChaCha20Poly1305
abbrev pub aead_named : ℕ → Option Aead
aead_named id =
    if id == 1 then Some Aes128
    else if id == 2 then Some Aes256
    else if id == 65535 then Some ExportOnly
    else None
