-- The AEADs of HPKE (RFC 9180, 7.3) by cases: each is Seal and Open of its own standard. A byte string is a
-- list of numbers below 256.
use Rattle.std.specs.Prelude.{ℕ, Bool, ◌&&◌, nat_le, bytes_eq, List, length}
use Rattle.hkdf_labelled.specs.declared.suites.Aead.{Aead}
use Rattle.hkdf_labelled.specs.declared.suites.Aead.TheVariants.{Aes128, Aes256, ExportOnly}
use Rattle.aes_gcm.specs.Gcm.{body, last_16, tag_of as gcm_tag_of, seal as gcm_seal, Holds as GcmHolds, clear as gcm_clear}
use Rattle.hpke_aead.specs.declared.keys.AeadKey.{AeadKey}
use Rattle.hpke_aead.specs.declared.keys.AeadKey.TheVariants.{Gcm}

-- the key of an AEAD with these bytes. An export-only suite has no key: nothing uses this value
abbrev pub key_of : Aead → List ℕ → AeadKey
key_of Aes128 bytes = Gcm bytes
key_of Aes256 bytes = Gcm bytes
key_of ExportOnly bytes = Gcm bytes

-- Seal(key, nonce, aad, text)
abbrev pub seal : AeadKey → List ℕ → List ℕ → List ℕ → List ℕ
seal (Gcm key) nonce aad text = gcm_seal key nonce aad text

-- Open(key, nonce, aad, ct) doesn't fail
abbrev pub Holds : AeadKey → List ℕ → List ℕ → List ℕ → Type 0
Holds (Gcm key) nonce aad ct = GcmHolds key nonce aad ct

-- the same as a Bool
abbrev pub tag_holds : AeadKey → List ℕ → List ℕ → List ℕ → Bool
tag_holds (Gcm key) nonce aad ct =
    nat_le 16 (length ct) && bytes_eq (last_16 ct) (gcm_tag_of key nonce aad (body ct))

-- what Open gives where it doesn't fail
abbrev pub clear : AeadKey → List ℕ → List ℕ → List ℕ
clear (Gcm key) nonce ct = gcm_clear key nonce ct
