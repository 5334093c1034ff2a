-- What a context encrypts with (RFC 9180, 5.1): the AEAD, key and base_nonce. An export-only context has
-- neither; the empty byte string stands for each.
use Rattle.std.specs.Prelude.{ℕ, List, []}
use Rattle.hkdf_labelled.specs.declared.suites.Aead.{Aead}
use Rattle.hkdf_labelled.specs.declared.suites.Aead.TheVariants as aead
use Rattle.key_schedule.specs.declared.schedules.CipherSecrets.{CipherSecrets}
use Rattle.key_schedule.specs.declared.schedules.CipherSecrets.TheVariants.{NoCipher, Aes128, Aes256}

-- the AEAD whose secrets these are
abbrev pub aead_of : CipherSecrets → Aead
aead_of NoCipher = aead.ExportOnly
aead_of (Aes128 key base_nonce) = aead.Aes128
aead_of (Aes256 key base_nonce) = aead.Aes256

-- key
abbrev pub key_bytes : CipherSecrets → List ℕ
key_bytes NoCipher = []
key_bytes (Aes128 key base_nonce) = key
key_bytes (Aes256 key base_nonce) = key

-- base_nonce
abbrev pub base_nonce_in : CipherSecrets → List ℕ
base_nonce_in NoCipher = []
base_nonce_in (Aes128 key base_nonce) = base_nonce
base_nonce_in (Aes256 key base_nonce) = base_nonce
