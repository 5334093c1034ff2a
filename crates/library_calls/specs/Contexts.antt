-- The context that a caller in C holds (RFC 9180, 5.1 and 5.2): numbers and bytes.
use Rattle.std.specs.Prelude.{◌≡◌, ◌⊎◌, ◌≤◌, ℕ, ◌*◌, ◌==◌, if◌then◌else◌, List, take}
use Rattle.hkdf_labelled.specs.Hmac.{zero_padded}
use Rattle.hkdf_labelled.specs.Suites.{hash_size, kdf_id, aead_id, parameters}
use Rattle.hkdf_labelled.specs.declared.suites.Suite.{Suite}
use Rattle.hkdf_labelled.specs.declared.suites.Kdf.{Kdf}
use Rattle.hkdf_labelled.specs.declared.suites.Kdf.TheVariants.{Sha256, Sha384, Sha512}
use Rattle.hkdf_labelled.specs.declared.suites.Aead.{Aead}
use Rattle.hkdf_labelled.specs.declared.suites.Aead.TheVariants.{Aes128, Aes256, ExportOnly}
use Rattle.key_schedule.specs.declared.modes.Mode.{Mode}
use Rattle.key_schedule.specs.declared.modes.Mode.TheVariants.{Base, Psk}
use Rattle.key_schedule.specs.declared.schedules.Secrets.{Secrets}
use Rattle.key_schedule.specs.Exports.{exported}
use Rattle.key_schedule.specs.Nonces.{compute_nonce}
use Rattle.key_schedule.specs.Secrets.{key_bytes, base_nonce_in}
use Rattle.hpke_aead.specs.declared.keys.AeadKey.{AeadKey}
use Rattle.hpke_aead.specs.Aeads.{key_of}
use Rattle.library_calls.specs.declared.contexts.HpkeContext.{HpkeContext}

-- ---- numbers that name something

-- the number of a sender and that of a recipient
abbrev pub sender : ℕ
sender = 0

abbrev pub recipient : ℕ
recipient = 1

-- the KDF is 1, 2 or 3 (RFC 9180, 7.2)
abbrev pub NamesKdf : ℕ → Type 0
NamesKdf kdf = (1 ≤ kdf) × (kdf ≤ 3)

-- the AEAD is 1, 2 or 65535 (RFC 9180, 7.3)
abbrev pub NamesAead : ℕ → Type 0
NamesAead aead = (aead ≡ 1) ⊎ (aead ≡ 2) ⊎ (aead ≡ 65535)

-- the algorithms of such numbers
abbrev pub kdf_named : ℕ → Kdf
kdf_named kdf = if kdf == 1 then Sha256 else (if kdf == 2 then Sha384 else Sha512)

abbrev pub aead_named : ℕ → Aead
aead_named aead = if aead == 1 then Aes128 else (if aead == 2 then Aes256 else ExportOnly)

abbrev pub suite_named : ℕ → ℕ → ℕ → Suite
suite_named kem kdf aead = record { kem = kem; kdf = kdf_named kdf; aead = aead_named aead }

-- the mode is 0 or 1 (RFC 9180, 5, table 1)
abbrev pub mode_named : ℕ → Mode
mode_named mode = if mode == 0 then Base else Psk

-- ---- a context

-- the numbers in it name something
abbrev pub IsContext : HpkeContext → Type 0
IsContext c = (c.role ≤ 1) × NamesKdf c.kdf × NamesAead c.aead

-- it has a key
abbrev pub HasKey : HpkeContext → Type 0
HasKey c = (c.aead ≡ 1) ⊎ (c.aead ≡ 2)

-- it serves a call of this role that needs a key
abbrev pub Serves : HpkeContext → ℕ → Type 0
Serves c role = IsContext c × (c.role ≡ role) × HasKey c

-- the key, as the AEAD's own: the first Nk bytes of `key`
abbrev pub key_held : HpkeContext → AeadKey
key_held c =
    let aead = aead_named c.aead in
    key_of aead (take (parameters aead).key_size c.key)

-- ComputeNonce of the number that is due (RFC 9180, 5.2)
abbrev pub nonce_due : HpkeContext → List ℕ
nonce_due c = compute_nonce c.base_nonce c.number

-- the suite, and Context.Export (RFC 9180, 5.3) with the first Nh bytes of `exporter_secret`
abbrev pub suite_held : HpkeContext → Suite
suite_held c = suite_named c.kem c.kdf c.aead

abbrev pub export_most : HpkeContext → ℕ
export_most c = 255 * hash_size (kdf_named c.kdf)

abbrev pub exported_held : HpkeContext → List ℕ → ℕ → List ℕ
exported_held c exporter_context len =
    exported (suite_held c) (take (hash_size (kdf_named c.kdf)) c.exporter_secret) exporter_context
    len

-- the context of what KeySchedule gave, at its first number. Zero bytes follow what is shorter than
-- its place.
abbrev pub context_of : ℕ → ℕ → Suite → Secrets → HpkeContext
context_of role limit suite secrets =
    record {
      number = 0;
      limit = limit;
      role = role;
      kem = suite.kem;
      kdf = kdf_id suite.kdf;
      aead = aead_id suite.aead;
      base_nonce = zero_padded 12 (base_nonce_in secrets.cipher);
      key = zero_padded 32 (key_bytes secrets.cipher);
      exporter_secret = zero_padded 64 secrets.exporter;
    }
