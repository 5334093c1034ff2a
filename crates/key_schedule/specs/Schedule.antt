-- The key schedule (RFC 9180, 5.1), in modes base and psk. Sizes are in bytes.
use Rattle.std.specs.Prelude.{ℕ, List, [], ◌++◌, Result, Ok, codes}
use Rattle.std.specs.Result.{result_and}
use Rattle.byte_strings.specs.Bytes.{i2osp}
use Rattle.hkdf_labelled.specs.Suites.{hash_size, parameters}
use Rattle.hkdf_labelled.specs.Labels.{labeled_extract, labeled_expand}
use Rattle.hkdf_labelled.specs.declared.suites.Suite.{Suite}
use Rattle.hkdf_labelled.specs.declared.suites.Aead.{Aead}
use Rattle.hkdf_labelled.specs.declared.suites.Aead.TheVariants as aead
use Rattle.key_schedule.specs.declared.modes.Mode.{Mode}
use Rattle.key_schedule.specs.declared.modes.Mode.TheVariants.{Base, Psk}
use Rattle.key_schedule.specs.declared.psks.PskFault.{PskFault}
use Rattle.key_schedule.specs.declared.schedules.CipherSecrets.{CipherSecrets}
use Rattle.key_schedule.specs.declared.schedules.CipherSecrets.TheVariants.{NoCipher, Aes128, Aes256}
use Rattle.key_schedule.specs.declared.schedules.Secrets.{Secrets}
use Rattle.key_schedule.specs.Psks.{verify_psk_inputs}
use Rattle.key_schedule.specs.Nonces.{nonce_size}

-- mode_base and mode_psk (RFC 9180, 5, table 1)
abbrev pub mode_id : Mode → ℕ
mode_id Base = 0
mode_id Psk = 1

-- key_schedule_context: mode, psk_id_hash and info_hash, joined
abbrev pub key_schedule_context : Suite → Mode → List ℕ → List ℕ → List ℕ
key_schedule_context suite mode info psk_id =
    i2osp (mode_id mode) 1
    ++ labeled_extract suite [] (codes "psk_id_hash") psk_id
    ++ labeled_extract suite [] (codes "info_hash") info

-- key, of an AEAD's Nk bytes
abbrev pub key_of : Suite → List ℕ → List ℕ → ℕ → List ℕ
key_of suite secret context size = labeled_expand suite secret (codes "key") context size

-- base_nonce, of Nn bytes
abbrev pub base_nonce_of : Suite → List ℕ → List ℕ → List ℕ
base_nonce_of suite secret context =
    labeled_expand suite secret (codes "base_nonce") context nonce_size

-- exporter_secret, of Nh bytes
abbrev pub exporter_secret : Suite → List ℕ → List ℕ → List ℕ
exporter_secret suite secret context =
    labeled_expand suite secret (codes "exp") context (hash_size suite.kdf)

-- key and base_nonce for an AEAD. An export-only suite has neither.
abbrev pub cipher_secrets_for : Aead → Suite → List ℕ → List ℕ → CipherSecrets
cipher_secrets_for aead.Aes128 suite secret context =
    Aes128 (key_of suite secret context (parameters aead.Aes128).key_size)
    (base_nonce_of suite secret context)
cipher_secrets_for aead.Aes256 suite secret context =
    Aes256 (key_of suite secret context (parameters aead.Aes256).key_size)
    (base_nonce_of suite secret context)
cipher_secrets_for aead.ExportOnly suite secret context = NoCipher

-- key and base_nonce for the suite's AEAD
abbrev pub cipher_secrets : Suite → List ℕ → List ℕ → CipherSecrets
cipher_secrets suite secret context = cipher_secrets_for suite.aead suite secret context

-- what KeySchedule gives where VerifyPSKInputs raises nothing
abbrev pub secrets_of : Suite → Mode → List ℕ → List ℕ → List ℕ → List ℕ → Secrets
secrets_of suite mode shared_secret info psk psk_id =
    let context = key_schedule_context suite mode info psk_id in
    let secret = labeled_extract suite shared_secret (codes "secret") psk in
    record {
      cipher = cipher_secrets suite secret context;
      exporter = exporter_secret suite secret context;
    }

-- KeySchedule(mode, shared_secret, info, psk, psk_id)
abbrev pub key_schedule : Suite → Mode → List ℕ → List ℕ → List ℕ → List ℕ
    → Result Secrets PskFault
key_schedule suite mode shared_secret info psk psk_id =
    result_and (verify_psk_inputs mode psk psk_id)
    (Ok (secrets_of suite mode shared_secret info psk psk_id))
