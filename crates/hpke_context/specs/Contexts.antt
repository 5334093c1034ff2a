-- HPKE's encryption context (RFC 9180, 5.2 and 5.3), as contracts see it.
use Rattle.std.specs.Prelude.{ℕ, ◌*◌, List}
use Rattle.hkdf_labelled.specs.Suites.{hash_size}
use Rattle.hkdf_labelled.specs.declared.suites.Suite.{Suite}
use Rattle.key_schedule.specs.declared.modes.Role.{Role}
use Rattle.key_schedule.specs.declared.schedules.CipherSecrets.{CipherSecrets}
use Rattle.key_schedule.specs.declared.schedules.Secrets.{Secrets}
use Rattle.key_schedule.specs.Nonces.{compute_nonce}
use Rattle.key_schedule.specs.Secrets.{aead_of, key_bytes, base_nonce_in}
use Rattle.key_schedule.specs.Exports.{exported}
use Rattle.hpke_aead.specs.declared.keys.AeadKey.{AeadKey}
use Rattle.hpke_aead.specs.Aeads.{key_of, seal, tag_holds, clear}
use Rattle.hpke_context.specs.Answers.{Cipher}

-- a context: its end, its algorithms, LIMIT, and what KeySchedule gave
pub record ContextView : Type 0 where
  pub role : Role
  pub suite : Suite
  pub limit : ℕ
  pub secrets : Secrets

-- key, as the AEAD's own. An export-only context has none, and nothing uses this value.
abbrev pub key_in : CipherSecrets → AeadKey
key_in secrets = key_of (aead_of secrets) (key_bytes secrets)

-- ComputeNonce(seq)
abbrev pub nonce_of : ContextView → ℕ → List ℕ
nonce_of c seq = compute_nonce (base_nonce_in c.secrets.cipher) seq

-- what a context can do at each number. For an export-only context, which has no key, these are
-- values that nothing uses.
abbrev pub cipher_of : ContextView → Cipher
cipher_of c =
    let key = key_in c.secrets.cipher in
    record {
      limit = c.limit;
      sealed = λ n aad text. seal key (nonce_of c n) aad text;
      holds = λ n aad ct. tag_holds key (nonce_of c n) aad ct;
      clear = λ n aad ct. clear key (nonce_of c n) ct;
    }

-- how many bytes a context exports at most: 255 Nh (RFC 9180, 5.3)
abbrev pub export_limit : ContextView → ℕ
export_limit c = 255 * hash_size c.suite.kdf

-- Context.Export(exporter_context, L)
abbrev pub exported_by : ContextView → List ℕ → ℕ → List ℕ
exported_by c exporter_context len = exported c.suite c.secrets.exporter exporter_context len
