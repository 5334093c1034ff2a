-- Which calls a context answers (RFC 9180, 5.2), and its answer at the number that is due.
use Rattle.std.specs.Prelude.{◌≡◌, ℕ, IsTrue, Option, Some, None}
use Rattle.hkdf_labelled.specs.Suites.{encrypts}
use Rattle.hkdf_labelled.specs.declared.suites.Aead.TheVariants as aead
use Rattle.key_schedule.specs.declared.modes.Role.TheVariants.{Sender, Recipient}
use Rattle.key_schedule.specs.declared.schedules.CipherSecrets.{CipherSecrets}
use Rattle.key_schedule.specs.Secrets.{aead_of}
use Rattle.hpke_aead.specs.declared.keys.AeadKey.{AeadKey}
use Rattle.hpke_context.specs.Answers.{Item, Answer, answer}
use Rattle.hpke_context.specs.Contexts.{ContextView, cipher_of, key_in}

-- a context with the sequence number that is due
pub record SequentialView : Type 0 where
  pub context : ContextView
  pub seq : ℕ

-- it has a key and base_nonce
abbrev pub HasCipher : ContextView → Type 0
HasCipher c = IsTrue (encrypts c.suite.aead)

-- it has neither, and only exports secrets
abbrev pub IsExportOnly : ContextView → Type 0
IsExportOnly c = c.suite.aead ≡ aead.ExportOnly

-- a sender with a cipher: what it seals is answered
abbrev pub CanSeal : ContextView → Type 0
CanSeal c = (c.role ≡ Sender) × HasCipher c

-- a recipient with a cipher: what it opens is answered
abbrev pub CanOpen : ContextView → Type 0
CanOpen c = (c.role ≡ Recipient) × HasCipher c

-- the answer to an item at the number that is due
abbrev pub answer_now : SequentialView → Item → Answer
answer_now s item = answer (cipher_of s.context) s.seq item

-- ---- for the proofs

-- the key that is kept is the one in the secrets
abbrev pub KeepsKey : CipherSecrets → Option AeadKey → Type 0
KeepsKey secrets (Some key) = (key ≡ key_in secrets) × IsTrue (encrypts (aead_of secrets))
KeepsKey secrets None = aead_of secrets ≡ aead.ExportOnly
