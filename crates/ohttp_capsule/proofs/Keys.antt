-- The keys of an exchange have the length that their AEAD asks for.
use Rattle.std.proofs.Common.{◌≡◌, ◌≤◌, ℕ, true, false, IsTrue, List, length, inl, inr, arith}
use Rattle.hkdf_labelled.specs.declared.suites.Aead.{Aead}
use Rattle.hkdf_labelled.specs.declared.suites.Aead.TheVariants.{Aes128, Aes256, ExportOnly}
use Rattle.hkdf_labelled.specs.declared.suites.Suite.{Suite}
use Rattle.hkdf_labelled.specs.Suites.{encrypts}
use Rattle.hkdf_labelled.proofs.Expanding.{length-expand}
use Rattle.key_schedule.specs.Schedule.{cipher_secrets_for}
use Rattle.key_schedule.specs.declared.modes.Role.{Role}
use Rattle.hpke_aead.proofs.Opening.{IsWhole, key_is_whole}
use Rattle.hpke_context.specs.Contexts.{ContextView, key_in}
use Rattle.ohttp_capsule.specs.Requests.{context_of}
use Rattle.ohttp_capsule.specs.Responses.{key_size, response_prk, aead_key}

-- ---- of a request

is_request_key : (aead : Aead) (suite : Suite) (secret context : List ℕ) → IsTrue (encrypts aead)
    → IsWhole (key_in (cipher_secrets_for aead suite secret context))
is_request_key Aes128 suite secret context can =
    key_is_whole Aes128 _ can (length-expand suite.kdf secret _ 16 (omega arith))
is_request_key Aes256 suite secret context can =
    key_is_whole Aes256 _ can (length-expand suite.kdf secret _ 32 (omega arith))
is_request_key ExportOnly suite secret context can = absurd (let no : false ≡ true = can in cc)

pub request_key_is_whole : (role : Role) (id : ℕ) (suite : Suite) (shared_secret : List ℕ)
    → IsTrue (encrypts suite.aead)
    → IsWhole (key_in (context_of role id suite shared_secret).secrets.cipher)
request_key_is_whole role id suite shared_secret can = is_request_key suite.aead suite _ _ can

-- ---- of a response

key_size-most : (aead : Aead) → key_size aead ≤ 32
key_size-most Aes128 = omega arith
key_size-most Aes256 = omega arith
key_size-most ExportOnly = omega arith

pub response_key_is_whole : (c : ContextView) (enc nonce : List ℕ)
    → IsTrue (encrypts c.suite.aead) → IsWhole (aead_key c enc nonce)
response_key_is_whole c enc nonce can =
    key_is_whole c.suite.aead _ can
    (length-expand c.suite.kdf (response_prk c enc nonce) _ (key_size c.suite.aead)
    (key_size-most c.suite.aead))
