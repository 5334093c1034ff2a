-- Encapsulated responses (RFC 9458, 4.2 and 4.4): a text that is sealed under a key of the request's
-- context, its enc and a nonce. A byte string is a list of numbers below 256; sizes are in bytes.
use Rattle.std.specs.Prelude.{ℕ, List, [], ◌++◌, max, codes}
use Rattle.hkdf_labelled.specs.declared.suites.Aead.{Aead}
use Rattle.hkdf_labelled.specs.Suites.{parameters}
use Rattle.hkdf_labelled.specs.Hkdf.{extract, expand}
use Rattle.key_schedule.specs.Nonces.{nonce_size}
use Rattle.hpke_aead.specs.declared.keys.AeadKey.{AeadKey}
use Rattle.hpke_aead.specs.Aeads.{key_of, seal}
use Rattle.hpke_context.specs.Contexts.{ContextView, exported_by}

-- Nk (RFC 9180, 7.3). An export-only suite has no key
abbrev pub key_size : Aead → ℕ
key_size aead = (parameters aead).key_size

-- entropy_len, the size of response_nonce: the greater of Nn and Nk
abbrev pub entropy_size : Aead → ℕ
entropy_size aead = max nonce_size (key_size aead)

-- secret: context.Export("message/bhttp response", entropy_len)
abbrev pub response_secret : ContextView → List ℕ
response_secret c =
    exported_by c (codes "message/bhttp response") (entropy_size c.suite.aead)

-- salt: enc and response_nonce
abbrev pub response_salt : List ℕ → List ℕ → List ℕ
response_salt enc nonce = enc ++ nonce

-- prk: Extract(salt, secret), of the suite's KDF
abbrev pub response_prk : ContextView → List ℕ → List ℕ → List ℕ
response_prk c enc nonce = extract c.suite.kdf (response_salt enc nonce) (response_secret c)

-- aead_key: Expand(prk, "key", Nk), as the AEAD's own
abbrev pub aead_key : ContextView → List ℕ → List ℕ → AeadKey
aead_key c enc nonce =
    key_of c.suite.aead
    (expand c.suite.kdf (response_prk c enc nonce) (codes "key") (key_size c.suite.aead))

-- aead_nonce: Expand(prk, "nonce", Nn)
abbrev pub aead_nonce : ContextView → List ℕ → List ℕ → List ℕ
aead_nonce c enc nonce =
    expand c.suite.kdf (response_prk c enc nonce) (codes "nonce") nonce_size

-- enc_response: response_nonce, and ct = Seal(aead_key, aead_nonce, "", text)
abbrev pub encapsulated_response : ContextView → List ℕ → List ℕ → List ℕ → List ℕ
encapsulated_response c enc nonce text =
    nonce ++ seal (aead_key c enc nonce) (aead_nonce c enc nonce) [] text
