-- What capsules are for: a whole exchange gives each end the other's text.
use Rattle.std.specs.Prelude.{◌≡◌, ℕ, ℤ, List, length, IsTrue, Result, Ok}
use Rattle.ring_core.specs.Sets.{Set}
use Rattle.sntrup_core.specs.Laws.{IsShort}
use Rattle.sntrup_kem.specs.Sizes.{enc_size}
use Rattle.sntrup_kem.specs.Kem.{IsGenerated}
use Rattle.hkdf_labelled.specs.declared.suites.Suite.{Suite}
use Rattle.hkdf_labelled.specs.Suites.{encrypts}
use Rattle.ohttp_capsule.specs.declared.asking.Asked.{Asked}
use Rattle.ohttp_capsule.specs.declared.faults.CapsuleFault.{CapsuleFault}
use Rattle.ohttp_capsule.specs.Headers.{Names}
use Rattle.ohttp_capsule.specs.Requests.{asked_with, encapsulated_request}
use Rattle.ohttp_capsule.specs.Responses.{entropy_size, response_salt}
use Rattle.ohttp_capsule.specs.Replies.{answered, taken}

-- the request asks with this text: it was made for the public key of a pair that KeyGen gave, of
-- which this is the secret key, and `asked` is what the client kept
pub record Asks (set : Set) (kem : ℕ) (sk : List ℕ) (key_id : ℕ) (asked : Asked)
    (request text : List ℕ) : Type 0 where
  pub word : ℕ → ℕ
  pub place : ℕ
  pub j : ℕ
  pub pk : List ℕ
  pub r : List ℤ
  pub suite : Suite
  pub generated : IsGenerated set word place j pk sk
  pub short : IsShort set r
  pub kem_is : suite.kem ≡ kem
  pub encrypts_is : IsTrue (encrypts suite.aead)
  pub asked_is : asked ≡ asked_with key_id suite set pk r
  pub enc_count : length asked.enc ≡ enc_size set
  pub request_is : request ≡ encapsulated_request key_id asked text

-- it is answered with its text, and what the gateway answers is taken with the gateway's text
pub record Exchanges (became : Result (List ℕ × List ℕ) CapsuleFault) (asked : Asked)
    (question reply : List ℕ) : Type 0 where
  pub response : List ℕ
  pub question_is : became ≡ Ok (question, response)
  pub reply_is : taken asked response ≡ Ok reply

abbrev pub WholeExchange : Set → ℕ → Type 0
WholeExchange set kem =
    (sk : List ℕ) (key_id : ℕ) (asked : Asked) (request question nonce reply : List ℕ)
    → Asks set kem sk key_id asked request question
    → length nonce ≡ entropy_size asked.context.suite.aead
    → Exchanges (answered set kem sk key_id request nonce reply) asked question reply

-- no two encapsulations of one size, and no two nonces, have a salt in common: so the key and the
-- nonce of a response are made from a salt of its exchange's own
abbrev pub SaltsBind : Type 0
SaltsBind =
    (enc enc' nonce nonce' : List ℕ) → length enc ≡ length enc'
    → response_salt enc nonce ≡ response_salt enc' nonce'
    → (enc ≡ enc') × (nonce ≡ nonce')

-- a header names one suite
abbrev pub NamesOne : Type 0
NamesOne =
    (key_id kem : ℕ) (bytes : List ℕ) (suite suite' : Suite) → Names key_id kem bytes suite
    → Names key_id kem bytes suite' → suite ≡ suite'
