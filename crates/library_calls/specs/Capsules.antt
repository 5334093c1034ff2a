-- Requests and responses of Oblivious HTTP (RFC 9458, 4), and what a client keeps between the two.
use Rattle.std.specs.Prelude.{◌≡◌, ◌≢◌, ◌⊎◌, ◌↔◌, ◌≤◌, ◌<◌, ◌+◌, ◌^◌, ◌==◌, ℕ, if◌then◌else◌, List, length, take, Ok, IsOk}
use Rattle.hkdf_labelled.specs.Hmac.{zero_padded}
use Rattle.key_schedule.specs.declared.modes.Role.TheVariants.{Sender}
use Rattle.ring_core.specs.Sets.{Set, sntrup761, sntrup857}
use Rattle.rand_words.specs.Words.{stream_word}
use Rattle.sntrup_kem.specs.Sizes.{enc_size}
use Rattle.sntrup_kem.specs.Kem.{HasMalformedPart, drawn_r}
use Rattle.ohttp_capsule.specs.declared.asking.Asked.{Asked}
use Rattle.ohttp_capsule.specs.declared.faults.CapsuleFault.{CapsuleFault}
use Rattle.ohttp_capsule.specs.declared.faults.CapsuleFault.TheVariants.{Short, Header, NonceSize, Failed, OutOfMemory}
use Rattle.ohttp_capsule.specs.Requests.{tag_size, least_request, context_of, asked_with}
use Rattle.ohttp_capsule.specs.Replies.{answered, least_response}
use Rattle.ohttp_capsule.specs.Refusals.{IsShortRequest, HasOtherHeader, HasOtherNonce, DoesNotOpen}
use Rattle.library_calls.specs.declared.asks.HpkeAsked.{HpkeAsked}
use Rattle.library_calls.specs.Contexts.{NamesKdf, suite_named}
use Rattle.library_calls.specs.Keys.{enc_by, session_by}
use Rattle.library_calls.specs.Setups.{kem_761, kem_857}
use Rattle.library_calls.specs.Statuses.{done, wrong_usage, no_memory, refused_failed, refused_form, refused_short, refused_header, refused_noncesize}

-- the status of a refusal
abbrev pub refusal_of : CapsuleFault → ℕ
refusal_of Short = refused_short
refusal_of Header = refused_header
refusal_of NonceSize = refused_noncesize
refusal_of Failed = refused_failed
refusal_of OutOfMemory = no_memory

-- the most bytes of a text
abbrev pub most_text : ℕ
most_text = 2 ^ 20

-- ---- what a client keeps

-- the KDF is named, and the AEAD is one that encrypts
abbrev pub CanAsk : ℕ → ℕ → Type 0
CanAsk kdf aead = NamesKdf kdf × ((aead ≡ 1) ⊎ (aead ≡ 2))

-- the numbers in it name something
abbrev pub IsAsked : HpkeAsked → Type 0
IsAsked a = (a.key_id < 256) × ((a.kem ≡ kem_761) ⊎ (a.kem ≡ kem_857)) × CanAsk a.kdf a.aead

-- the set of a kem_id that names one
abbrev pub set_named : ℕ → Set
set_named kem = if kem == kem_761 then sntrup761 else sntrup857

-- what it says: the sender's context of this identifier, suite and shared secret, and enc
abbrev pub asked_held : HpkeAsked → Asked
asked_held a =
    record {
      context = context_of Sender a.key_id (suite_named a.kem a.kdf a.aead) a.shared_secret;
      enc = take (enc_size (set_named a.kem)) a.enc;
    }

-- what is kept where the KEM gave this shared secret and this enc, which zero bytes follow
abbrev pub kept : ℕ → ℕ → ℕ → ℕ → List ℕ → List ℕ → HpkeAsked
kept key_id kem kdf aead shared_secret enc =
    record {
      key_id = key_id;
      kem = kem;
      kdf = kdf;
      aead = aead;
      shared_secret = shared_secret;
      enc = zero_padded 1184 enc;
    }

-- the same where Encap to a public key gave them, on the words of a stream from the first on
abbrev pub kept_by : Set → List ℕ → ℕ → List ℕ → ℕ → ℕ → ℕ → ℕ → HpkeAsked
kept_by set seed stream pk key_id kem kdf aead =
    kept key_id kem kdf aead (session_by set seed stream pk) (enc_by set seed stream pk)

-- what the client keeps by RFC 9458, 4.3
abbrev pub asked_by : Set → List ℕ → ℕ → List ℕ → ℕ → ℕ → ℕ → ℕ → Asked
asked_by set seed stream pk key_id kem kdf aead =
    asked_with key_id (suite_named kem kdf aead) set pk (drawn_r set (stream_word seed stream) 0)

-- ---- lengths, in bytes

-- a text that can be asked, and the room for its request: hdr, enc, the text and a tag
abbrev pub FitsAsk : Set → List ℕ → List ℕ → Type 0
FitsAsk set text request =
    (length text ≤ most_text) × (length request ≡ least_request set + length text)

-- a request and the room for its text; the nonce of the response, its text and the room for it
abbrev pub FitsAnswer : Set → List ℕ → List ℕ → List ℕ → List ℕ → List ℕ → Type 0
FitsAnswer set request question nonce text response =
    (length question ≤ most_text) × (length request ≡ least_request set + length question)
    × (length text ≤ most_text) × (length response ≡ length nonce + (length text + tag_size))

-- they fit, and the bytes encode a secret key
abbrev pub CanAnswer : Set → List ℕ → List ℕ → List ℕ → List ℕ → List ℕ → List ℕ → Type 0
CanAnswer set sk request question nonce text response =
    FitsAnswer set request question nonce text response × (¬ HasMalformedPart set sk)

-- a response and the room for its text
abbrev pub FitsTake : Asked → List ℕ → List ℕ → Type 0
FitsTake asked response text =
    (length text ≤ most_text) × (length response ≡ least_response asked + length text)

-- ---- a whole answer to a request: the rooms for its text and for the response before and after it

pub record IsAnswered (set : Set) (kem : ℕ) (sk : List ℕ) (key_id : ℕ)
    (request nonce text question response question_new response_new : List ℕ) (status : ℕ)
    : Type 0 where
  pub ok : status ≢ no_memory → ((status ≡ done)
      ↔ (CanAnswer set sk request question nonce text response
      × IsOk (answered set kem sk key_id request nonce text)))
  pub short : (status ≡ refused_short) ↔ IsShortRequest set request
  pub form : status ≢ no_memory → ((status ≡ refused_form)
      ↔ (FitsAnswer set request question nonce text response × HasMalformedPart set sk))
  pub header : status ≢ no_memory → ((status ≡ refused_header)
      ↔ (CanAnswer set sk request question nonce text response
      × HasOtherHeader set kem key_id request))
  pub noncesize : status ≢ no_memory → ((status ≡ refused_noncesize)
      ↔ (CanAnswer set sk request question nonce text response
      × HasOtherNonce set kem key_id request nonce))
  pub failed : status ≢ no_memory → ((status ≡ refused_failed)
      ↔ (CanAnswer set sk request question nonce text response
      × DoesNotOpen set kem sk key_id request nonce))
  pub statuses : (status ≡ done) ⊎ (status ≡ wrong_usage) ⊎ (status ≡ no_memory)
      ⊎ (status ≡ refused_short) ⊎ (status ≡ refused_form) ⊎ (status ≡ refused_header)
      ⊎ (status ≡ refused_noncesize) ⊎ (status ≡ refused_failed)
  pub texts : status ≡ done
      → answered set kem sk key_id request nonce text ≡ Ok (question_new, response_new)
  pub refused : status ≢ done → (question_new ≡ question) × (response_new ≡ response)
