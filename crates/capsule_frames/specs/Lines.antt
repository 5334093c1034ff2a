-- What becomes of one capsule line, after those before it (RFC 9458, 4). A byte string is a list of
-- numbers below 256; spans name bytes of the plan's pool.
use Rattle.std.specs.Prelude.{ℕ, List, Option, Some, None, Result, Ok, Err, slice_get}
use Rattle.hkdf_labelled.specs.declared.suites.Kdf.{Kdf}
use Rattle.hkdf_labelled.specs.declared.suites.Aead.{Aead}
use Rattle.hkdf_labelled.specs.declared.suites.Suite.{Suite}
use Rattle.sntrup_kem.specs.Kem.{drawn_r}
use Rattle.call_places.specs.declared.spans.Span.{Span}
use Rattle.call_places.specs.Spans.{span_bytes}
use Rattle.batch_plans.specs.declared.plan.Plan.{Plan}
use Rattle.batch_plans.specs.declared.plan.EncField.{EncField}
use Rattle.batch_plans.specs.declared.plan.EncField.TheVariants.{Bytes, Of}
use Rattle.batch_plans.specs.declared.replies.KeyReply.{KeyReply}
use Rattle.context_table.specs.Streams.{context_words}
use Rattle.context_table.specs.Keys.{Kem, KeyView, key_at}
use Rattle.ohttp_capsule.specs.declared.faults.CapsuleFault.{CapsuleFault}
use Rattle.ohttp_capsule.specs.declared.faults.CapsuleFault.TheVariants as faults
use Rattle.ohttp_capsule.specs.Requests.{asked_with, encapsulated_request}
use Rattle.ohttp_capsule.specs.Replies.{answered, taken}
use Rattle.capsule_frames.specs.declared.replies.CapsuleRefusal.{CapsuleRefusal}
use Rattle.capsule_frames.specs.declared.replies.CapsuleRefusal.TheVariants.{NoKey, NeedSecret, NoAsk, NoAnswer, Short, Header, NonceSize, Failed}
use Rattle.capsule_frames.specs.Results.{SentView, GivenView}

-- the refusals of a message by their names here. Want of memory is no refusal, and no definition
-- gives it
abbrev pub refusal_of : CapsuleFault → CapsuleRefusal
refusal_of faults.Short = Short
refusal_of faults.Header = Header
refusal_of faults.NonceSize = NonceSize
refusal_of faults.Failed = Failed
refusal_of faults.OutOfMemory = Failed

-- what an earlier line of one kind left, by its number, where it wasn't refused
abbrev pub left_in : {A : Type 0} → Option (Result A CapsuleRefusal) → Option A
left_in (Some (Ok a)) = Some a
left_in (Some (Err refusal)) = None
left_in None = None

abbrev pub left_by : {A : Type 0} → List (Result A CapsuleRefusal) → ℕ → Option A
left_by results number = left_in (slice_get results number)

-- ---- an ask

-- a request to a public key, with r drawn from these words
abbrev pub sent_to : Kem → List ℕ → ℕ → Kdf → Aead → (ℕ → ℕ) → List ℕ → SentView
sent_to kem public id kdf aead word text =
    let suite : Suite = record { kem = kem.id; kdf = kdf; aead = aead } in
    let asked = asked_with id suite kem.set public (drawn_r kem.set word 0) in
    record { asked = asked; request = encapsulated_request id asked text }

abbrev pub sent_by : Option KeyView → ℕ → Kdf → Aead → (ℕ → ℕ) → List ℕ
    → Result SentView CapsuleRefusal
sent_by None id kdf aead word text = Err NoKey
sent_by (Some key) id kdf aead word text = Ok (sent_to key.kem key.public id kdf aead word text)

-- what becomes of the ask of this number. It draws from the stream of the context of its number
unfoldable pub sent : Plan → List KeyReply → ℕ → ℕ → ℕ → Kdf → Aead → Span
    → Result SentView CapsuleRefusal
sent plan keys number key id kdf aead text =
    sent_by (key_at plan keys key) id kdf aead (context_words plan number)
    (span_bytes plan.pool text)

-- ---- an answer

-- the request that an ask made
abbrev pub request_of : Option SentView → Option (List ℕ)
request_of None = None
request_of (Some sent) = Some sent.request

-- REQ: bytes of the line, or the request of an earlier ask
abbrev pub request_at : List ℕ → List (Result SentView CapsuleRefusal) → EncField
    → Option (List ℕ)
request_at pool asks (Bytes bytes) = Some (span_bytes pool bytes)
request_at pool asks (Of number) = request_of (left_by asks number)

abbrev pub given_of : Result (List ℕ × List ℕ) CapsuleFault → Result GivenView CapsuleRefusal
given_of (Ok answer) = Ok (record { text = answer.0; response = answer.1 })
given_of (Err fault) = Err (refusal_of fault)

-- by a key of this KEM, where its secret half is known and the request is found
abbrev pub given_with : Kem → Option (List ℕ) → ℕ → Option (List ℕ) → List ℕ → List ℕ
    → Result GivenView CapsuleRefusal
given_with kem None id request nonce text = Err NeedSecret
given_with kem (Some secret) id None nonce text = Err NoAsk
given_with kem (Some secret) id (Some request) nonce text =
    given_of (answered kem.set kem.id secret id request nonce text)

abbrev pub given_by : Option KeyView → ℕ → Option (List ℕ) → List ℕ → List ℕ
    → Result GivenView CapsuleRefusal
given_by None id request nonce text = Err NoKey
given_by (Some key) id request nonce text = given_with key.kem key.secret id request nonce text

-- what becomes of an answer, after these asks
unfoldable pub given : Plan → List KeyReply → List (Result SentView CapsuleRefusal) → ℕ → ℕ
    → EncField → Span → Span → Result GivenView CapsuleRefusal
given plan keys asks key id request nonce text =
    given_by (key_at plan keys key) id (request_at plan.pool asks request)
    (span_bytes plan.pool nonce) (span_bytes plan.pool text)

-- ---- a take

-- the response that an answer gave
abbrev pub response_of : Option GivenView → Option (List ℕ)
response_of None = None
response_of (Some given) = Some given.response

-- RESP: bytes of the line, or the response of an earlier answer
abbrev pub response_at : List ℕ → List (Result GivenView CapsuleRefusal) → EncField
    → Option (List ℕ)
response_at pool answers (Bytes bytes) = Some (span_bytes pool bytes)
response_at pool answers (Of number) = response_of (left_by answers number)

abbrev pub took_of : Result (List ℕ) CapsuleFault → Result (List ℕ) CapsuleRefusal
took_of (Ok text) = Ok text
took_of (Err fault) = Err (refusal_of fault)

abbrev pub took_by : Option SentView → Option (List ℕ) → Result (List ℕ) CapsuleRefusal
took_by None response = Err NoAsk
took_by (Some sent) None = Err NoAnswer
took_by (Some sent) (Some response) = took_of (taken sent.asked response)

-- what becomes of a take, after these asks and answers
unfoldable pub took : Plan → List (Result SentView CapsuleRefusal)
    → List (Result GivenView CapsuleRefusal) → ℕ → EncField → Result (List ℕ) CapsuleRefusal
took plan asks answers ask response =
    took_by (left_by asks ask) (response_at plan.pool answers response)
