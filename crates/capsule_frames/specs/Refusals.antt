-- When a capsule line is refused, by facts: the first cause that applies. Capsule lines stand at
-- places from 0 on.
use Rattle.std.specs.Prelude.{◌≡◌, ◌≢◌, ◌↔◌, ℕ, ◌<◌, List, Some, None, Ok, slice_get}
use Rattle.call_places.specs.declared.spans.Span.{Span}
use Rattle.call_places.specs.Spans.{span_bytes}
use Rattle.hkdf_labelled.specs.declared.suites.Kdf.{Kdf}
use Rattle.hkdf_labelled.specs.declared.suites.Aead.{Aead}
use Rattle.batch_plans.specs.declared.plan.EncField.{EncField}
use Rattle.batch_plans.specs.declared.plan.EncField.TheVariants.{Bytes, Of}
use Rattle.batch_plans.specs.declared.replies.KeyReply.{KeyReply}
use Rattle.context_table.specs.Keys.{Kem, KeyView, key_at}
use Rattle.ohttp_capsule.specs.Refusals.{IsShortRequest, HasOtherHeader, HasOtherNonce, DoesNotOpen, IsShortResponse, IsOfNoExchange}
use Rattle.capsule_frames.specs.declared.words.CapsuleWord.TheVariants as words
use Rattle.capsule_frames.specs.declared.lines.CapsuleLine.TheVariants.{Ask, Answer, Take}
use Rattle.capsule_frames.specs.declared.lines.CapsulePlan.{CapsulePlan}
use Rattle.capsule_frames.specs.declared.replies.CapsuleRefusal.{CapsuleRefusal}
use Rattle.capsule_frames.specs.declared.replies.CapsuleRefusal.TheVariants.{NoKey, NeedSecret, NoAsk, NoAnswer, Short, Header, NonceSize, Failed}
use Rattle.capsule_frames.specs.declared.replies.CapsuleReply.{CapsuleReply}
use Rattle.capsule_frames.specs.declared.replies.CapsuleReply.TheVariants.{Answered, Refused}
use Rattle.capsule_frames.specs.Results.{SentView}
use Rattle.capsule_frames.specs.Lines.{sent}
use Rattle.capsule_frames.specs.Replies.{AreReplies}
use Rattle.capsule_frames.specs.Laws.{number_at}

-- the line at a place is refused for this
abbrev pub IsRefused : List CapsuleReply → ℕ → CapsuleRefusal → Type 0
IsRefused replies i refusal = slice_get replies i ≡ Some (Refused refusal)

-- ---- earlier lines

-- the ask of this number stands before place i, isn't refused, and leaves its client this
pub record Made (p : CapsulePlan) (keys : List KeyReply) (i number : ℕ) (client : SentView)
    : Type 0 where
  pub at : ℕ
  pub earlier : at < i
  pub number_is : number_at words.Ask p at ≡ number
  pub key : ℕ
  pub id : ℕ
  pub kdf : Kdf
  pub aead : Aead
  pub text : Span
  pub line_is : slice_get p.lines at ≡ Some (Ask key id kdf aead text)
  pub made : sent p.plan keys number key id kdf aead text ≡ Ok client

-- the answer of this number stands before place i, isn't refused, and gives this response
pub record Gave (p : CapsulePlan) (replies : List CapsuleReply) (i number : ℕ) (response : List ℕ)
    : Type 0 where
  pub at : ℕ
  pub earlier : at < i
  pub number_is : number_at words.Answer p at ≡ number
  pub text : List ℕ
  pub gave : slice_get replies at ≡ Some (Answered text response)

-- REQ of the line at place i is this request: its bytes, or what an earlier ask made
abbrev pub IsRequest : CapsulePlan → List KeyReply → ℕ → EncField → List ℕ → Type 0
IsRequest p keys i (Bytes bytes) request = span_bytes p.plan.pool bytes ≡ request
IsRequest p keys i (Of number) request =
    (client : SentView) × Made p keys i number client × (client.request ≡ request)

-- RESP of the line at place i is this response: its bytes, or what an earlier answer gave
abbrev pub IsResponse : CapsulePlan → List CapsuleReply → ℕ → EncField → List ℕ → Type 0
IsResponse p replies i (Bytes bytes) response = span_bytes p.plan.pool bytes ≡ response
IsResponse p replies i (Of number) response = Gave p replies i number response

-- ---- the causes

-- an ask is refused where there is no key of its number that stands, and else never
pub record AskCauses (p : CapsulePlan) (keys : List KeyReply) (replies : List CapsuleReply)
    (i key : ℕ) : Type 0 where
  pub nokey : IsRefused replies i NoKey ↔ (key_at p.plan keys key ≡ None)
  pub others : (refusal : CapsuleRefusal) → refusal ≢ NoKey → ¬ IsRefused replies i refusal

-- the secret half of a key is known
abbrev pub HasSecret : CapsulePlan → List KeyReply → ℕ → Kem → List ℕ → Type 0
HasSecret p keys key kem secret =
    (view : KeyView)
    × (key_at p.plan keys key ≡ Some view)
    × (view.kem ≡ kem)
    × (view.secret ≡ Some secret)

-- a request reaches the holder of such a key, and this is so of them
abbrev pub Reaches : CapsulePlan → List KeyReply → ℕ → ℕ → EncField
    → (Kem → List ℕ → List ℕ → Type 0) → Type 0
Reaches p keys i key field P =
    (kem : Kem)
    × (secret : List ℕ)
    × (request : List ℕ)
    × HasSecret p keys key kem secret
    × IsRequest p keys i field request
    × P kem secret request

-- each refusal of an answer, by its cause
pub record AnswerCauses (p : CapsulePlan) (keys : List KeyReply) (replies : List CapsuleReply)
    (i key id : ℕ) (field : EncField) (nonce : List ℕ) : Type 0 where
  pub nokey : IsRefused replies i NoKey ↔ (key_at p.plan keys key ≡ None)
  pub needsecret :
      IsRefused replies i NeedSecret
      ↔ ((view : KeyView) × (key_at p.plan keys key ≡ Some view) × (view.secret ≡ None))
  pub noask :
      IsRefused replies i NoAsk
      ↔ ((kem : Kem)
      × (secret : List ℕ)
      × HasSecret p keys key kem secret
      × ((request : List ℕ) → ¬ IsRequest p keys i field request))
  pub noanswer : ¬ IsRefused replies i NoAnswer
  pub short :
      IsRefused replies i Short
      ↔ Reaches p keys i key field (λ kem secret request. IsShortRequest kem.set request)
  pub header :
      IsRefused replies i Header
      ↔ Reaches p keys i key field (λ kem secret request. HasOtherHeader kem.set kem.id id request)
  pub noncesize :
      IsRefused replies i NonceSize
      ↔ Reaches p keys i key field
      (λ kem secret request. HasOtherNonce kem.set kem.id id request nonce)
  pub failed :
      IsRefused replies i Failed
      ↔ Reaches p keys i key field
      (λ kem secret request. DoesNotOpen kem.set kem.id secret id request nonce)

-- a response reaches the client of such an ask, and this is so of them
abbrev pub Returns : CapsulePlan → List KeyReply → List CapsuleReply → ℕ → ℕ → EncField
    → (SentView → List ℕ → Type 0) → Type 0
Returns p keys replies i ask field P =
    (client : SentView)
    × (response : List ℕ)
    × Made p keys i ask client
    × IsResponse p replies i field response
    × P client response

-- each refusal of a take, by its cause
pub record TakeCauses (p : CapsulePlan) (keys : List KeyReply) (replies : List CapsuleReply)
    (i ask : ℕ) (field : EncField) : Type 0 where
  pub noask : IsRefused replies i NoAsk ↔ ((client : SentView) → ¬ Made p keys i ask client)
  pub noanswer :
      IsRefused replies i NoAnswer
      ↔ ((client : SentView)
      × Made p keys i ask client
      × ((response : List ℕ) → ¬ IsResponse p replies i field response))
  pub short :
      IsRefused replies i Short
      ↔ Returns p keys replies i ask field
      (λ client response. IsShortResponse client.asked response)
  pub failed :
      IsRefused replies i Failed
      ↔ Returns p keys replies i ask field
      (λ client response. IsOfNoExchange client.asked response)
  pub nokey : ¬ IsRefused replies i NoKey
  pub needsecret : ¬ IsRefused replies i NeedSecret
  pub header : ¬ IsRefused replies i Header
  pub noncesize : ¬ IsRefused replies i NonceSize

-- ---- the laws

abbrev pub AsksHaveCauses : Type 0
AsksHaveCauses =
    (p : CapsulePlan) (keys : List KeyReply) (replies : List CapsuleReply) (i key id : ℕ) (kdf : Kdf)
    (aead : Aead) (text : Span)
    → AreReplies p keys replies → slice_get p.lines i ≡ Some (Ask key id kdf aead text)
    → AskCauses p keys replies i key

abbrev pub AnswersHaveCauses : Type 0
AnswersHaveCauses =
    (p : CapsulePlan) (keys : List KeyReply) (replies : List CapsuleReply) (i key id : ℕ)
    (field : EncField) (nonce text : Span)
    → AreReplies p keys replies → slice_get p.lines i ≡ Some (Answer key id field nonce text)
    → AnswerCauses p keys replies i key id field (span_bytes p.plan.pool nonce)

abbrev pub TakesHaveCauses : Type 0
TakesHaveCauses =
    (p : CapsulePlan) (keys : List KeyReply) (replies : List CapsuleReply) (i ask : ℕ)
    (field : EncField)
    → AreReplies p keys replies → slice_get p.lines i ≡ Some (Take ask field)
    → TakeCauses p keys replies i ask field
