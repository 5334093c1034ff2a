-- What is said of the replies to capsules: there is one list of them, and a whole exchange gives each
-- end the other's text.
use Rattle.std.specs.Prelude.{◌≡◌, ℕ, ◌<◌, List, length, take, Some, slice_get}
use Rattle.call_places.specs.declared.spans.Span.{Span}
use Rattle.call_places.specs.Spans.{span_bytes}
use Rattle.hkdf_labelled.specs.declared.suites.Kdf.{Kdf}
use Rattle.hkdf_labelled.specs.declared.suites.Aead.{Aead}
use Rattle.ohttp_capsule.specs.Responses.{entropy_size}
use Rattle.batch_plans.specs.declared.plan.EncField.TheVariants.{Of}
use Rattle.batch_plans.specs.declared.replies.KeyReply.{KeyReply}
use Rattle.batch_plans.specs.declared.replies.KeyReply.TheVariants.{Generated}
use Rattle.capsule_frames.specs.declared.words.CapsuleWord.{CapsuleWord}
use Rattle.capsule_frames.specs.declared.words.CapsuleWord.TheVariants as words
use Rattle.capsule_frames.specs.declared.lines.CapsuleLine.TheVariants.{Ask, Answer, Take}
use Rattle.capsule_frames.specs.declared.lines.CapsulePlan.{CapsulePlan}
use Rattle.capsule_frames.specs.declared.replies.CapsuleReply.{CapsuleReply}
use Rattle.capsule_frames.specs.declared.replies.CapsuleReply.TheVariants.{Answered, Took}
use Rattle.capsule_frames.specs.Capsules.{count_of}
use Rattle.capsule_frames.specs.Within.{IsWithin}
use Rattle.capsule_frames.specs.Replies.{AreReplies, IsCapsuleReply}

-- ---- one reply

abbrev pub OneReply : Type 0
OneReply =
    (p : CapsulePlan) (keys keys' : List KeyReply) (replies replies' : List CapsuleReply)
    → AreReplies p keys replies → AreReplies p keys' replies'
    → (keys ≡ keys') × (replies ≡ replies')

abbrev pub OneText : Type 0
OneText =
    (p : CapsulePlan) (text text' : List ℕ) → IsCapsuleReply p text → IsCapsuleReply p text'
    → text ≡ text'

-- ---- a whole exchange. Capsule lines stand at places from 0 on

-- the number of the line at a place among those of its kind: how many of them stand before it
abbrev pub number_at : CapsuleWord → CapsulePlan → ℕ → ℕ
number_at word p place = count_of word (take place p.lines)

-- the line at i asks with a key that was generated, and the line at j, behind it, answers that ask
-- with the same key and identifier, and with a nonce of entropy_len bytes
pub record IsExchange (p : CapsulePlan) (keys : List KeyReply) (i j : ℕ) (question reply : Span)
    : Type 0 where
  pub key : ℕ
  pub id : ℕ
  pub kdf : Kdf
  pub aead : Aead
  pub nonce : Span
  pub public : List ℕ
  pub secret : List ℕ
  pub generated : slice_get keys key ≡ Some (Generated public secret)
  pub asks : slice_get p.lines i ≡ Some (Ask key id kdf aead question)
  pub later : i < j
  pub answers :
      slice_get p.lines j ≡ Some (Answer key id (Of (number_at words.Ask p i)) nonce reply)
  pub nonce_size : length (span_bytes p.plan.pool nonce) ≡ entropy_size aead

-- the line at t, behind both, takes that answer to that ask
pub record TakesAnswer (p : CapsulePlan) (i j t : ℕ) : Type 0 where
  pub later : j < t
  pub takes :
      slice_get p.lines t
      ≡ Some (Take (number_at words.Ask p i) (Of (number_at words.Answer p j)))

-- the ask is answered with its text, and each line that takes the answer takes its text
pub record IsCarried (p : CapsulePlan) (replies : List CapsuleReply) (i j : ℕ)
    (question reply : Span) : Type 0 where
  pub response : List ℕ
  pub answered : slice_get replies j ≡ Some (Answered (span_bytes p.plan.pool question) response)
  pub taken : (t : ℕ) → TakesAnswer p i j t
      → slice_get replies t ≡ Some (Took (span_bytes p.plan.pool reply))

abbrev pub WholeExchanges : Type 0
WholeExchanges =
    (p : CapsulePlan) (keys : List KeyReply) (replies : List CapsuleReply) (i j : ℕ)
    (question reply : Span)
    → IsWithin p → AreReplies p keys replies → IsExchange p keys i j question reply
    → IsCarried p replies i j question reply
