-- What is said of the set-up: there is one, of the keys and of the whole, and the two ends of an
-- exchange match. And what any two replies to a plan have alike.
use Rattle.std.specs.Prelude.{◌≡◌, ℕ, ◌+◌, ◌<◌, ◌≤◌, List, [], ◌∷◌, map, length, Option, Some, slice_get}
use Rattle.call_places.specs.Spans.{span_bytes}
use Rattle.hpke_context.specs.Answers.{Item, Seal, Unseal, Answer, Sealed_at, Opened_at, run}
use Rattle.hpke_context.specs.Contexts.{ContextView, cipher_of}
use Rattle.hpke_context.specs.Calls.{HasCipher}
use Rattle.key_schedule.specs.declared.modes.Role.TheVariants as roles
use Rattle.batch_plans.specs.declared.plan.Plan.{Plan}
use Rattle.batch_plans.specs.declared.plan.EncField.{EncField}
use Rattle.batch_plans.specs.declared.plan.EncField.TheVariants.{Bytes, Of}
use Rattle.batch_plans.specs.declared.plan.ContextKind.TheVariants.{Send, Recv}
use Rattle.batch_plans.specs.declared.plan.ContextLine.{ContextLine}
use Rattle.batch_plans.specs.declared.replies.KeyReply.{KeyReply}
use Rattle.batch_plans.specs.declared.replies.KeyReply.TheVariants.{Generated}
use Rattle.batch_plans.specs.declared.replies.ContextReply.{ContextReply}
use Rattle.batch_plans.specs.declared.replies.ContextReply.TheVariants.{Sender}
use Rattle.batch_plans.specs.Within.{IsPlain, IsWithinLimits}
use Rattle.context_books.specs.Live.{LiveRun, live_run_along, live_call_lines}
use Rattle.context_books.specs.Runs.{Run, run_along, call_lines, run_lines}
use Rattle.context_books.specs.Sharing.{NoTwoLanesSeal, NoTwoLanesMeet, SealsAlike, DifferInGuesses}
use Rattle.context_table.specs.SetUp.{IsKeySetUp, IsSetUp}
use Rattle.context_table.specs.ReplyTo.{IsReply, IsLiveReply}

abbrev pub OneKeySetUp : Type 0
OneKeySetUp =
    (plan : Plan) (keys keys' : List KeyReply) → IsKeySetUp plan keys → IsKeySetUp plan keys'
    → keys ≡ keys'

abbrev pub OneSetUp : Type 0
OneSetUp =
    (plan : Plan) (keys keys' : List KeyReply) (contexts contexts' : List ContextReply)
    (standing standing' : List (Option ContextView))
    → IsSetUp plan keys contexts standing → IsSetUp plan keys' contexts' standing'
    → (keys ≡ keys') × (contexts ≡ contexts') × (standing ≡ standing')

-- ---- the two ends

-- ENC is the encapsulation of sender s in the line of context t: its number, which is below t, or
-- its bytes
abbrev pub NamesEnc : List ℕ → ℕ → ℕ → List ℕ → EncField → Type 0
NamesEnc pool s t enc (Of number) = (number ≡ s) × (s < t)
NamesEnc pool s t enc (Bytes bytes) = span_bytes pool bytes ≡ enc

-- two lines give the same to the key schedule, but for the shared secret
pub record AskAlike (pool : List ℕ) (sender recipient : ContextLine) : Type 0 where
  pub kdf : recipient.kdf ≡ sender.kdf
  pub aead : recipient.aead ≡ sender.aead
  pub mode : recipient.mode ≡ sender.mode
  pub info : span_bytes pool recipient.info ≡ span_bytes pool sender.info
  pub psk : span_bytes pool recipient.psk ≡ span_bytes pool sender.psk
  pub psk_id : span_bytes pool recipient.psk_id ≡ span_bytes pool sender.psk_id

-- key k was generated, context s sends to it and stands, and the line of context t receives with it
-- what s sent
pub record AreEnds (plan : Plan) (keys : List KeyReply) (contexts : List ContextReply) (k s t : ℕ)
    (sender recipient : ContextLine) : Type 0 where
  pub public : List ℕ
  pub secret : List ℕ
  pub enc : List ℕ
  pub field : EncField
  pub generated : slice_get keys k ≡ Some (Generated public secret)
  pub sender_is : slice_get plan.contexts s ≡ Some sender
  pub recipient_is : slice_get plan.contexts t ≡ Some recipient
  pub sends : sender.kind ≡ Send k
  pub receives : recipient.kind ≡ Recv k field
  pub stands : slice_get contexts s ≡ Some (Sender enc)
  pub names : NamesEnc plan.pool s t enc field
  pub alike : AskAlike plan.pool sender recipient

-- a plaintext with its associated data
pub record Message : Type 0 where
  pub aad : List ℕ
  pub text : List ℕ

abbrev pub to_seal : Message → Item
to_seal message = Seal message.aad message.text

-- each ciphertext is to be opened with the associated data of its message
abbrev pub to_open : List Message → List (List ℕ) → List Item
to_open [] cts = []
to_open (message ∷ messages) [] = []
to_open (message ∷ messages) (ct ∷ cts) = Unseal message.aad ct ∷ to_open messages cts

-- the answers that give these ciphertexts, and those that give the plaintexts, at the numbers from
-- this one on
abbrev pub sealed_from : ℕ → List (List ℕ) → List Answer
sealed_from n [] = []
sealed_from n (ct ∷ cts) = Sealed_at n ct ∷ sealed_from (n + 1) cts

abbrev pub opened_from : ℕ → List Message → List Answer
opened_from n [] = []
opened_from n (message ∷ messages) = Opened_at n message.text ∷ opened_from (n + 1) messages

-- the messages that the sender sealed from number n on are opened in their order, each to its
-- plaintext, as long as their numbers are below the recipient's LIMIT
abbrev pub OpensInOrder : ContextView → ContextView → Type 0
OpensInOrder sender recipient =
    (n : ℕ) (messages : List Message) (cts : List (List ℕ))
    → run (cipher_of sender) n (map to_seal messages) ≡ sealed_from n cts
    → n + length messages ≤ recipient.limit
    → run (cipher_of recipient) n (to_open messages cts) ≡ opened_from n messages

-- the contexts of both ends stand, and have the same secrets
pub record Match (standing : List (Option ContextView)) (s t : ℕ) : Type 0 where
  pub sender : ContextView
  pub recipient : ContextView
  pub sender_stands : slice_get standing s ≡ Some (Some sender)
  pub recipient_stands : slice_get standing t ≡ Some (Some recipient)
  pub role : recipient.role ≡ roles.Recipient
  pub suite : recipient.suite ≡ sender.suite
  pub secrets : recipient.secrets ≡ sender.secrets
  pub opens : HasCipher recipient → OpensInOrder sender recipient

abbrev pub EndsMatch : Type 0
EndsMatch =
    (plan : Plan) (keys : List KeyReply) (contexts : List ContextReply)
    (standing : List (Option ContextView)) (k s t : ℕ) (sender recipient : ContextLine)
    → IsSetUp plan keys contexts standing
    → AreEnds plan keys contexts k s t sender recipient
    → Match standing s t

-- ---- any two replies to a plan

-- the run along whose journals and guesses a text replies
abbrev pub run_in : (plan : Plan) (text : List ℕ) → IsReply plan text → Run
run_in plan text reply = run_along plan reply.standing reply.journals reply.guesses

-- the same of a plan whose lanes add and retire contexts
abbrev pub live_run_in : (plan : Plan) (text : List ℕ) → IsLiveReply plan text → LiveRun
live_run_in plan text reply =
    live_run_along plan reply.contexts reply.standing reply.journals reply.guesses reply.notes

-- the lines of the text: it is these, joined
abbrev pub lines_in : (plan : Plan) (text : List ℕ) → IsReply plan text → List (List ℕ)
lines_in plan text reply = run_lines reply.keys reply.contexts (run_in plan text reply)

-- where no two lanes seal on one context, they answer each seal alike
abbrev pub SealsStay : Type 0
SealsStay =
    (plan : Plan) (text other : List ℕ) (a : IsReply plan text) (b : IsReply plan other)
    → IsPlain plan → NoTwoLanesSeal plan
    → SealsAlike plan (call_lines (run_in plan text a)) (call_lines (run_in plan other b))

-- and so do those to a plan whose lanes add and retire contexts
abbrev pub LiveSealsStay : Type 0
LiveSealsStay =
    (plan : Plan) (text other : List ℕ) (a : IsLiveReply plan text) (b : IsLiveReply plan other)
    → IsWithinLimits plan → NoTwoLanesSeal plan
    → SealsAlike plan (live_call_lines (live_run_in plan text a))
    (live_call_lines (live_run_in plan other b))

-- where no two lanes seal or open on one context, those of version 1 differ in lines `batch G M` alone
abbrev pub RepliesStay : Type 0
RepliesStay =
    (plan : Plan) (text other : List ℕ) (a : IsReply plan text) (b : IsReply plan other)
    → plan.version ≡ 1 → IsPlain plan → NoTwoLanesMeet plan
    → DifferInGuesses (lines_in plan text a) (lines_in plan other b)
