-- ---- for the proofs: the lines in the order in which they are done, all asks, then all answers,
-- then all takes
use Rattle.std.specs.Prelude.{◌≡◌, ℕ, ◌+◌, List, [], ◌∷◌, take, Option, Some, None, Result, IfOk, slice_get}
use Rattle.batch_plans.specs.Limits.{most_field}
use Rattle.batch_plans.specs.Within.{IsField}
use Rattle.batch_plans.specs.declared.plan.Plan.{Plan}
use Rattle.batch_plans.specs.declared.replies.KeyReply.{KeyReply}
use Rattle.capsule_frames.specs.Forms.{most_text, most_request}
use Rattle.capsule_frames.specs.Within.{IsMessageWithin}
use Rattle.capsule_frames.specs.declared.lines.CapsuleLine.{CapsuleLine}
use Rattle.capsule_frames.specs.declared.lines.CapsuleLine.TheVariants.{Ask, Answer, Take}
use Rattle.capsule_frames.specs.declared.replies.CapsuleRefusal.{CapsuleRefusal}
use Rattle.capsule_frames.specs.declared.replies.CapsuleReply.{CapsuleReply}
use Rattle.capsule_frames.specs.declared.jobs.AnswerJob.{AnswerJob}
use Rattle.capsule_frames.specs.Results.{SentView, GivenView}
use Rattle.capsule_frames.specs.Lines.{sent, given, took}
use Rattle.capsule_frames.specs.Replies.{asked_reply, answered_reply, took_reply}

-- what becomes of the asks among lines, numbered from n on
abbrev pub asks_from : Plan → List KeyReply → ℕ → List CapsuleLine
    → List (Result SentView CapsuleRefusal)
asks_from plan keys n [] = []
asks_from plan keys n (Ask key id kdf aead text ∷ lines) =
    sent plan keys n key id kdf aead text ∷ asks_from plan keys (n + 1) lines
asks_from plan keys n (Answer key id request nonce text ∷ lines) = asks_from plan keys n lines
asks_from plan keys n (Take ask response ∷ lines) = asks_from plan keys n lines

-- the answers among lines, each with the number of asks before it, where n asks are before them all
abbrev pub jobs_from : ℕ → List CapsuleLine → List AnswerJob
jobs_from n [] = []
jobs_from n (Ask key id kdf aead text ∷ lines) = jobs_from (n + 1) lines
jobs_from n (Answer key id request nonce text ∷ lines) =
    record { key = key; id = id; request = request; nonce = nonce; text = text; asks = n }
    ∷ jobs_from n lines
jobs_from n (Take ask response ∷ lines) = jobs_from n lines

-- the fields of a job over a pool of this length
pub record IsJobWithin (pool : ℕ) (job : AnswerJob) : Type 0 where
  pub request : IsMessageWithin most_request pool job.request
  pub nonce : IsField most_field pool job.nonce
  pub text : IsField most_text pool job.text

-- what becomes of one of them
abbrev pub given_for : Plan → List KeyReply → List (Result SentView CapsuleRefusal) → AnswerJob
    → Result GivenView CapsuleRefusal
given_for plan keys asks job =
    given plan keys (take job.asks asks) job.key job.id job.request job.nonce job.text

-- each slot holds what becomes of its job, unless memory ran out
abbrev pub AreGiven : {E : Type 0} → (AnswerJob → Result GivenView CapsuleRefusal)
    → List AnswerJob → List (Result (Result GivenView CapsuleRefusal) E) → Type 0
AreGiven {E} given_for jobs slots =
    (i : ℕ) (job : AnswerJob) (slot : Result (Result GivenView CapsuleRefusal) E)
    → slice_get jobs i ≡ Some job → slice_get slots i ≡ Some slot
    → IfOk slot (λ now. now ≡ given_for job)

-- what becomes of the takes among lines, where n asks and m answers are before them all
abbrev pub takes_from : Plan → List (Result SentView CapsuleRefusal)
    → List (Result GivenView CapsuleRefusal) → ℕ → ℕ → List CapsuleLine
    → List (Result (List ℕ) CapsuleRefusal)
takes_from plan asks answers n m [] = []
takes_from plan asks answers n m (Ask key id kdf aead text ∷ lines) =
    takes_from plan asks answers (n + 1) m lines
takes_from plan asks answers n m (Answer key id request nonce text ∷ lines) =
    takes_from plan asks answers n (m + 1) lines
takes_from plan asks answers n m (Take ask response ∷ lines) =
    took plan (take n asks) (take m answers) ask response
    ∷ takes_from plan asks answers n m lines

-- the replies behind one, where there is one
abbrev pub followed : Option CapsuleReply → List CapsuleReply → List CapsuleReply
followed None replies = []
followed (Some reply) replies = reply ∷ replies

-- the replies in the order of the lines, as far as there are results of each kind
abbrev pub merged : List CapsuleLine → List (Result SentView CapsuleRefusal)
    → List (Result GivenView CapsuleRefusal) → List (Result (List ℕ) CapsuleRefusal)
    → List CapsuleReply
merged [] asks answers takes = []
merged (Ask key id kdf aead text ∷ lines) [] answers takes = []
merged (Ask key id kdf aead text ∷ lines) (now ∷ asks) answers takes =
    asked_reply now ∷ merged lines asks answers takes
merged (Answer key id request nonce text ∷ lines) asks [] takes = []
merged (Answer key id request nonce text ∷ lines) asks (now ∷ answers) takes =
    answered_reply now ∷ merged lines asks answers takes
merged (Take ask response ∷ lines) asks answers [] = []
merged (Take ask response ∷ lines) asks answers (now ∷ takes) =
    took_reply now ∷ merged lines asks answers takes
