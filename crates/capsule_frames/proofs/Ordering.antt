-- All asks, then all answers, then all takes give what the lines give in their order.
use Rattle.std.proofs.Common.{◌≡◌, ℕ, ◌+◌, List, [], ◌∷◌, ◌++◌, length, take, map, Result, refl, sym, ap, ◌∙◌, append_assoc}
use Rattle.std.proofs.lemmas.List.{take_at, length_push}
use Rattle.call_places.specs.declared.spans.Span.{Span}
use Rattle.hkdf_labelled.specs.declared.suites.Kdf.{Kdf}
use Rattle.hkdf_labelled.specs.declared.suites.Aead.{Aead}
use Rattle.batch_plans.specs.declared.plan.Plan.{Plan}
use Rattle.batch_plans.specs.declared.plan.EncField.{EncField}
use Rattle.batch_plans.specs.declared.replies.KeyReply.{KeyReply}
use Rattle.capsule_frames.specs.declared.lines.CapsuleLine.{CapsuleLine}
use Rattle.capsule_frames.specs.declared.lines.CapsuleLine.TheVariants.{Ask, Answer, Take}
use Rattle.capsule_frames.specs.declared.lines.CapsulePlan.{CapsulePlan}
use Rattle.capsule_frames.specs.declared.replies.CapsuleRefusal.{CapsuleRefusal}
use Rattle.capsule_frames.specs.declared.replies.CapsuleReply.{CapsuleReply}
use Rattle.capsule_frames.specs.declared.jobs.AnswerJob.{AnswerJob}
use Rattle.capsule_frames.specs.Results.{SentView, GivenView}
use Rattle.capsule_frames.specs.Lines.{sent, given, took}
use Rattle.capsule_frames.specs.Replies.{Done, nothing_done, asked_reply, answered_reply, took_reply, done_with, replies_after, due_replies}
use Rattle.capsule_frames.specs.Orders.{asks_from, jobs_from, given_for, takes_from, merged}

-- d is done, these lines are left, and all asks and all answers are known
pub record At (plan : Plan) (keys : List KeyReply) (asks : List (Result SentView CapsuleRefusal))
    (answers : List (Result GivenView CapsuleRefusal)) (d : Done) (n m : ℕ)
    (lines : List CapsuleLine) : Type 0 where
  pub ask_count : length d.asks ≡ n
  pub answer_count : length d.answers ≡ m
  pub asks_are : asks ≡ d.asks ++ asks_from plan keys n lines
  pub answers_are : answers ≡ d.answers ++ map (given_for plan keys asks) (jobs_from n lines)

-- one more at the end of what is done
pushed : {X : Type 0} (all front : List X) (x y : X) (rest : List X) → all ≡ front ++ x ∷ rest → x ≡ y
    → all ≡ (front ++ y ∷ []) ++ rest
pushed all front x y rest e same =
    e ∙ ap (λ z. front ++ z ∷ rest) same ∙ sym (append_assoc front (y ∷ []) rest)

after_ask : (plan : Plan) (keys : List KeyReply) (asks : List (Result SentView CapsuleRefusal))
    (answers : List (Result GivenView CapsuleRefusal)) (d : Done) (n m : ℕ) (key id : ℕ) (kdf : Kdf)
    (aead : Aead) (text : Span) (lines : List CapsuleLine)
    → At plan keys asks answers d n m (Ask key id kdf aead text ∷ lines)
    → At plan keys asks answers (done_with plan keys d (Ask key id kdf aead text)) (n + 1) m lines
after_ask plan keys asks answers d n m key id kdf aead text lines at = record {
  ask_count = length_push d.asks (sent plan keys (length d.asks) key id kdf aead text)
      ∙ ap (λ k. k + 1) at.ask_count;
  answer_count = at.answer_count;
  asks_are = pushed asks d.asks (sent plan keys n key id kdf aead text)
      (sent plan keys (length d.asks) key id kdf aead text) (asks_from plan keys (n + 1) lines)
      at.asks_are (ap (λ k. sent plan keys k key id kdf aead text) (sym at.ask_count));
  answers_are = at.answers_are;
}

-- the asks that are done are the first of all
asks_before : (plan : Plan) (keys : List KeyReply) (asks : List (Result SentView CapsuleRefusal))
    (answers : List (Result GivenView CapsuleRefusal)) (d : Done) (n m : ℕ)
    (lines : List CapsuleLine)
    → At plan keys asks answers d n m lines → take n asks ≡ d.asks
asks_before plan keys asks answers d n m lines at =
    ap (take n) at.asks_are ∙ take_at d.asks (asks_from plan keys n lines) n at.ask_count

answers_before : (plan : Plan) (keys : List KeyReply)
    (asks : List (Result SentView CapsuleRefusal))
    (answers : List (Result GivenView CapsuleRefusal)) (d : Done) (n m : ℕ)
    (lines : List CapsuleLine)
    → At plan keys asks answers d n m lines → take m answers ≡ d.answers
answers_before plan keys asks answers d n m lines at =
    ap (take m) at.answers_are
    ∙ take_at d.answers (map (given_for plan keys asks) (jobs_from n lines)) m at.answer_count

-- an answer line as a job
abbrev pub job_of : ℕ → ℕ → ℕ → EncField → Span → Span → AnswerJob
job_of n key id request nonce text =
    record { key = key; id = id; request = request; nonce = nonce; text = text; asks = n }

-- what its job gives is what the line gives in its order
given_now : (plan : Plan) (keys : List KeyReply) (asks : List (Result SentView CapsuleRefusal))
    (answers : List (Result GivenView CapsuleRefusal)) (d : Done) (n m : ℕ) (key id : ℕ)
    (request : EncField) (nonce text : Span) (lines : List CapsuleLine)
    → At plan keys asks answers d n m (Answer key id request nonce text ∷ lines)
    → given_for plan keys asks (job_of n key id request nonce text)
    ≡ given plan keys d.asks key id request nonce text
given_now plan keys asks answers d n m key id request nonce text lines at =
    ap (λ (before : List (Result SentView CapsuleRefusal)).
    given plan keys before key id request nonce text)
    (asks_before plan keys asks answers d n m (Answer key id request nonce text ∷ lines) at)

after_answer : (plan : Plan) (keys : List KeyReply) (asks : List (Result SentView CapsuleRefusal))
    (answers : List (Result GivenView CapsuleRefusal)) (d : Done) (n m : ℕ) (key id : ℕ)
    (request : EncField) (nonce text : Span) (lines : List CapsuleLine)
    → At plan keys asks answers d n m (Answer key id request nonce text ∷ lines)
    → At plan keys asks answers (done_with plan keys d (Answer key id request nonce text)) n (m + 1)
    lines
after_answer plan keys asks answers d n m key id request nonce text lines at = record {
  ask_count = at.ask_count;
  answer_count = length_push d.answers (given plan keys d.asks key id request nonce text)
      ∙ ap (λ k. k + 1) at.answer_count;
  asks_are = at.asks_are;
  answers_are = pushed answers d.answers
      (given_for plan keys asks (job_of n key id request nonce text))
      (given plan keys d.asks key id request nonce text)
      (map (given_for plan keys asks) (jobs_from n lines)) at.answers_are
      (given_now plan keys asks answers d n m key id request nonce text lines at);
}

after_take : (plan : Plan) (keys : List KeyReply) (asks : List (Result SentView CapsuleRefusal))
    (answers : List (Result GivenView CapsuleRefusal)) (d : Done) (n m : ℕ) (ask : ℕ)
    (response : EncField) (lines : List CapsuleLine)
    → At plan keys asks answers d n m (Take ask response ∷ lines)
    → At plan keys asks answers (done_with plan keys d (Take ask response)) n m lines
after_take plan keys asks answers d n m ask response lines at = record {
  ask_count = at.ask_count;
  answer_count = at.answer_count;
  asks_are = at.asks_are;
  answers_are = at.answers_are;
}

took_now : (plan : Plan) (keys : List KeyReply) (asks : List (Result SentView CapsuleRefusal))
    (answers : List (Result GivenView CapsuleRefusal)) (d : Done) (n m : ℕ) (ask : ℕ)
    (response : EncField) (lines : List CapsuleLine)
    → At plan keys asks answers d n m (Take ask response ∷ lines)
    → took plan (take n asks) (take m answers) ask response
    ≡ took plan d.asks d.answers ask response
took_now plan keys asks answers d n m ask response lines at =
    ap (λ (before : List (Result SentView CapsuleRefusal)).
    took plan before (take m answers) ask response)
    (asks_before plan keys asks answers d n m (Take ask response ∷ lines) at)
    ∙ ap (λ (before : List (Result GivenView CapsuleRefusal)).
    took plan d.asks before ask response)
    (answers_before plan keys asks answers d n m (Take ask response ∷ lines) at)

merged_from : (plan : Plan) (keys : List KeyReply) (asks : List (Result SentView CapsuleRefusal))
    (answers : List (Result GivenView CapsuleRefusal)) (d : Done) (n m : ℕ)
    (lines : List CapsuleLine)
    → At plan keys asks answers d n m lines
    → merged lines (asks_from plan keys n lines)
    (map (given_for plan keys asks) (jobs_from n lines))
    (takes_from plan asks answers n m lines) ≡ replies_after plan keys d lines
merged_from plan keys asks answers d n m [] at = refl
merged_from plan keys asks answers d n m (Ask key id kdf aead text ∷ lines) at =
    let rest : List CapsuleReply = merged lines (asks_from plan keys (n + 1) lines)
    (map (given_for plan keys asks) (jobs_from (n + 1) lines))
    (takes_from plan asks answers (n + 1) m lines) in
    ap (λ k. asked_reply (sent plan keys k key id kdf aead text) ∷ rest) (sym at.ask_count)
    ∙ ap (λ (rs : List CapsuleReply).
    asked_reply (sent plan keys (length d.asks) key id kdf aead text) ∷ rs)
    (merged_from plan keys asks answers (done_with plan keys d (Ask key id kdf aead text)) (n + 1) m
    lines (after_ask plan keys asks answers d n m key id kdf aead text lines at))
merged_from plan keys asks answers d n m (Answer key id request nonce text ∷ lines) at =
    let rest : List CapsuleReply = merged lines (asks_from plan keys n lines)
    (map (given_for plan keys asks) (jobs_from n lines))
    (takes_from plan asks answers n (m + 1) lines) in
    ap (λ (now : Result GivenView CapsuleRefusal). answered_reply now ∷ rest)
    (given_now plan keys asks answers d n m key id request nonce text lines at)
    ∙ ap (λ (rs : List CapsuleReply).
    answered_reply (given plan keys d.asks key id request nonce text) ∷ rs)
    (merged_from plan keys asks answers
    (done_with plan keys d (Answer key id request nonce text)) n (m + 1) lines
    (after_answer plan keys asks answers d n m key id request nonce text lines at))
merged_from plan keys asks answers d n m (Take ask response ∷ lines) at =
    let rest : List CapsuleReply = merged lines (asks_from plan keys n lines)
    (map (given_for plan keys asks) (jobs_from n lines))
    (takes_from plan asks answers n m lines) in
    ap (λ (now : Result (List ℕ) CapsuleRefusal). took_reply now ∷ rest)
    (took_now plan keys asks answers d n m ask response lines at)
    ∙ ap (λ (rs : List CapsuleReply). took_reply (took plan d.asks d.answers ask response) ∷ rs)
    (merged_from plan keys asks answers (done_with plan keys d (Take ask response)) n m lines
    (after_take plan keys asks answers d n m ask response lines at))

-- the whole
pub merged_is : (plan : Plan) (keys : List KeyReply)
    (asks : List (Result SentView CapsuleRefusal))
    (answers : List (Result GivenView CapsuleRefusal)) (lines : List CapsuleLine)
    → asks ≡ asks_from plan keys 0 lines
    → answers ≡ map (given_for plan keys asks) (jobs_from 0 lines)
    → merged lines asks answers (takes_from plan asks answers 0 0 lines)
    ≡ replies_after plan keys nothing_done lines
merged_is plan keys asks answers lines asks_are answers_are =
    ap (λ (made : List (Result SentView CapsuleRefusal)).
    merged lines made answers (takes_from plan asks answers 0 0 lines)) asks_are
    ∙ ap (λ (bs : List (Result GivenView CapsuleRefusal)).
    merged lines (asks_from plan keys 0 lines) bs (takes_from plan asks answers 0 0 lines))
    answers_are
    ∙ merged_from plan keys asks answers nothing_done 0 0 lines (record {
      ask_count = refl;
      answer_count = refl;
      asks_are = asks_are;
      answers_are = answers_are;
    })

-- the same from what the calls gave, which were lent the asks and the answers
pub record Served (p : CapsulePlan) (keys : List KeyReply)
    (asks lent lent' : List (Result SentView CapsuleRefusal))
    (answers given : List (Result GivenView CapsuleRefusal))
    (takes : List (Result (List ℕ) CapsuleRefusal)) (lines : List CapsuleLine)
    (replies : List CapsuleReply) : Type 0 where
  pub asks_are : asks ≡ asks_from p.plan keys 0 p.lines
  pub lent_is : lent ≡ asks
  pub lent_again : lent' ≡ asks
  pub answers_are : answers ≡ map (given_for p.plan keys lent) (jobs_from 0 p.lines)
  pub given_is : given ≡ answers
  pub takes_are : takes ≡ takes_from p.plan lent' given 0 0 p.lines
  pub lines_are : lines ≡ p.lines
  pub replies_are : replies ≡ merged lines asks answers takes

pub served_are : (p : CapsulePlan) (keys : List KeyReply)
    (asks lent lent' : List (Result SentView CapsuleRefusal))
    (answers given : List (Result GivenView CapsuleRefusal))
    (takes : List (Result (List ℕ) CapsuleRefusal)) (lines : List CapsuleLine)
    (replies : List CapsuleReply)
    → Served p keys asks lent lent' answers given takes lines replies
    → replies ≡ due_replies p keys
unfolding due_replies
served_are p keys asks lent lent' answers given takes lines replies s =
    let answered : answers ≡ map (given_for p.plan keys asks) (jobs_from 0 p.lines) =
    s.answers_are
    ∙ ap (λ (made : List (Result SentView CapsuleRefusal)).
    map (given_for p.plan keys made) (jobs_from 0 p.lines)) s.lent_is in
    let taken : takes ≡ takes_from p.plan asks answers 0 0 p.lines =
    s.takes_are
    ∙ ap (λ (made : List (Result SentView CapsuleRefusal)). takes_from p.plan made given 0 0 p.lines)
    s.lent_again
    ∙ ap (λ (bs : List (Result GivenView CapsuleRefusal)). takes_from p.plan asks bs 0 0 p.lines)
    s.given_is in
    s.replies_are
    ∙ ap (λ (ls : List CapsuleLine). merged ls asks answers takes) s.lines_are
    ∙ ap (λ (ts : List (Result (List ℕ) CapsuleRefusal)). merged p.lines asks answers ts) taken
    ∙ merged_is p.plan keys asks answers p.lines s.asks_are answered
