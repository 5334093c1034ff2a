-- A whole exchange gives each end the other's text.
use Rattle.std.proofs.Common.{◌≡◌, ℕ, List, length, take, get_or, Option, Some, Result, Ok, refl, ap, subst, ◌∙◌, arith}
use Rattle.std.specs.Prelude.{slice_get, IsTrue, ◌≢◌}
use Rattle.std.proofs.lemmas.List.Elements.{All-get_or}
use Rattle.std.proofs.lemmas.Option.{slice_get_within, get_or_from_slice_get}
use Rattle.sntrup_kem.specs.Kem.{IsGenerated, drawn_r}
use Rattle.sntrup_kem.specs.Laws.{DrawsShort}
use Rattle.call_places.specs.declared.spans.Span.{Span}
use Rattle.call_places.specs.Spans.{span_bytes}
use Rattle.hkdf_labelled.specs.declared.suites.Aead.{Aead}
use Rattle.hkdf_labelled.specs.declared.suites.Aead.TheVariants.{Aes128, Aes256, ExportOnly}
use Rattle.hkdf_labelled.specs.Suites.{encrypts}
use Rattle.ohttp_capsule.specs.Laws.{Asks, WholeExchange}
use Rattle.ohttp_capsule.specs.Replies.{taken}
use Rattle.batch_plans.specs.declared.plan.Plan.{Plan}
use Rattle.batch_plans.specs.declared.plan.KeyLine.{KeyLine}
use Rattle.batch_plans.specs.declared.plan.KeySource.{KeySource}
use Rattle.batch_plans.specs.declared.plan.KeySource.TheVariants as sources
use Rattle.batch_plans.specs.declared.plan.KeySet.{KeySet}
use Rattle.batch_plans.specs.declared.plan.KeySet.TheVariants.{Sntrup761, Sntrup857}
use Rattle.batch_plans.specs.KeyLines.{set_of, source_of}
use Rattle.batch_plans.specs.declared.plan.EncField.TheVariants.{Of}
use Rattle.batch_plans.specs.declared.replies.KeyReply.{KeyReply}
use Rattle.batch_plans.specs.declared.replies.KeyReply.TheVariants.{Generated}
use Rattle.context_table.specs.Streams.{key_words, context_words}
use Rattle.context_table.specs.Keys.{Kem, KeyView, kem761, kem857, kem_with, kem_of, IsSourceReply, IsKeyReply, key_in, key_at}
use Rattle.context_table.proofs.Lists.{some_within}
use Rattle.context_table.proofs.Sizes.{length-enc_of}
use Rattle.capsule_frames.specs.declared.words.CapsuleWord.TheVariants as words
use Rattle.capsule_frames.specs.declared.lines.CapsuleLine.{CapsuleLine}
use Rattle.capsule_frames.specs.declared.lines.CapsuleLine.TheVariants.{Ask, Answer, Take}
use Rattle.capsule_frames.specs.declared.lines.CapsulePlan.{CapsulePlan}
use Rattle.capsule_frames.specs.declared.replies.CapsuleRefusal.{CapsuleRefusal}
use Rattle.capsule_frames.specs.declared.replies.CapsuleReply.{CapsuleReply}
use Rattle.capsule_frames.specs.declared.replies.CapsuleReply.TheVariants.{Took}
use Rattle.capsule_frames.specs.Within.{IsLineWithin, IsWithin}
use Rattle.capsule_frames.specs.Results.{SentView, GivenView}
use Rattle.capsule_frames.specs.Lines.{sent_to, sent_by, sent, left_in, left_by, request_of, given_of, given_with, given_by, given, response_of, took_of, took_by, took}
use Rattle.capsule_frames.specs.Replies.{nothing_done, answered_reply, took_reply, replies_after, due_replies}
use Rattle.capsule_frames.specs.Laws.{number_at, IsExchange, TakesAnswer, WholeExchanges}
use Rattle.capsule_frames.proofs.Placing.{done_from, reply_at}
use Rattle.capsule_frames.proofs.Earlier.{ask_at, answer_at}

-- what is known of both KEMs
pub record Carries (kem : Kem) : Type 0 where
  pub short : DrawsShort kem.set
  pub whole : WholeExchange kem.set kem.id

-- ---- the key

-- a pair that was generated
record Made (plan : Plan) (keys : List KeyReply) (k : ℕ) (public secret : List ℕ) : Type 0 where
  kem : Kem
  word : ℕ → ℕ
  j : ℕ
  carries : Carries kem
  generated : IsGenerated kem.set word 0 j public secret
  key : key_at plan keys k ≡ Some (record { kem = kem; public = public; secret = Some secret })

carries_by : Carries kem761 → Carries kem857 → (set : KeySet) → Carries (kem_with set)
carries_by a b Sntrup761 = a
carries_by a b Sntrup857 = b

-- which line it is of
made_by : (plan : Plan) (keys : List KeyReply) (k : ℕ) (public secret : List ℕ) (line : KeyLine)
    → Carries kem761 → Carries kem857
    → slice_get plan.keys k ≡ Some line → slice_get keys k ≡ Some (Generated public secret)
    → IsKeyReply plan k line (Generated public secret) → Made plan keys k public secret
made_by plan keys k public secret line a b el er = made (source_of line)
  where
    made : (source : KeySource)
        → IsSourceReply plan k (kem_of line).set source (Generated public secret)
        → Made plan keys k public secret
    made sources.Generate is = record {
      kem = kem_of line;
      word = key_words plan k;
      j = is.1.0;
      carries = carries_by a b (set_of line);
      generated = is.1.2;
      key = ap (λ o. key_in plan.pool o (slice_get keys k)) el
          ∙ ap (key_in plan.pool (Some line)) er;
    }
    made (sources.Secret bytes) is = absurd is
    made (sources.Peer bytes) is = absurd is

-- ---- the ask

-- an ask has algorithms that encrypt
encrypts_by : (aead : Aead) → aead ≢ ExportOnly → IsTrue (encrypts aead)
encrypts_by Aes128 other = refl
encrypts_by Aes256 other = refl
encrypts_by ExportOnly other = absurd (other refl)

ask_encrypts : (p : CapsulePlan) (i key id : ℕ) (kdf : _) (aead : Aead) (text : Span) → IsWithin p
    → slice_get p.lines i ≡ Some (Ask key id kdf aead text) → IsTrue (encrypts aead)
ask_encrypts p i key id kdf aead text within here =
    let line : CapsuleLine = Ask key id kdf aead text in
    let P : CapsuleLine → Type 0 = IsLineWithin p.plan.seed (length p.plan.pool) in
    let at : P (get_or p.lines i line) =
    All-get_or P p.lines i line (slice_get_within p.lines i line here) within.lines in
    let is : P line = subst P (get_or_from_slice_get p.lines i line line here) at in
    encrypts_by aead is.2

-- ---- one exchange

-- what the client of the ask has, and what the key answers
record Sides (p : CapsulePlan) (keys : List KeyReply) (i j : ℕ) (question reply : Span)
    (x : IsExchange p keys i j question reply) : Type 0 where
  client : SentView
  response : List ℕ
  asked : sent p.plan keys (number_at words.Ask p i) x.key x.id x.kdf x.aead question ≡ Ok client
  answers : given p.plan keys (done_from p.plan keys nothing_done (take j p.lines)).asks x.key x.id
      (Of (number_at words.Ask p i)) x.nonce reply
      ≡ Ok (record { text = span_bytes p.plan.pool question; response = response })
  takes : taken client.asked response ≡ Ok (span_bytes p.plan.pool reply)

sides : (p : CapsulePlan) (keys : List KeyReply) (i j : ℕ) (question reply : Span)
    → (x : IsExchange p keys i j question reply) → IsTrue (encrypts x.aead)
    → Made p.plan keys x.key x.public x.secret → Sides p keys i j question reply x
unfolding sent given
sides p keys i j question reply x can made =
    let kem = made.kem in
    let set = kem.set in
    let pool = p.plan.pool in
    let a = number_at words.Ask p i in
    let d = done_from p.plan keys nothing_done (take j p.lines) in
    let word : ℕ → ℕ = context_words p.plan a in
    let r = drawn_r set word 0 in
    let key : KeyView = record { kem = kem; public = x.public; secret = Some x.secret } in
    let client : SentView =
    sent_to kem x.public x.id x.kdf x.aead word (span_bytes pool question) in
    let asked : sent p.plan keys a x.key x.id x.kdf x.aead question ≡ Ok client =
    ap (λ (o : Option KeyView). sent_by o x.id x.kdf x.aead word (span_bytes pool question)) made.key
    in
    let here : slice_get d.asks a ≡ Some (Ok client) =
    ask_at p.plan keys p.lines i j a x.key x.id x.kdf x.aead question x.asks x.later refl
    ∙ ap (λ (s : Result SentView CapsuleRefusal). Some s) asked in
    let asks : Asks set kem.id x.secret x.id client.asked client.request
    (span_bytes pool question) = record {
      word = made.word;
      place = 0;
      j = made.j;
      pk = x.public;
      r = r;
      suite = record { kem = kem.id; kdf = x.kdf; aead = x.aead };
      generated = made.generated;
      short = made.carries.short word 0;
      kem_is = refl;
      encrypts_is = can;
      asked_is = refl;
      enc_count = length-enc_of set x.public r;
      request_is = refl;
    } in
    let both = made.carries.whole x.secret x.id client.asked client.request
    (span_bytes pool question) (span_bytes pool x.nonce) (span_bytes pool reply) asks x.nonce_size in
    record {
      client = client;
      response = both.response;
      asked = asked;
      answers =
          ap (λ (o : Option KeyView). given_by o x.id (request_of (left_by d.asks a))
          (span_bytes pool x.nonce) (span_bytes pool reply)) made.key
          ∙ ap (λ (o : Option (Result SentView CapsuleRefusal)).
          given_with kem (Some x.secret) x.id (request_of (left_in o)) (span_bytes pool x.nonce)
          (span_bytes pool reply)) here
          ∙ ap given_of both.question_is;
      takes = both.reply_is;
    }

-- a line that takes the answer
taken_then : (p : CapsulePlan) (keys : List KeyReply) (i j t : ℕ) (question reply : Span)
    → (x : IsExchange p keys i j question reply) → (s : Sides p keys i j question reply x)
    → TakesAnswer p i j t
    → slice_get (replies_after p.plan keys nothing_done p.lines) t
    ≡ Some (Took (span_bytes p.plan.pool reply))
unfolding took
taken_then p keys i j t question reply x s then =
    let a = number_at words.Ask p i in
    let b = number_at words.Answer p j in
    let d = done_from p.plan keys nothing_done (take t p.lines) in
    let given_view : GivenView =
    record { text = span_bytes p.plan.pool question; response = s.response } in
    let ask : slice_get d.asks a ≡ Some (Ok s.client) =
    ask_at p.plan keys p.lines i t a x.key x.id x.kdf x.aead question x.asks
    (let before = x.later in let after = then.later in omega arith) refl
    ∙ ap (λ (r : Result SentView CapsuleRefusal). Some r) s.asked in
    let answer : slice_get d.answers b ≡ Some (Ok given_view) =
    answer_at p.plan keys p.lines j t b x.key x.id (Of a) x.nonce reply x.answers then.later refl
    ∙ ap (λ (r : Result GivenView CapsuleRefusal). Some r) s.answers in
    let is : took p.plan d.asks d.answers a (Of b) ≡ Ok (span_bytes p.plan.pool reply) =
    ap (λ (o : Option (Result SentView CapsuleRefusal)).
    took_by (left_in o) (response_of (left_by d.answers b))) ask
    ∙ ap (λ (o : Option (Result GivenView CapsuleRefusal)).
    took_by (Some s.client) (response_of (left_in o))) answer
    ∙ ap took_of s.takes in
    reply_at p.plan keys p.lines nothing_done t (Take a (Of b)) then.takes
    ∙ ap (λ (r : Result (List ℕ) CapsuleRefusal). Some (took_reply r)) is

pub whole_exchanges_lem : Carries kem761 → Carries kem857 → WholeExchanges
unfolding due_replies
whole_exchanges_lem m n p keys replies i j question reply within are x =
    let line = some_within keys p.plan.keys x.key _ are.keys_are.key_count x.generated in
    let made : Made p.plan keys x.key x.public x.secret =
    made_by p.plan keys x.key x.public x.secret line.0 m n line.1 x.generated
    (are.keys_are.key_replies.each x.key line.0 (Generated x.public x.secret) line.1 x.generated) in
    let can = ask_encrypts p i x.key x.id x.kdf x.aead question within x.asks in
    let s : Sides p keys i j question reply x = sides p keys i j question reply x can made in
    let at : ℕ → Option CapsuleReply → Type 0 = λ k o. slice_get replies k ≡ o in
    record {
      response = s.response;
      answered =
          ap (λ (rs : List CapsuleReply). slice_get rs j) are.replies_are
          ∙ reply_at p.plan keys p.lines nothing_done j
          (Answer x.key x.id (Of (number_at words.Ask p i)) x.nonce reply) x.answers
          ∙ ap (λ (r : Result GivenView CapsuleRefusal). Some (answered_reply r)) s.answers;
      taken = λ t then.
          ap (λ (rs : List CapsuleReply). slice_get rs t) are.replies_are
          ∙ taken_then p keys i j t question reply x s then;
    }
