-- Each refusal has its cause.
use Rattle.std.proofs.Common.{◌≡◌, ◌↔◌, ◌<◌, ℕ, suc, List, [], ◌∷◌, length, take, Option, Some, None, Result, Ok, Err, refl, sym, ap, subst, ◌∙◌}
use Rattle.std.specs.Prelude.{slice_get}
use Rattle.ring_core.specs.Sets.{sntrup761, sntrup857}
use Rattle.sntrup_kem.specs.Laws.{BothEndsAgree}
use Rattle.call_places.specs.declared.spans.Span.{Span}
use Rattle.call_places.specs.Spans.{span_bytes}
use Rattle.hkdf_labelled.specs.declared.suites.Kdf.{Kdf}
use Rattle.hkdf_labelled.specs.declared.suites.Aead.{Aead}
use Rattle.batch_plans.specs.declared.plan.KeyLine.{KeyLine}
use Rattle.batch_plans.specs.declared.plan.KeySet.{KeySet}
use Rattle.batch_plans.specs.declared.plan.KeySet.TheVariants.{Sntrup761, Sntrup857}
use Rattle.batch_plans.specs.KeyLines.{set_of, source_of}
use Rattle.batch_plans.specs.declared.plan.EncField.{EncField}
use Rattle.batch_plans.specs.declared.plan.EncField.TheVariants.{Bytes, Of}
use Rattle.batch_plans.specs.declared.replies.KeyReply.{KeyReply}
use Rattle.batch_plans.specs.declared.replies.KeyReply.TheVariants as replied
use Rattle.context_table.specs.Keys.{Kem, KeyView, kem_with, kem_of, given_bytes, key_by, key_in, key_at}
use Rattle.context_table.specs.Streams.{context_words}
use Rattle.context_table.proofs.Lists.{same_some, some_within}
use Rattle.ohttp_capsule.specs.declared.faults.CapsuleFault.{CapsuleFault}
use Rattle.ohttp_capsule.specs.declared.faults.CapsuleFault.TheVariants as faults
use Rattle.ohttp_capsule.specs.Replies.{answered, taken}
use Rattle.ohttp_capsule.specs.Refusals.{IsShortRequest, HasOtherHeader, HasOtherNonce, DoesNotOpen, IsShortResponse, IsOfNoExchange}
use Rattle.capsule_frames.specs.declared.words.CapsuleWord.TheVariants as words
use Rattle.capsule_frames.specs.declared.lines.CapsuleLine.{CapsuleLine}
use Rattle.capsule_frames.specs.declared.lines.CapsuleLine.TheVariants.{Ask, Answer, Take}
use Rattle.capsule_frames.specs.declared.lines.CapsulePlan.{CapsulePlan}
use Rattle.capsule_frames.specs.declared.replies.CapsuleRefusal.{CapsuleRefusal}
use Rattle.capsule_frames.specs.declared.replies.CapsuleRefusal.TheVariants.{NoKey, NeedSecret, NoAsk, NoAnswer, Short, Header, NonceSize, Failed}
use Rattle.capsule_frames.specs.declared.replies.CapsuleReply.{CapsuleReply}
use Rattle.capsule_frames.specs.declared.replies.CapsuleReply.TheVariants.{Answered, Refused}
use Rattle.capsule_frames.specs.Results.{SentView, GivenView}
use Rattle.capsule_frames.specs.Lines.{left_in, left_by, sent_by, sent, request_of, request_at, given_by, given, response_of, response_at, took_by, took}
use Rattle.capsule_frames.specs.Replies.{Done, nothing_done, asked_reply, answered_reply, took_reply, reply_to, done_with, replies_after, due_replies, AreReplies}
use Rattle.capsule_frames.specs.Laws.{number_at}
use Rattle.capsule_frames.specs.Refusals.{IsRefused, Made, Gave, IsRequest, IsResponse, Reaches, Returns, AsksHaveCauses, AnswersHaveCauses, TakesHaveCauses}
use Rattle.capsule_frames.proofs.Placing.{done_from, reply_at}
use Rattle.capsule_frames.proofs.Earlier.{asks_left, ask_count, ask_found, ask_at, answers_left, answer_count, answer_found, answer_at}
use Rattle.capsule_frames.proofs.Answering.{answered_known, answered_tells, taken_known, taken_tells, Answers, GivenFor, given_for_cause, cause_of_given, Takes, TookFor, took_for_cause, cause_of_took}

-- where one is the other, and that a third
through : {A B C : Type 0} → A ↔ B → B ↔ C → A ↔ C
through ab bc = (λ a. bc.0 (ab.0 a), λ c. ab.1 (bc.1 c))

-- ---- a refused line, by what became of it

asked_err : (o : Result SentView CapsuleRefusal) (r : CapsuleRefusal)
    → asked_reply o ≡ Refused r → o ≡ Err r
asked_err (Ok made) r e = absurd cc
asked_err (Err q) r e =
    let same : q ≡ r = cc in ap (λ (x : CapsuleRefusal). Err x) same

answered_err : (o : Result GivenView CapsuleRefusal) (r : CapsuleRefusal)
    → answered_reply o ≡ Refused r → o ≡ Err r
answered_err (Ok made) r e = absurd cc
answered_err (Err q) r e =
    let same : q ≡ r = cc in ap (λ (x : CapsuleRefusal). Err x) same

took_err : (o : Result (List ℕ) CapsuleRefusal) (r : CapsuleRefusal)
    → took_reply o ≡ Refused r → o ≡ Err r
took_err (Ok text) r e = absurd cc
took_err (Err q) r e =
    let same : q ≡ r = cc in ap (λ (x : CapsuleRefusal). Err x) same

-- what is done before a place
abbrev before : CapsulePlan → List KeyReply → ℕ → Done
before p keys i = done_from p.plan keys nothing_done (take i p.lines)

-- the reply to the line at a place
reply_here : (p : CapsulePlan) (keys : List KeyReply) (replies : List CapsuleReply) (i : ℕ)
    (line : CapsuleLine) → AreReplies p keys replies → slice_get p.lines i ≡ Some line
    → slice_get replies i ≡ Some (reply_to p.plan keys (before p keys i) line)
unfolding due_replies
reply_here p keys replies i line are here =
    ap (λ (rs : List CapsuleReply). slice_get rs i) are.replies_are
    ∙ reply_at p.plan keys p.lines nothing_done i line here

-- ---- asks

ask_value : (v : Option KeyView) (id : ℕ) (kdf : Kdf) (aead : Aead) (word : ℕ → ℕ) (text : List ℕ)
    (r : CapsuleRefusal) → sent_by v id kdf aead word text ≡ Err r → (v ≡ None) × (NoKey ≡ r)
ask_value None id kdf aead word text r e = (refl, let same : NoKey ≡ r = cc in same)
ask_value (Some view) id kdf aead word text r e = absurd cc

pub asks_lem : AsksHaveCauses
unfolding sent
asks_lem p keys replies i key id kdf aead text are here =
    let d = before p keys i in
    let v = key_at p.plan keys key in
    let word = context_words p.plan (length d.asks) in
    let bytes = span_bytes p.plan.pool text in
    let o : Result SentView CapsuleRefusal = sent_by v id kdf aead word bytes in
    let now : slice_get replies i ≡ Some (asked_reply o) =
    reply_here p keys replies i (Ask key id kdf aead text) are here in
    let cause : (r : CapsuleRefusal) → IsRefused replies i r → (v ≡ None) × (NoKey ≡ r) =
    λ r e. ask_value v id kdf aead word bytes r (asked_err o r (same_some (sym now ∙ e))) in
    record {
      nokey = (
        λ e. (cause NoKey e).0,
        λ none. now ∙ ap (λ (k : Option KeyView). Some (asked_reply (sent_by k id kdf aead word bytes)))
            none,
      );
      others = λ r other e. other (sym (cause r e).1);
    }

-- ---- what is found by numbers

left_to : {A : Type 0} (o : Option (Result A CapsuleRefusal)) (x : A) → left_in o ≡ Some x
    → o ≡ Some (Ok x)
left_to None x e = absurd (let no : None ≡ Some x = e in cc)
left_to (Some (Ok a)) x e = let same : a ≡ x = same_some e in ap (λ y. Some (Ok y)) same
left_to (Some (Err r)) x e = absurd (let no : None ≡ Some x = e in cc)

-- the client of an ask, by the line that left it
made_by : (p : CapsulePlan) (keys : List KeyReply) (i number at : ℕ) (client : SentView)
    (line : CapsuleLine) → at < i → slice_get p.lines at ≡ Some line
    → number ≡ length (before p keys at).asks
    → asks_left p.plan keys (before p keys at) line ≡ Some (Ok client)
    → Made p keys i number client
made_by p keys i number at client (Ask key id kdf aead text) earlier here is left = record {
  at = at;
  earlier = earlier;
  number_is = sym (is ∙ ask_count p.plan keys (take at p.lines));
  key = key;
  id = id;
  kdf = kdf;
  aead = aead;
  text = text;
  line_is = here;
  made = ap (λ k. sent p.plan keys k key id kdf aead text) is ∙ same_some left;
}
made_by p keys i number at client (Answer key id request nonce text) earlier here is left =
    absurd (let no : None ≡ Some (Ok client) = left in cc)
made_by p keys i number at client (Take ask response) earlier here is left =
    absurd (let no : None ≡ Some (Ok client) = left in cc)

made_to : (p : CapsulePlan) (keys : List KeyReply) (i number : ℕ) (client : SentView)
    → left_by (before p keys i).asks number ≡ Some client → Made p keys i number client
made_to p keys i number client e =
    let found = ask_found p.plan keys p.lines i number (Ok client)
    (left_to (slice_get (before p keys i).asks number) client e) in
    made_by p keys i number found.at client found.line found.earlier found.line_is found.number_is
    found.left_is

made_from : (p : CapsulePlan) (keys : List KeyReply) (i number : ℕ) (client : SentView)
    → Made p keys i number client → left_by (before p keys i).asks number ≡ Some client
made_from p keys i number client m =
    ap left_in
    (ask_at p.plan keys p.lines m.at i number m.key m.id m.kdf m.aead m.text m.line_is m.earlier
    m.number_is
    ∙ ap (λ (s : Result SentView CapsuleRefusal). Some s) m.made)

-- REQ
request_some : (o : Option SentView) (request : List ℕ) → request_of o ≡ Some request
    → (client : SentView) × (o ≡ Some client) × (client.request ≡ request)
request_some None request e = absurd (let no : None ≡ Some request = e in cc)
request_some (Some client) request e = (client, refl, same_some e)

request_to : (p : CapsulePlan) (keys : List KeyReply) (i : ℕ) (field : EncField)
    (request : List ℕ) → request_at p.plan.pool (before p keys i).asks field ≡ Some request
    → IsRequest p keys i field request
request_to p keys i (Bytes bytes) request e = same_some e
request_to p keys i (Of number) request e =
    let found = request_some (left_by (before p keys i).asks number) request e in
    (found.0, made_to p keys i number found.0 found.1, found.2)

request_from : (p : CapsulePlan) (keys : List KeyReply) (i : ℕ) (field : EncField)
    (request : List ℕ) → IsRequest p keys i field request
    → request_at p.plan.pool (before p keys i).asks field ≡ Some request
request_from p keys i (Bytes bytes) request e = ap (λ (b : List ℕ). Some b) e
request_from p keys i (Of number) request x =
    ap request_of (made_from p keys i number x.0 x.1) ∙ ap (λ (b : List ℕ). Some b) x.2

no_request : (p : CapsulePlan) (keys : List KeyReply) (i : ℕ) (field : EncField)
    → (request_at p.plan.pool (before p keys i).asks field ≡ None)
    ↔ ((request : List ℕ) → ¬ IsRequest p keys i field request)
no_request p keys i field =
    let q = request_at p.plan.pool (before p keys i).asks field in
    let back : ((request : List ℕ) → ¬ IsRequest p keys i field request) → (o : Option (List ℕ))
    → q ≡ o → o ≡ None = λ none. elim [
      | None ↦ λ e. refl
      | Some request ↦ λ e. absurd (none request (request_to p keys i field request e))
    ] in (
      λ e request x. let no : None ≡ Some request = sym e
          ∙ request_from p keys i field request x in cc,
      λ none. back none q refl,
    )

-- ---- the key

agree_by : BothEndsAgree sntrup761 → BothEndsAgree sntrup857 → (set : KeySet)
    → BothEndsAgree (kem_with set).set
agree_by a b Sntrup761 = a
agree_by a b Sntrup857 = b

kem_by : (kem : Kem) (bytes : List ℕ) (reply : KeyReply) (view : KeyView)
    → key_by kem bytes reply ≡ Some view → kem ≡ view.kem
kem_by kem bytes (replied.Generated public secret) view e =
    ap (λ (w : KeyView). w.kem) (same_some e)
kem_by kem bytes (replied.Secret public) view e = ap (λ (w : KeyView). w.kem) (same_some e)
kem_by kem bytes replied.Peer view e = ap (λ (w : KeyView). w.kem) (same_some e)
kem_by kem bytes (replied.Refused refusal) view e =
    absurd (let no : None ≡ Some view = e in cc)

agree_in : BothEndsAgree sntrup761 → BothEndsAgree sntrup857 → (pool : List ℕ)
    (line : Option KeyLine) (reply : Option KeyReply) (view : KeyView)
    → key_in pool line reply ≡ Some view → BothEndsAgree view.kem.set
agree_in a b pool None reply view e = absurd (let no : None ≡ Some view = e in cc)
agree_in a b pool (Some line) None view e = absurd (let no : None ≡ Some view = e in cc)
agree_in a b pool (Some line) (Some reply) view e =
    subst (λ (k : Kem). BothEndsAgree k.set)
    (kem_by (kem_of line) (given_bytes pool (source_of line)) reply view e) (agree_by a b (set_of line))

-- ---- answers

answers_reach : (p : CapsulePlan) (keys : List KeyReply) (i key id : ℕ) (field : EncField)
    (nonce text : List ℕ) (f : CapsuleFault) (P : Kem → List ℕ → List ℕ → Type 0)
    → BothEndsAgree sntrup761 → BothEndsAgree sntrup857
    → ((kem : Kem) (secret request : List ℕ) → BothEndsAgree kem.set
    → (answered kem.set kem.id secret id request nonce text ≡ Err f) ↔ P kem secret request)
    → Answers (key_at p.plan keys key) (request_at p.plan.pool (before p keys i).asks field) id nonce
    text f ↔ Reaches p keys i key field P
answers_reach p keys i key id field nonce text f P a b tells =
    let agree : (view : KeyView) → key_at p.plan keys key ≡ Some view
    → BothEndsAgree view.kem.set =
    λ view e. agree_in a b p.plan.pool (slice_get p.plan.keys key) (slice_get keys key) view e in (
      λ x. (
        x.view.kem,
        x.secret,
        x.request,
        (x.view, x.view_is, refl, x.secret_is),
        request_to p keys i field x.request x.request_is,
        (tells x.view.kem x.secret x.request (agree x.view x.view_is)).0 x.fault_is,
      ),
      λ y.
          let h = y.3 in
          let own : BothEndsAgree y.0.set =
          subst (λ (k : Kem). BothEndsAgree k.set) h.2 (agree h.0 h.1) in
          let fault : answered y.0.set y.0.id y.1 id y.2 nonce text ≡ Err f =
          (tells y.0 y.1 y.2 own).1 y.5 in
          record {
            view = h.0;
            secret = y.1;
            request = y.2;
            view_is = h.1;
            secret_is = h.3;
            request_is = request_from p keys i field y.2 y.4;
            fault_is = subst (λ (k : Kem). answered k.set k.id y.1 id y.2 nonce text ≡ Err f)
                (sym h.2) fault;
          },
    )

-- the answer at a place is refused where its cause stands
answer_cause : (p : CapsulePlan) (keys : List KeyReply) (replies : List CapsuleReply)
    (i key id : ℕ) (field : EncField) (nonce text : Span) (r : CapsuleRefusal)
    → AreReplies p keys replies → slice_get p.lines i ≡ Some (Answer key id field nonce text)
    → IsRefused replies i r
    ↔ GivenFor (key_at p.plan keys key) (request_at p.plan.pool (before p keys i).asks field) id
    (span_bytes p.plan.pool nonce) (span_bytes p.plan.pool text) r
unfolding given
answer_cause p keys replies i key id field nonce text r are here =
    let v = key_at p.plan keys key in
    let q = request_at p.plan.pool (before p keys i).asks field in
    let n = span_bytes p.plan.pool nonce in
    let t = span_bytes p.plan.pool text in
    let o : Result GivenView CapsuleRefusal = given_by v id q n t in
    let now : slice_get replies i ≡ Some (answered_reply o) =
    reply_here p keys replies i (Answer key id field nonce text) are here in (
      λ e. given_for_cause v q id n t r (answered_err o r (same_some (sym now ∙ e))),
      λ g. now ∙ ap (λ (x : Result GivenView CapsuleRefusal). Some (answered_reply x))
          (cause_of_given v q id n t r g),
    )

pub answers_lem : BothEndsAgree sntrup761 → BothEndsAgree sntrup857 → AnswersHaveCauses
unfolding GivenFor
answers_lem a b p keys replies i key id field nonce text are here =
    let n = span_bytes p.plan.pool nonce in
    let t = span_bytes p.plan.pool text in
    let none = no_request p keys i field in
    let cause = λ (r : CapsuleRefusal). answer_cause p keys replies i key id field nonce text r are
    here in
    let reach = λ (f : CapsuleFault) (P : Kem → List ℕ → List ℕ → Type 0).
    answers_reach p keys i key id field n t f P a b in
    record {
      nokey = cause NoKey;
      needsecret = cause NeedSecret;
      noask = through (cause NoAsk) (
        λ g. (g.0.kem, g.1, (g.0, g.2, refl, g.3), none.0 g.4),
        λ y. (y.2.0, y.1, y.2.1, y.2.3, none.1 y.3),
      );
      noanswer = λ e. (cause NoAnswer).0 e;
      short = through (cause Short) (reach faults.Short
          (λ kem secret request. IsShortRequest kem.set request)
          (λ kem secret request agree.
          (answered_tells kem.set kem.id secret id request n t agree).short));
      header = through (cause Header) (reach faults.Header
          (λ kem secret request. HasOtherHeader kem.set kem.id id request)
          (λ kem secret request agree.
          (answered_tells kem.set kem.id secret id request n t agree).header));
      noncesize = through (cause NonceSize) (reach faults.NonceSize
          (λ kem secret request. HasOtherNonce kem.set kem.id id request n)
          (λ kem secret request agree.
          (answered_tells kem.set kem.id secret id request n t agree).nonce_size));
      failed = through (cause Failed) (reach faults.Failed
          (λ kem secret request. DoesNotOpen kem.set kem.id secret id request n)
          (λ kem secret request agree.
          (answered_tells kem.set kem.id secret id request n t agree).failed
          (answered_known kem.set kem.id secret id request n t)));
    }

-- ---- what earlier answers gave

answered_back : (o : Result GivenView CapsuleRefusal) (text response : List ℕ)
    → answered_reply o ≡ Answered text response
    → (made : GivenView) × (o ≡ Ok made) × (made.response ≡ response)
answered_back (Ok made) text response e =
    (made, refl, let same : made.response ≡ response = cc in same)
answered_back (Err r) text response e = absurd cc

not_asked : (o : Result SentView CapsuleRefusal) (text response : List ℕ)
    → asked_reply o ≡ Answered text response → ⊥
not_asked (Ok made) text response e = cc
not_asked (Err r) text response e = cc

not_took : (o : Result (List ℕ) CapsuleRefusal) (text response : List ℕ)
    → took_reply o ≡ Answered text response → ⊥
not_took (Ok bytes) text response e = cc
not_took (Err r) text response e = cc

length-replies : (p : CapsulePlan) (keys : List KeyReply) (lines : List CapsuleLine) (d : Done)
    → length (replies_after p.plan keys d lines) ≡ length lines
length-replies p keys [] d = refl
length-replies p keys (line ∷ lines) d =
    ap (λ n. suc n) (length-replies p keys lines (done_with p.plan keys d line))

-- the line that gave an answer
gave_by : (p : CapsulePlan) (keys : List KeyReply) (i number at : ℕ) (text response : List ℕ)
    (line : CapsuleLine) → slice_get p.lines at ≡ Some line → at < i
    → number_at words.Answer p at ≡ number
    → reply_to p.plan keys (before p keys at) line ≡ Answered text response
    → (made : GivenView)
    × (slice_get (before p keys i).answers number ≡ Some (Ok made))
    × (made.response ≡ response)
gave_by p keys i number at text response (Ask key id kdf aead span) here earlier is e =
    absurd (not_asked (sent p.plan keys (length (before p keys at).asks) key id kdf aead span) text
    response e)
gave_by p keys i number at text response (Take ask field) here earlier is e =
    absurd (not_took (took p.plan (before p keys at).asks (before p keys at).answers ask field) text
    response e)
gave_by p keys i number at text response (Answer key id field nonce span) here earlier is e =
    let o = given p.plan keys (before p keys at).asks key id field nonce span in
    let back = answered_back o text response e in (
      back.0,
      answer_at p.plan keys p.lines at i number key id field nonce span here earlier is
          ∙ ap (λ (x : Result GivenView CapsuleRefusal). Some x) back.1,
      back.2,
    )

-- what an answer gave, by the line that left it
left_gave : (p : CapsulePlan) (keys : List KeyReply) (replies : List CapsuleReply) (i number at : ℕ)
    (made : GivenView) (line : CapsuleLine) → AreReplies p keys replies → at < i
    → slice_get p.lines at ≡ Some line → number ≡ length (before p keys at).answers
    → answers_left p.plan keys (before p keys at) line ≡ Some (Ok made)
    → Gave p replies i number made.response
left_gave p keys replies i number at made (Answer key id request nonce text) are earlier here is left =
    record {
      at = at;
      earlier = earlier;
      number_is = sym (is ∙ answer_count p.plan keys (take at p.lines));
      text = made.text;
      gave = reply_here p keys replies at (Answer key id request nonce text) are here
          ∙ ap (λ (x : Result GivenView CapsuleRefusal). Some (answered_reply x)) (same_some left);
    }
left_gave p keys replies i number at made (Ask key id kdf aead text) are earlier here is left =
    absurd (let no : None ≡ Some (Ok made) = left in cc)
left_gave p keys replies i number at made (Take ask response) are earlier here is left =
    absurd (let no : None ≡ Some (Ok made) = left in cc)

gave_to : (p : CapsulePlan) (keys : List KeyReply) (replies : List CapsuleReply) (i number : ℕ)
    (made : GivenView) → AreReplies p keys replies
    → left_by (before p keys i).answers number ≡ Some made → Gave p replies i number made.response
gave_to p keys replies i number made are e =
    let found = answer_found p.plan keys p.lines i number (Ok made)
    (left_to (slice_get (before p keys i).answers number) made e) in
    left_gave p keys replies i number found.at made found.line are found.earlier found.line_is
    found.number_is found.left_is

gave_from : (p : CapsulePlan) (keys : List KeyReply) (replies : List CapsuleReply) (i number : ℕ)
    (response : List ℕ) → AreReplies p keys replies → Gave p replies i number response
    → (made : GivenView)
    × (left_by (before p keys i).answers number ≡ Some made)
    × (made.response ≡ response)
unfolding due_replies
gave_from p keys replies i number response are g =
    let count : length replies ≡ length p.lines =
    ap (λ (rs : List CapsuleReply). length rs) are.replies_are
    ∙ length-replies p keys p.lines nothing_done in
    let line = some_within replies p.lines g.at (Answered g.text response) count g.gave in
    let reply : reply_to p.plan keys (before p keys g.at) line.0 ≡ Answered g.text response =
    same_some (sym (reply_here p keys replies g.at line.0 are line.1) ∙ g.gave) in
    let by = gave_by p keys i number g.at g.text response line.0 line.1 g.earlier g.number_is
    reply in
    (by.0, ap left_in by.1, by.2)

-- RESP
response_some : (o : Option GivenView) (response : List ℕ) → response_of o ≡ Some response
    → (made : GivenView) × (o ≡ Some made) × (made.response ≡ response)
response_some None response e = absurd (let no : None ≡ Some response = e in cc)
response_some (Some made) response e = (made, refl, same_some e)

response_to : (p : CapsulePlan) (keys : List KeyReply) (replies : List CapsuleReply) (i : ℕ)
    (field : EncField) (response : List ℕ) → AreReplies p keys replies
    → response_at p.plan.pool (before p keys i).answers field ≡ Some response
    → IsResponse p replies i field response
response_to p keys replies i (Bytes bytes) response are e = same_some e
response_to p keys replies i (Of number) response are e =
    let found = response_some (left_by (before p keys i).answers number) response e in
    subst (Gave p replies i number) found.2
    (gave_to p keys replies i number found.0 are found.1)

response_from : (p : CapsulePlan) (keys : List KeyReply) (replies : List CapsuleReply) (i : ℕ)
    (field : EncField) (response : List ℕ) → AreReplies p keys replies
    → IsResponse p replies i field response
    → response_at p.plan.pool (before p keys i).answers field ≡ Some response
response_from p keys replies i (Bytes bytes) response are e = ap (λ (b : List ℕ). Some b) e
response_from p keys replies i (Of number) response are g =
    let by = gave_from p keys replies i number response are g in
    ap response_of by.1 ∙ ap (λ (b : List ℕ). Some b) by.2

no_response : (p : CapsulePlan) (keys : List KeyReply) (replies : List CapsuleReply) (i : ℕ)
    (field : EncField) → AreReplies p keys replies
    → (response_at p.plan.pool (before p keys i).answers field ≡ None)
    ↔ ((response : List ℕ) → ¬ IsResponse p replies i field response)
no_response p keys replies i field are =
    let q = response_at p.plan.pool (before p keys i).answers field in
    let back : ((response : List ℕ) → ¬ IsResponse p replies i field response)
    → (o : Option (List ℕ)) → q ≡ o → o ≡ None = λ none. elim [
      | None ↦ λ e. refl
      | Some response ↦ λ e. absurd
          (none response (response_to p keys replies i field response are e))
    ] in (
      λ e response x. let no : None ≡ Some response = sym e
          ∙ response_from p keys replies i field response are x in cc,
      λ none. back none q refl,
    )

-- ---- takes

no_client : (p : CapsulePlan) (keys : List KeyReply) (i ask : ℕ)
    → (left_by (before p keys i).asks ask ≡ None)
    ↔ ((client : SentView) → ¬ Made p keys i ask client)
no_client p keys i ask =
    let v = left_by (before p keys i).asks ask in
    let back : ((client : SentView) → ¬ Made p keys i ask client) → (o : Option SentView) → v ≡ o
    → o ≡ None = λ none. elim [
      | None ↦ λ e. refl
      | Some client ↦ λ e. absurd (none client (made_to p keys i ask client e))
    ] in (
      λ e client x. let no : None ≡ Some client = sym e ∙ made_from p keys i ask client x in cc,
      λ none. back none v refl,
    )

takes_return : (p : CapsulePlan) (keys : List KeyReply) (replies : List CapsuleReply) (i ask : ℕ)
    (field : EncField) (f : CapsuleFault) (P : SentView → List ℕ → Type 0)
    → AreReplies p keys replies
    → ((client : SentView) (response : List ℕ)
    → (taken client.asked response ≡ Err f) ↔ P client response)
    → Takes (left_by (before p keys i).asks ask)
    (response_at p.plan.pool (before p keys i).answers field) f
    ↔ Returns p keys replies i ask field P
takes_return p keys replies i ask field f P are tells = (
  λ x. (
    x.client,
    x.response,
    made_to p keys i ask x.client x.client_is,
    response_to p keys replies i field x.response are x.response_is,
    (tells x.client x.response).0 x.fault_is,
  ),
  λ y. record {
    client = y.0;
    response = y.1;
    client_is = made_from p keys i ask y.0 y.2;
    response_is = response_from p keys replies i field y.1 are y.3;
    fault_is = (tells y.0 y.1).1 y.4;
  },
)

take_cause : (p : CapsulePlan) (keys : List KeyReply) (replies : List CapsuleReply) (i ask : ℕ)
    (field : EncField) (r : CapsuleRefusal)
    → AreReplies p keys replies → slice_get p.lines i ≡ Some (Take ask field)
    → IsRefused replies i r
    ↔ TookFor (left_by (before p keys i).asks ask)
    (response_at p.plan.pool (before p keys i).answers field) r
unfolding took
take_cause p keys replies i ask field r are here =
    let v = left_by (before p keys i).asks ask in
    let q = response_at p.plan.pool (before p keys i).answers field in
    let o : Result (List ℕ) CapsuleRefusal = took_by v q in
    let now : slice_get replies i ≡ Some (took_reply o) =
    reply_here p keys replies i (Take ask field) are here in (
      λ e. took_for_cause v q r (took_err o r (same_some (sym now ∙ e))),
      λ g. now ∙ ap (λ (x : Result (List ℕ) CapsuleRefusal). Some (took_reply x))
          (cause_of_took v q r g),
    )

pub takes_lem : TakesHaveCauses
unfolding TookFor
takes_lem p keys replies i ask field are here =
    let client = no_client p keys i ask in
    let response = no_response p keys replies i field are in
    let cause = λ (r : CapsuleRefusal). take_cause p keys replies i ask field r are here in
    record {
      noask = through (cause NoAsk) client;
      noanswer = through (cause NoAnswer) (
        λ g. (g.0, made_to p keys i ask g.0 g.1, response.0 g.2),
        λ y. (y.0, made_from p keys i ask y.0 y.1, response.1 y.2),
      );
      short = through (cause Short) (takes_return p keys replies i ask field faults.Short
          (λ c r. IsShortResponse c.asked r) are (λ c r. (taken_tells c.asked r).short));
      failed = through (cause Failed) (takes_return p keys replies i ask field faults.Failed
          (λ c r. IsOfNoExchange c.asked r) are
          (λ c r. (taken_tells c.asked r).failed (taken_known c.asked r)));
      nokey = λ e. (cause NoKey).0 e;
      needsecret = λ e. (cause NeedSecret).0 e;
      header = λ e. (cause Header).0 e;
      noncesize = λ e. (cause NonceSize).0 e;
    }
