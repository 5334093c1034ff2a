-- What a gateway's answer and a client's take tell, from the value that the definitions give.
use Rattle.std.proofs.Common.{◌≡◌, ◌≢◌, ◌↔◌, ◌⊎◌, inl, inr, ◌<◌, ◌≤◌, ℕ, Bool, true, false, cond, IsTrue, List, [], length, Result, Ok, Err, refl, sym, ap, subst, ◌∙◌, arith}
use Rattle.std.specs.Prelude.{nat_lt, IfOk}
use Rattle.std.proofs.lemmas.Bool.{cond-true, cond-false, lt-ltb, le-ltb, ltb-false, false_from_ne_true}
use Rattle.ring_core.specs.Sets.{Set}
use Rattle.sntrup_kem.specs.Kem.{decapsulated}
use Rattle.sntrup_kem.specs.Laws.{BothEndsAgree}
use Rattle.key_schedule.specs.declared.modes.Role.TheVariants.{Recipient}
use Rattle.hkdf_labelled.specs.declared.suites.Suite.{Suite}
use Rattle.hpke_aead.specs.declared.keys.AeadKey.{AeadKey}
use Rattle.key_schedule.specs.Nonces.{compute_nonce}
use Rattle.key_schedule.specs.Secrets.{base_nonce_in}
use Rattle.hpke_aead.specs.Aeads.{Holds, tag_holds, clear}
use Rattle.hpke_context.specs.Contexts.{ContextView, key_in, nonce_of, cipher_of}
use Rattle.hkdf_labelled.specs.Suites.{encrypts}
use Rattle.hpke_aead.proofs.Tags.{tag_holds-is}
use Rattle.ohttp_capsule.specs.declared.asking.Asked.{Asked}
use Rattle.ohttp_capsule.specs.declared.faults.CapsuleFault.{CapsuleFault}
use Rattle.ohttp_capsule.specs.declared.faults.CapsuleFault.TheVariants.{Short, Header, NonceSize, Failed, OutOfMemory}
use Rattle.ohttp_capsule.specs.Requests.{least_request, enc_in, ct_in, context_of, recipient_of}
use Rattle.ohttp_capsule.specs.Responses.{entropy_size, aead_key, aead_nonce, encapsulated_response}
use Rattle.ohttp_capsule.specs.Replies.{suite_for, answered_in, answered_by, answered, least_response, nonce_in, ct_of_response, opened_with, taken_with, taken}
use Rattle.ohttp_capsule.specs.Refusals.{IsShortRequest, HasOtherHeader, HasOtherNonce, DoesNotOpen, IsShortResponse, IsOfNoExchange}
use Rattle.ohttp_capsule.specs.Laws.{Asks, Exchanges}
use Rattle.ohttp_capsule.proofs.Refusing.{Judged, judged, short_by, header_by, nonce_by, suite_by, lt_true}
use Rattle.ohttp_capsule.proofs.Exchanging.{whole_exchange_lem}

-- ---- a tag

wrong_tag : (key : AeadKey) (nonce ct : List ℕ) → ¬ Holds key nonce [] ct → tag_holds key nonce [] ct ≡ false
wrong_tag key nonce ct wrong =
    false_from_ne_true (tag_holds key nonce [] ct)
    (λ t. wrong ((tag_holds-is key nonce [] ct).0 t))

tag_is_wrong : (key : AeadKey) (nonce ct : List ℕ) → tag_holds key nonce [] ct ≡ false
    → ¬ Holds key nonce [] ct
tag_is_wrong key nonce ct e holds =
    let t : tag_holds key nonce [] ct ≡ true = (tag_holds-is key nonce [] ct).1 holds in
    let no : true ≡ false = sym t ∙ e in
    cc

failed_by : {A : Type 0} (b : Bool) (x : A) (f : CapsuleFault)
    → cond b (Ok x) (Err Failed) ≡ Err f → (f ≡ Failed) × (b ≡ false)
failed_by true x f e = absurd cc
failed_by false x f e = (let same : Failed ≡ f = cc in sym same, refl)

-- what is opened: the text where the tag holds, and else the fault
pub record IsOpened (key : AeadKey) (nonce ct : List ℕ) (r : Result (List ℕ) CapsuleFault) : Type 0 where
  pub text : IfOk r (λ t. t ≡ clear key nonce ct)
  pub holds : IfOk r (λ t. tag_holds key nonce [] ct ≡ true)
  pub failed : r ≡ Err Failed → tag_holds key nonce [] ct ≡ false
  pub faults : (f : CapsuleFault) → r ≡ Err f → (f ≡ Failed) ⊎ (f ≡ OutOfMemory)

known_or_memory : (f : CapsuleFault)
    → (◌≢◌ {A = Result (List ℕ) CapsuleFault} (Err f) (Err OutOfMemory)) ⊎ (f ≡ OutOfMemory)
known_or_memory Short = inl (λ m. cc)
known_or_memory Header = inl (λ m. cc)
known_or_memory NonceSize = inl (λ m. cc)
known_or_memory Failed = inl (λ m. cc)
known_or_memory OutOfMemory = inr refl

opened_by : (key : AeadKey) (nonce ct : List ℕ) (b : Bool) → tag_holds key nonce [] ct ≡ b
    → (r : Result (List ℕ) CapsuleFault)
    → (r ≢ Err OutOfMemory → r ≡ cond b (Ok (clear key nonce ct)) (Err Failed))
    → IsOpened key nonce ct r
opened_by key nonce ct true is (Ok t) told =
    let e : Ok t ≡ Ok (clear key nonce ct) = told (λ m. cc) in
    record { text = cc; holds = is; failed = λ m. absurd cc; faults = λ f m. absurd cc }
opened_by key nonce ct false is (Ok t) told =
    absurd (let e : Ok t ≡ Err Failed = told (λ m. cc) in cc)
opened_by key nonce ct true is (Err f) told = elim (known_or_memory f) [
  | inl known ↦ absurd (let e : Err f ≡ Ok (clear key nonce ct) = told known in cc)
  | inr same ↦ record {
    text = tt;
    holds = tt;
    failed = λ m. absurd cc;
    faults = λ g m. inr cc;
  }
]
opened_by key nonce ct false is (Err f) told = record {
  text = tt;
  holds = tt;
  failed = λ m. is;
  faults = λ g m. elim (known_or_memory f) [
    | inl known ↦ inl (let e : Err f ≡ Err Failed = told known in cc)
    | inr same ↦ inr cc
  ];
}

pub opened_tells : (key : AeadKey) (nonce ct : List ℕ) (r : Result (List ℕ) CapsuleFault)
    → (r ≢ Err OutOfMemory → r ≡ opened_with key nonce ct) → IsOpened key nonce ct r
opened_tells key nonce ct r told = opened_by key nonce ct (tag_holds key nonce [] ct) refl r told

-- ---- the gateway

pub record Told (set : Set) (kem : ℕ) (sk : List ℕ) (id : ℕ) (request nonce text : List ℕ)
    (r : Result (List ℕ × List ℕ) CapsuleFault) : Type 0 where
  pub told : r ≢ Err OutOfMemory → r ≡ answered set kem sk id request nonce text
  pub late : r ≡ Err OutOfMemory → (s : Suite) × (suite_for set kem id request nonce ≡ Ok s)

-- ---- how a body comes to it

pub told_refusal : (set : Set) (kem : ℕ) (sk : List ℕ) (id : ℕ) (request nonce text : List ℕ)
    (r : Result (List ℕ × List ℕ) CapsuleFault) (f : CapsuleFault)
    → suite_for set kem id request nonce ≡ Err f → r ≡ Err f
    → Told set kem sk id request nonce text r
unfolding Judged
told_refusal set kem sk id request nonce text r f refused is = record {
  told = λ known. is ∙ sym (ap (answered_by set sk id request nonce text) refused);
  late = λ m.
      let same : f ≡ OutOfMemory = (let e : Err f ≡ Err OutOfMemory = sym is ∙ m in cc) in
      absurd (judged set kem id request nonce (Err OutOfMemory)
      (refused ∙ ap (λ (g : CapsuleFault). Err g) same));
}

pub told_memory : (set : Set) (kem : ℕ) (sk : List ℕ) (id : ℕ) (request nonce text : List ℕ)
    (r : Result (List ℕ × List ℕ) CapsuleFault) (s : Suite)
    → suite_for set kem id request nonce ≡ Ok s → r ≡ Err OutOfMemory
    → Told set kem sk id request nonce text r
told_memory set kem sk id request nonce text r s named is =
    record { told = λ known. absurd (known is); late = λ m. (s, named) }

pub told_answer : (set : Set) (kem : ℕ) (sk : List ℕ) (id : ℕ) (request nonce text : List ℕ)
    (r : Result (List ℕ × List ℕ) CapsuleFault) (s : Suite) (context : ContextView)
    (shared_secret enc ct : List ℕ)
    → suite_for set kem id request nonce ≡ Ok s
    → enc ≡ enc_in set request → ct ≡ ct_in set request
    → shared_secret ≡ decapsulated set sk enc
    → context ≡ context_of Recipient id s shared_secret
    → (r ≢ Err OutOfMemory → r ≡ answered_in context enc ct nonce text)
    → Told set kem sk id request nonce text r
told_answer set kem sk id request nonce text r s context shared_secret enc ct named enc_is ct_is
    secret_is context_is answered_is =
    let of : context ≡ recipient_of set sk id s request =
    context_is ∙ ap (context_of Recipient id s) secret_is
    ∙ ap (λ e. context_of Recipient id s (decapsulated set sk e)) enc_is in
    record {
      told = λ known.
          answered_is known
          ∙ ap (λ c. answered_in c enc ct nonce text) of
          ∙ ap (λ e. answered_in (recipient_of set sk id s request) e ct nonce text) enc_is
          ∙ ap (λ t. answered_in (recipient_of set sk id s request) (enc_in set request) t nonce
          text) ct_is
          ∙ sym (ap (answered_by set sk id request nonce text) named);
      late = λ m. (s, named);
    }

-- the suite of a request that isn't refused yet encrypts, and the request is long enough
pub record Ready (set : Set) (request nonce : List ℕ) (s : Suite) : Type 0 where
  pub long : least_request set ≤ length request
  pub encrypts_is : IsTrue (encrypts s.aead)

pub ready_by : (set : Set) (kem id : ℕ) (request nonce : List ℕ) (s : Suite)
    → suite_for set kem id request nonce ≡ Ok s → Ready set request nonce s
unfolding Judged
ready_by set kem id request nonce s named =
    let fits = judged set kem id request nonce (Ok s) named in
    record { long = fits.to.long; encrypts_is = fits.to.named.encrypts_is }

-- ---- what it tells

-- a refusal that needs no key is that of the algorithms
early_by : (set : Set) (sk : List ℕ) (id : ℕ) (request nonce text : List ℕ) (f : CapsuleFault)
    → f ≢ Failed → (v : Result Suite CapsuleFault)
    → answered_by set sk id request nonce text v ≡ Err f → v ≡ Err f
early_by set sk id request nonce text f other (Err g) e =
    let same : g ≡ f = cc in ap (λ (h : CapsuleFault). Err h) same
early_by set sk id request nonce text f other (Ok s) e =
    let c = recipient_of set sk id s request in
    absurd (other (failed_by ((cipher_of c).holds 0 [] (ct_in set request)) _ f e).0)

early_clause : (set : Set) (kem : ℕ) (sk : List ℕ) (id : ℕ) (request nonce text : List ℕ)
    (r : Result (List ℕ × List ℕ) CapsuleFault) (f : CapsuleFault) (P : Type 0)
    → Told set kem sk id request nonce text r → f ≢ Failed → f ≢ OutOfMemory
    → (suite_for set kem id request nonce ≡ Err f → P)
    → (P → suite_for set kem id request nonce ≡ Err f) → (r ≡ Err f) ↔ P
early_clause set kem sk id request nonce text r f P told other kept from to = (
  λ e.
      let known : r ≢ Err OutOfMemory = λ m. kept (let same : Err f ≡ Err OutOfMemory = sym e ∙ m in
      cc) in
      from (early_by set sk id request nonce text f other (suite_for set kem id request nonce)
      (sym (told.told known) ∙ e)),
  λ p.
      let refused = to p in
      told.told (λ m. let l = told.late m in
      let no : Err f ≡ Ok l.0 = sym refused ∙ l.1 in cc)
      ∙ ap (answered_by set sk id request nonce text) refused,
)

short_clause : (set : Set) (kem : ℕ) (sk : List ℕ) (id : ℕ) (request nonce text : List ℕ)
    (r : Result (List ℕ × List ℕ) CapsuleFault) → Told set kem sk id request nonce text r
    → (r ≡ Err Short) ↔ IsShortRequest set request
unfolding Judged
short_clause set kem sk id request nonce text r told =
    early_clause set kem sk id request nonce text r Short (IsShortRequest set request) told
    (λ e. cc) (λ e. cc) (judged set kem id request nonce (Err Short))
    (short_by set kem id request nonce)

header_clause : (set : Set) (kem : ℕ) (sk : List ℕ) (id : ℕ) (request nonce text : List ℕ)
    (r : Result (List ℕ × List ℕ) CapsuleFault) → Told set kem sk id request nonce text r
    → (r ≡ Err Header) ↔ HasOtherHeader set kem id request
unfolding Judged
header_clause set kem sk id request nonce text r told =
    early_clause set kem sk id request nonce text r Header (HasOtherHeader set kem id request) told
    (λ e. cc) (λ e. cc) (judged set kem id request nonce (Err Header))
    (header_by set kem id request nonce)

nonce_clause : (set : Set) (kem : ℕ) (sk : List ℕ) (id : ℕ) (request nonce text : List ℕ)
    (r : Result (List ℕ × List ℕ) CapsuleFault) → Told set kem sk id request nonce text r
    → (r ≡ Err NonceSize) ↔ HasOtherNonce set kem id request nonce
unfolding Judged
nonce_clause set kem sk id request nonce text r told =
    early_clause set kem sk id request nonce text r NonceSize
    (HasOtherNonce set kem id request nonce) told
    (λ e. cc) (λ e. cc) (judged set kem id request nonce (Err NonceSize))
    (λ p. nonce_by set kem id request nonce p.0 p.1 p.2)

does_not_open : (set : Set) (kem : ℕ) (sk : List ℕ) (id : ℕ) (request nonce text : List ℕ)
    (v : Result Suite CapsuleFault) → suite_for set kem id request nonce ≡ v
    → answered_by set sk id request nonce text v ≡ Err Failed
    → DoesNotOpen set kem sk id request nonce
unfolding Judged
does_not_open set kem sk id request nonce text (Err f) named e =
    let same : f ≡ Failed = cc in
    absurd (judged set kem id request nonce (Err Failed)
    (named ∙ ap (λ (g : CapsuleFault). Err g) same))
does_not_open set kem sk id request nonce text (Ok s) named e =
    let fits = judged set kem id request nonce (Ok s) named in
    let c = recipient_of set sk id s request in
    let ct = ct_in set request in
    record {
      suite = s;
      to = fits.to;
      nonce_size = fits.size;
      wrong = tag_is_wrong (key_in c.secrets.cipher) (nonce_of c 0) ct
          (failed_by ((cipher_of c).holds 0 [] ct) _ Failed e).1;
    }

failed_clause : (set : Set) (kem : ℕ) (sk : List ℕ) (id : ℕ) (request nonce text : List ℕ)
    (r : Result (List ℕ × List ℕ) CapsuleFault) → Told set kem sk id request nonce text r
    → r ≢ Err OutOfMemory → (r ≡ Err Failed) ↔ DoesNotOpen set kem sk id request nonce
failed_clause set kem sk id request nonce text r told known = (
  λ e. does_not_open set kem sk id request nonce text (suite_for set kem id request nonce) refl
      (sym (told.told known) ∙ e),
  λ d.
      let c = recipient_of set sk id d.suite request in
      let ct = ct_in set request in
      told.told known
      ∙ ap (answered_by set sk id request nonce text)
      (suite_by set kem id request nonce d.suite d.to d.nonce_size)
      ∙ cond-false (tag_holds (key_in c.secrets.cipher) (nonce_of c 0) [] ct)
      (Ok ((cipher_of c).clear 0 [] ct, encapsulated_response c (enc_in set request) nonce text))
      (Err Failed)
      (wrong_tag (key_in c.secrets.cipher) (nonce_of c 0) ct d.wrong),
)

exchange_clause : (set : Set) (kem : ℕ) (sk : List ℕ) (id : ℕ) (request nonce text : List ℕ)
    (r : Result (List ℕ × List ℕ) CapsuleFault) → Told set kem sk id request nonce text r
    → BothEndsAgree set → r ≢ Err OutOfMemory
    → (asked : Asked) (question : List ℕ) → Asks set kem sk id asked request question
    → length nonce ≡ entropy_size asked.context.suite.aead → Exchanges r asked question text
exchange_clause set kem sk id request nonce text r told agree known asked question asks size =
    let whole =
    whole_exchange_lem set kem agree sk id asked request question nonce text asks size in
    record {
      response = whole.response;
      question_is = told.told known ∙ whole.question_is;
      reply_is = whole.reply_is;
    }

-- all of it
pub record Tells (set : Set) (kem : ℕ) (sk : List ℕ) (id : ℕ) (request nonce text : List ℕ)
    (r : Result (List ℕ × List ℕ) CapsuleFault) : Type 0 where
  pub answered_is : r ≢ Err OutOfMemory → r ≡ answered set kem sk id request nonce text
  pub short : (r ≡ Err Short) ↔ IsShortRequest set request
  pub header : (r ≡ Err Header) ↔ HasOtherHeader set kem id request
  pub nonce_size : (r ≡ Err NonceSize) ↔ HasOtherNonce set kem id request nonce
  pub failed : r ≢ Err OutOfMemory
      → (r ≡ Err Failed) ↔ DoesNotOpen set kem sk id request nonce
  pub exchange : r ≢ Err OutOfMemory
      → (asked : Asked) (question : List ℕ) → Asks set kem sk id asked request question
      → length nonce ≡ entropy_size asked.context.suite.aead → Exchanges r asked question text

pub tells : (set : Set) (kem : ℕ) (sk : List ℕ) (id : ℕ) (request nonce text : List ℕ)
    (r : Result (List ℕ × List ℕ) CapsuleFault) → BothEndsAgree set
    → Told set kem sk id request nonce text r → Tells set kem sk id request nonce text r
tells set kem sk id request nonce text r agree told = record {
  answered_is = told.told;
  short = short_clause set kem sk id request nonce text r told;
  header = header_clause set kem sk id request nonce text r told;
  nonce_size = nonce_clause set kem sk id request nonce text r told;
  failed = failed_clause set kem sk id request nonce text r told;
  exchange = exchange_clause set kem sk id request nonce text r told agree;
}

-- ---- the client

pub record ToldOf (asked : Asked) (response : List ℕ) (r : Result (List ℕ) CapsuleFault)
    : Type 0 where
  pub told : r ≢ Err OutOfMemory → r ≡ taken asked response
  pub late : r ≡ Err OutOfMemory → least_response asked ≤ length response

-- ---- how a body comes to it

pub told_short : (asked : Asked) (response : List ℕ) (r : Result (List ℕ) CapsuleFault)
    → length response < least_response asked → r ≡ Err Short → ToldOf asked response r
told_short asked response r few is = record {
  told = λ known. is ∙ sym (cond-true (nat_lt (length response) (least_response asked)) (Err Short)
      (taken_with asked (nonce_in asked response) (ct_of_response asked response))
      (lt-ltb (length response) (least_response asked) few));
  late = λ m. let no : Err Short ≡ Err OutOfMemory = sym is ∙ m in absurd cc;
}

pub told_late : (asked : Asked) (response : List ℕ) (r : Result (List ℕ) CapsuleFault)
    → least_response asked ≤ length response
    → (r ≢ Err OutOfMemory
    → r ≡ taken_with asked (nonce_in asked response) (ct_of_response asked response))
    → ToldOf asked response r
told_late asked response r long is = record {
  told = λ known. is known ∙ sym (cond-false (nat_lt (length response) (least_response asked))
      (Err Short) (taken_with asked (nonce_in asked response) (ct_of_response asked response))
      (le-ltb (length response) (least_response asked) long));
  late = λ m. long;
}

-- what is opened with the key of the parts of a response
pub taken_by_parts : (asked : Asked) (response : List ℕ) (key : AeadKey) (once enc nonce ct : List ℕ)
    → enc ≡ asked.enc → nonce ≡ nonce_in asked response → ct ≡ ct_of_response asked response
    → key ≡ aead_key asked.context enc nonce → once ≡ aead_nonce asked.context enc nonce
    → opened_with key once ct
    ≡ taken_with asked (nonce_in asked response) (ct_of_response asked response)
taken_by_parts asked response key once enc nonce ct enc_is nonce_is ct_is key_is once_is =
    let c = asked.context in
    let key_made : key ≡ aead_key c asked.enc (nonce_in asked response) =
    key_is ∙ ap (λ e. aead_key c e nonce) enc_is ∙ ap (aead_key c asked.enc) nonce_is in
    let once_made : once ≡ aead_nonce c asked.enc (nonce_in asked response) =
    once_is ∙ ap (λ e. aead_nonce c e nonce) enc_is ∙ ap (aead_nonce c asked.enc) nonce_is in
    ap (λ k. opened_with k once ct) key_made
    ∙ ap (λ o. opened_with (aead_key c asked.enc (nonce_in asked response)) o ct) once_made
    ∙ ap (opened_with (aead_key c asked.enc (nonce_in asked response))
    (aead_nonce c asked.enc (nonce_in asked response))) ct_is

-- ---- what it tells

Refused : Asked → List ℕ → CapsuleFault → Type 0
Refused asked response Short = IsShortResponse asked response
Refused asked response Failed = IsOfNoExchange asked response
Refused asked response Header = ⊥
Refused asked response NonceSize = ⊥
Refused asked response OutOfMemory = ⊥

abbrev taken_by : Asked → List ℕ → Result (List ℕ) CapsuleFault
taken_by asked response =
    taken_with asked (nonce_in asked response) (ct_of_response asked response)

refused_length : (asked : Asked) (response : List ℕ) (f : CapsuleFault) (b : Bool)
    → nat_lt (length response) (least_response asked) ≡ b
    → cond b (Err Short) (taken_by asked response) ≡ Err f → Refused asked response f
unfolding Refused
refused_length asked response f true few e =
    let same : Short ≡ f = cc in
    subst (Refused asked response) same (lt_true (length response) (least_response asked) few)
refused_length asked response f false many e =
    let nonce = nonce_in asked response in
    let key = aead_key asked.context asked.enc nonce in
    let once = aead_nonce asked.context asked.enc nonce in
    let ct = ct_of_response asked response in
    let failed = failed_by (tag_holds key once [] ct) (clear key once ct) f e in
    subst (Refused asked response) (sym failed.0) (record {
      long = ltb-false (length response) (least_response asked) many;
      wrong = tag_is_wrong key once ct failed.1;
    })

refused_by : (asked : Asked) (response : List ℕ) (f : CapsuleFault)
    → taken asked response ≡ Err f → Refused asked response f
refused_by asked response f e =
    refused_length asked response f (nat_lt (length response) (least_response asked)) refl e

fault_by : (asked : Asked) (response : List ℕ) (r : Result (List ℕ) CapsuleFault)
    (f : CapsuleFault) → ToldOf asked response r → f ≢ OutOfMemory → r ≡ Err f
    → Refused asked response f
fault_by asked response r f told kept e =
    refused_by asked response f
    (sym (told.told (λ m. kept (let same : Err f ≡ Err OutOfMemory = sym e ∙ m in cc))) ∙ e)

short_taken : (asked : Asked) (response : List ℕ) (r : Result (List ℕ) CapsuleFault)
    → ToldOf asked response r → (r ≡ Err Short) ↔ IsShortResponse asked response
unfolding Refused
short_taken asked response r told = (
  fault_by asked response r Short told (λ e. cc),
  λ few.
      told.told (λ m. let long = told.late m in absurd (omega arith))
      ∙ cond-true (nat_lt (length response) (least_response asked)) (Err Short)
      (taken_by asked response) (lt-ltb (length response) (least_response asked) few),
)

failed_taken : (asked : Asked) (response : List ℕ) (r : Result (List ℕ) CapsuleFault)
    → ToldOf asked response r → r ≢ Err OutOfMemory
    → (r ≡ Err Failed) ↔ IsOfNoExchange asked response
unfolding Refused
failed_taken asked response r told known = (
  fault_by asked response r Failed told (λ e. cc),
  λ none.
      let nonce = nonce_in asked response in
      let key = aead_key asked.context asked.enc nonce in
      let once = aead_nonce asked.context asked.enc nonce in
      let ct = ct_of_response asked response in
      told.told known
      ∙ cond-false (nat_lt (length response) (least_response asked)) (Err Short)
      (taken_by asked response) (le-ltb (length response) (least_response asked) none.long)
      ∙ cond-false (tag_holds key once [] ct) (Ok (clear key once ct)) (Err Failed)
      (wrong_tag key once ct none.wrong),
)

header_taken : (asked : Asked) (response : List ℕ) (r : Result (List ℕ) CapsuleFault)
    → ToldOf asked response r → r ≢ Err Header
unfolding Refused
header_taken asked response r told e = fault_by asked response r Header told (λ m. cc) e

nonce_taken : (asked : Asked) (response : List ℕ) (r : Result (List ℕ) CapsuleFault)
    → ToldOf asked response r → r ≢ Err NonceSize
unfolding Refused
nonce_taken asked response r told e = fault_by asked response r NonceSize told (λ m. cc) e

-- all of it
pub record TellsOf (asked : Asked) (response : List ℕ) (r : Result (List ℕ) CapsuleFault)
    : Type 0 where
  pub taken_is : r ≢ Err OutOfMemory → r ≡ taken asked response
  pub short : (r ≡ Err Short) ↔ IsShortResponse asked response
  pub failed : r ≢ Err OutOfMemory → (r ≡ Err Failed) ↔ IsOfNoExchange asked response
  pub header : r ≢ Err Header
  pub nonce_size : r ≢ Err NonceSize

pub tells_of : (asked : Asked) (response : List ℕ) (r : Result (List ℕ) CapsuleFault)
    → ToldOf asked response r → TellsOf asked response r
tells_of asked response r told = record {
  taken_is = told.told;
  short = short_taken asked response r told;
  failed = failed_taken asked response r told;
  header = header_taken asked response r told;
  nonce_size = nonce_taken asked response r told;
}
