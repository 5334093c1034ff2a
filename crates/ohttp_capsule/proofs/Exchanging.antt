-- What was asked is answered, and what was answered is taken.
use Rattle.std.proofs.Common.{◌≡◌, ◌≤◌, ℕ, ℤ, IsTrue, true, List, [], ◌++◌, length, take, drop, Result, Ok, Err, refl, sym, ap, subst, ◌∙◌, arith, append_assoc, length-append}
use Rattle.std.specs.Prelude.{nat_lt}
use Rattle.std.proofs.lemmas.Bool.{cond-true, cond-false, le-ltb}
use Rattle.std.proofs.lemmas.List.{take_at, drop_at}
use Rattle.ring_core.specs.Sets.{Set}
use Rattle.sntrup_kem.specs.Sizes.{enc_size}
use Rattle.sntrup_kem.specs.Kem.{enc_of, session_of, decapsulated}
use Rattle.sntrup_kem.specs.Laws.{BothEndsAgree}
use Rattle.hkdf_labelled.specs.declared.suites.Suite.{Suite}
use Rattle.key_schedule.specs.declared.modes.Role.TheVariants.{Sender, Recipient}
use Rattle.hpke_aead.proofs.Opening.{IsWhole, seal-holds, seal-clear, holds-long}
use Rattle.hpke_aead.specs.Aeads.{seal, tag_holds, clear}
use Rattle.hpke_context.specs.Contexts.{key_in, nonce_of, cipher_of}
use Rattle.hkdf_labelled.specs.Suites.{encrypts}
use Rattle.hpke_aead.proofs.Tags.{tag_holds-is}
use Rattle.ohttp_capsule.specs.declared.asking.Asked.{Asked}
use Rattle.ohttp_capsule.specs.declared.faults.CapsuleFault.{CapsuleFault}
use Rattle.ohttp_capsule.specs.declared.faults.CapsuleFault.TheVariants.{Short, Failed}
use Rattle.ohttp_capsule.specs.Headers.{header}
use Rattle.ohttp_capsule.specs.Requests.{least_request, header_in, enc_in, ct_in, context_of, asked_with, recipient_of, encapsulated_request}
use Rattle.ohttp_capsule.specs.Responses.{entropy_size, aead_key, aead_nonce, encapsulated_response}
use Rattle.ohttp_capsule.specs.Replies.{suite_for, answered_in, answered_by, answered, least_response, taken_with, taken}
use Rattle.ohttp_capsule.specs.Laws.{Exchanges, WholeExchange}
use Rattle.ohttp_capsule.proofs.Refusing.{suite_by}
use Rattle.ohttp_capsule.proofs.Keys.{request_key_is_whole, response_key_is_whole}

-- ---- the parts of a message

-- the three parts of a request
pub record Parts (set : Set) (request front enc ct : List ℕ) : Type 0 where
  pub front_is : header_in request ≡ front
  pub enc_is : enc_in set request ≡ enc
  pub ct_is : ct_in set request ≡ ct

pub parts_of : (set : Set) (front enc ct : List ℕ) → length front ≡ 7 → length enc ≡ enc_size set
    → Parts set (front ++ enc ++ ct) front enc ct
parts_of set front enc ct front_size size =
    let grouped : front ++ enc ++ ct ≡ front ++ (enc ++ ct) = append_assoc front enc ct in
    let behind : drop 7 (front ++ enc ++ ct) ≡ enc ++ ct =
    ap (drop 7) grouped ∙ drop_at front (enc ++ ct) 7 front_size in
    record {
      front_is = ap (take 7) grouped ∙ take_at front (enc ++ ct) 7 front_size;
      enc_is = ap (take (enc_size set)) behind ∙ take_at enc ct (enc_size set) size;
      ct_is = ap (drop (enc_size set)) behind ∙ drop_at enc ct (enc_size set) size;
    }

-- ---- one exchange

record Pair (set : Set) (pk sk : List ℕ) (r : List ℤ) : Type 0 where
  agree : decapsulated set sk (enc_of set pk r) ≡ session_of set pk r
  enc_count : length (enc_of set pk r) ≡ enc_size set

-- the algorithms of a request that was asked
suite_is : (set : Set) (kem id : ℕ) (suite : Suite) (enc ct nonce : List ℕ) → suite.kem ≡ kem
    → IsTrue (encrypts suite.aead) → length enc ≡ enc_size set → 16 ≤ length ct
    → length nonce ≡ entropy_size suite.aead
    → suite_for set kem id (header id suite ++ enc ++ ct) nonce ≡ Ok suite
suite_is set kem id suite enc ct nonce kem_is can count tagged size =
    let front = header id suite in
    let request = front ++ enc ++ ct in
    let parts = parts_of set front enc ct refl count in
    let front_size : length front ≡ 7 = refl in
    let long : least_request set ≤ length request =
    omega (arith, length-append (front ++ enc) ct, length-append front enc, front_size) in
    suite_by set kem id request nonce suite (record {
      long = long;
      named = record {
        kem_is = kem_is;
        encrypts_is = can;
        header_is = sym parts.front_is;
      };
    }) size

-- a text that one end sealed is opened by the other
opens_first : (id : ℕ) (suite : Suite) (ss enc nonce question reply : List ℕ)
    → IsTrue (encrypts suite.aead)
    → answered_in (context_of Recipient id suite ss) enc
    ((cipher_of (context_of Sender id suite ss)).sealed 0 [] question) nonce reply
    ≡ Ok (question, encapsulated_response (context_of Sender id suite ss) enc nonce reply)
opens_first id suite ss enc nonce question reply can =
    let c = context_of Recipient id suite ss in
    let key = key_in c.secrets.cipher in
    let whole : IsWhole key = request_key_is_whole Recipient id suite ss can in
    let ct = seal key (nonce_of c 0) [] question in
    let response = encapsulated_response c enc nonce reply in
    let holds : tag_holds key (nonce_of c 0) [] ct ≡ true =
    (tag_holds-is key (nonce_of c 0) [] ct).1 (seal-holds key (nonce_of c 0) [] question whole) in
    let made : List ℕ → Result (List ℕ × List ℕ) CapsuleFault = λ text. Ok (text, response) in
    cond-true (tag_holds key (nonce_of c 0) [] ct) (made (clear key (nonce_of c 0) ct)) (Err Failed)
    holds
    ∙ ap made (seal-clear key (nonce_of c 0) [] question whole)

-- what was answered is taken
takes_response : (asked : Asked) (nonce reply : List ℕ)
    → IsTrue (encrypts asked.context.suite.aead)
    → length nonce ≡ entropy_size asked.context.suite.aead
    → taken asked (encapsulated_response asked.context asked.enc nonce reply) ≡ Ok reply
takes_response asked nonce reply can size =
    let c = asked.context in
    let n = entropy_size c.suite.aead in
    let key = aead_key c asked.enc nonce in
    let once = aead_nonce c asked.enc nonce in
    let whole : IsWhole key = response_key_is_whole c asked.enc nonce can in
    let ct = seal key once [] reply in
    let response = nonce ++ ct in
    let sealed = seal-holds key once [] reply whole in
    let long : least_response asked ≤ length response =
    omega (arith, length-append nonce ct, holds-long key once [] ct sealed, size) in
    let holds : tag_holds key once [] ct ≡ true = (tag_holds-is key once [] ct).1 sealed in
    cond-false (nat_lt (length response) (least_response asked)) (Err Short)
    (taken_with asked (take n response) (drop n response))
    (le-ltb (length response) (least_response asked) long)
    ∙ ap (λ m. taken_with asked m (drop n response)) (take_at nonce ct n size)
    ∙ ap (taken_with asked nonce) (drop_at nonce ct n size)
    ∙ cond-true (tag_holds key once [] ct) (Ok (clear key once ct)) (Err Failed) holds
    ∙ ap (λ (t : List ℕ). Ok t) (seal-clear key once [] reply whole)

exchanges : (set : Set) (kem : ℕ) (sk : List ℕ) (id : ℕ) (suite : Suite) (pk : List ℕ) (r : List ℤ)
    (question nonce reply : List ℕ) → Pair set pk sk r → suite.kem ≡ kem
    → IsTrue (encrypts suite.aead) → length nonce ≡ entropy_size suite.aead
    → Exchanges (answered set kem sk id (encapsulated_request id (asked_with id suite set pk r) question)
    nonce reply) (asked_with id suite set pk r) question reply
exchanges set kem sk id suite pk r question nonce reply pair kem_is can size =
    let asked = asked_with id suite set pk r in
    let ss = session_of set pk r in
    let enc = enc_of set pk r in
    let front = header id suite in
    let key = key_in asked.context.secrets.cipher in
    let whole : IsWhole key = request_key_is_whole Sender id suite ss can in
    let ct = seal key (nonce_of asked.context 0) [] question in
    let tagged = holds-long key (nonce_of asked.context 0) [] ct (seal-holds key (nonce_of asked.context 0) [] question whole) in
    let request = front ++ enc ++ ct in
    let parts = parts_of set front enc ct refl pair.enc_count in
    let context : recipient_of set sk id suite request ≡ context_of Recipient id suite ss =
    ap (λ e. context_of Recipient id suite (decapsulated set sk e)) parts.enc_is
    ∙ ap (context_of Recipient id suite) pair.agree in
    record {
      response = encapsulated_response asked.context enc nonce reply;
      question_is =
          ap (answered_by set sk id request nonce reply)
          (suite_is set kem id suite enc ct nonce kem_is can pair.enc_count tagged size)
          ∙ ap (λ c. answered_in c (enc_in set request) (ct_in set request) nonce reply) context
          ∙ ap (λ e. answered_in (context_of Recipient id suite ss) e (ct_in set request) nonce reply)
          parts.enc_is
          ∙ ap (λ t. answered_in (context_of Recipient id suite ss) enc t nonce reply) parts.ct_is
          ∙ opens_first id suite ss enc nonce question reply can;
      reply_is = takes_response asked nonce reply can size;
    }

pub whole_exchange_lem : (set : Set) (kem : ℕ) → BothEndsAgree set → WholeExchange set kem
whole_exchange_lem set kem agree sk id asked request question nonce reply asks size =
    let made = asked_with id asks.suite set asks.pk asks.r in
    let pair : Pair set asks.pk sk asks.r = record {
      agree = agree asks.word asks.place asks.j asks.pk sk asks.r asks.generated asks.short;
      enc_count = ap (λ (a : Asked). length a.enc) (sym asks.asked_is) ∙ asks.enc_count;
    } in
    let one = exchanges set kem sk id asks.suite asks.pk asks.r question nonce reply pair asks.kem_is
    asks.encrypts_is
    (size ∙ ap (λ (a : Asked). entropy_size a.context.suite.aead) asks.asked_is) in
    let P : List ℕ → Type 0 =
    λ req. Exchanges (answered set kem sk id req nonce reply) asked question reply in
    let Q : Asked → Type 0 =
    λ a. Exchanges (answered set kem sk id (encapsulated_request id a question) nonce reply) a
    question reply in
    subst P (sym asks.request_is) (subst Q (sym asks.asked_is) one)
