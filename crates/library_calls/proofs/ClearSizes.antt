-- How long the texts of an exchange are (RFC 9458, 4.3 and 4.4).
use Rattle.std.proofs.Common.{◌≡◌, ◌-◌, ℕ, Bool, true, false, IsTrue, List, [], length, drop, Result, Ok, Err, refl, ap, ◌∙◌, arith, length-drop}
use Rattle.std.specs.Prelude.{if◌then◌else◌, nat_lt}
use Rattle.ring_core.specs.Sets.{Set}
use Rattle.sntrup_kem.specs.Sizes.{enc_size}
use Rattle.hkdf_labelled.specs.declared.suites.Suite.{Suite}
use Rattle.key_schedule.specs.declared.modes.Role.TheVariants.{Recipient}
use Rattle.hpke_aead.proofs.Opening.{IsWhole, length-clear}
use Rattle.hpke_aead.specs.Aeads.{tag_holds, clear}
use Rattle.hpke_context.specs.Contexts.{key_in, nonce_of}
use Rattle.hkdf_labelled.specs.Suites.{encrypts}
use Rattle.sntrup_kem.specs.Kem.{decapsulated}
use Rattle.ohttp_capsule.specs.declared.asking.Asked.{Asked}
use Rattle.ohttp_capsule.specs.declared.faults.CapsuleFault.{CapsuleFault}
use Rattle.ohttp_capsule.specs.declared.faults.CapsuleFault.TheVariants.{Short, Failed}
use Rattle.ohttp_capsule.specs.Requests.{least_request, enc_in, ct_in, recipient_of}
use Rattle.ohttp_capsule.specs.Responses.{entropy_size, aead_key, aead_nonce, encapsulated_response}
use Rattle.ohttp_capsule.specs.Replies.{suite_for, answered_by, answered, least_response, nonce_in, ct_of_response, taken_with, taken}
use Rattle.ohttp_capsule.proofs.Keys.{request_key_is_whole, response_key_is_whole}
use Rattle.ohttp_capsule.proofs.Telling.{ready_by}

-- where the answer of a test is a value, the test passed
passed : {X : Type 0} (b : Bool) (x y : X) (f : CapsuleFault) → (if b then Ok x else Err f) ≡ Ok y → x ≡ y
passed true x y f is = cc
passed false x y f is = absurd cc

went_on : {X : Type 0} (b : Bool) (f : CapsuleFault) (rest : Result X CapsuleFault) (y : X)
    → (if b then Err f else rest) ≡ Ok y → rest ≡ Ok y
went_on true f rest y is = absurd cc
went_on false f rest y is = is

-- ---- the text of a request

opened_size : (set : Set) (kem : ℕ) (sk : List ℕ) (id : ℕ) (request nonce text question response : List ℕ)
    (suite : Result Suite CapsuleFault) → suite_for set kem id request nonce ≡ suite
    → answered_by set sk id request nonce text suite ≡ Ok (question, response)
    → length question ≡ length request - least_request set
opened_size set kem sk id request nonce text question response (Err f) named is = absurd cc
opened_size set kem sk id request nonce text question response (Ok suite) named is =
    let c = recipient_of set sk id suite request in
    let key = key_in c.secrets.cipher in
    let ct = ct_in set request in
    let can = (ready_by set kem id request nonce suite named).encrypts_is in
    let whole : IsWhole key =
    request_key_is_whole Recipient id suite (decapsulated set sk (enc_in set request)) can in
    let both = passed (tag_holds key (nonce_of c 0) [] ct)
    (clear key (nonce_of c 0) ct, encapsulated_response c (enc_in set request) nonce text)
    (question, response) Failed is in
    let first : clear key (nonce_of c 0) ct ≡ question = ap (λ (p : List ℕ × List ℕ). p.0) both in
    omega (
      arith,
      ap length first,
      length-clear key (nonce_of c 0) ct whole,
      length-drop (enc_size set) (drop 7 request),
      length-drop 7 request,
    )

pub question_size : (set : Set) (kem : ℕ) (sk : List ℕ) (id : ℕ) (request nonce text question response : List ℕ)
    → answered set kem sk id request nonce text ≡ Ok (question, response)
    → length question ≡ length request - least_request set
question_size set kem sk id request nonce text question response is =
    opened_size set kem sk id request nonce text question response (suite_for set kem id request nonce)
    refl is

-- ---- the text of a response

pub taken_size : (asked : Asked) (response text : List ℕ) → IsTrue (encrypts asked.context.suite.aead)
    → taken asked response ≡ Ok text → length text ≡ length response - least_response asked
taken_size asked response text can is =
    let nonce = nonce_in asked response in
    let ct = ct_of_response asked response in
    let key = aead_key asked.context asked.enc nonce in
    let once = aead_nonce asked.context asked.enc nonce in
    let rest : taken_with asked nonce ct ≡ Ok text =
    went_on (nat_lt (length response) (least_response asked)) Short (taken_with asked nonce ct) text is in
    let same : clear key once ct ≡ text = passed (tag_holds key once [] ct) (clear key once ct) text Failed rest in
    omega (
      arith,
      ap length same,
      length-clear key once ct (response_key_is_whole asked.context asked.enc nonce can),
      length-drop (entropy_size asked.context.suite.aead) response,
    )
