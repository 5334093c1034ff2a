use Rattle.std.proofs.Common.{ℕ, ℤ, List, Result, Ok, Err, ◌≡◌, ◌+◌, length, refl, ap, ◌∙◌, arith}
use Rattle.std.specs.Prelude.{IfOk}
use Rattle.std.proofs.lemmas.Result.{IfOk-weaker}
use Rattle.ring_core.specs.Sets.{Set}
use Rattle.sntrup_kem.specs.Sizes.{enc_size}
use Rattle.sntrup_kem.specs.Kem.{drawn_r, enc_of, session_of}
use Rattle.hkdf_labelled.specs.declared.suites.Suite.{Suite}
use Rattle.key_schedule.specs.declared.modes.Role.TheVariants.{Sender}
use Rattle.ohttp_capsule.specs.declared.asking.Asked.{Asked}
use Rattle.ohttp_capsule.specs.Headers.{header_size}
use Rattle.ohttp_capsule.specs.Requests.{tag_size, least_request, context_of, asked_with}
use Rattle.ohttp_capsule.proofs.asking.ask.Goals as goal

asked_by_both : (id : ℕ) (given suite : Suite) (set : Set) (pk : List ℕ) (r : List ℤ) (enc key : List ℕ) (asked : Asked)
    → given ≡ suite → enc ≡ enc_of set pk r → key ≡ session_of set pk r
    → asked ≡ record { context = context_of Sender id given key; enc = enc }
    → asked ≡ asked_with id suite set pk r
asked_by_both id given suite set pk r enc key asked given_is enc_is key_is is =
    is ∙ ap (λ (s : Suite). record { context = context_of Sender id s key; enc = enc }) given_is
    ∙ ap (λ (k : List ℕ). record { context = context_of Sender id suite k; enc = enc }) key_is
    ∙ ap (λ (e : List ℕ). record { context = context_of Sender id suite (session_of set pk r); enc = e }) enc_is

whole_size : (set : Set) (n enc text : ℕ) → enc ≡ enc_size set → n ≡ header_size + enc + (text + tag_size)
    → n ≡ least_request set + text
whole_size set n enc text e is = omega arith

if_ok_both : {T E : Type 0} (r : Result T E) (P Q R : T → Type 0) → ((x : T) → P x → Q x → R x)
    → IfOk r P → IfOk r Q → IfOk r R
if_ok_both (Ok x) P Q R f p q = f x p q
if_ok_both (Err e) P Q R f p q = tt

pub returns-clause-asked : goal.returns-clause-asked
returns-clause-asked g c =
    let set = g.S.Params.set in
    let pk = c.args.public.now in
    let r = drawn_r set (g.R.Words.word c.args.words.now) (g.R.Words.place c.args.words.now) in
    let suite : Suite = record { kem = g.S.KemParams.ID; kdf = c.args.kdf; aead = c.args.aead } in
    let given : Suite = record { kem = c.ID.result; kdf = c.args.kdf; aead = c.args.aead } in
    let given_is : given ≡ suite = ap (λ (k : ℕ). record { kem = k; kdf = c.args.kdf; aead = c.args.aead }) c.ID.ensures in
    IfOk-weaker c.asked_by.result _ _
    (λ a is. asked_by_both c.args.id given suite set pk r c.as_slice.result.now c.in_ok-enc.shared_secret a.0 given_is
    (c.as_slice.ensures.bytes ∙ c.in_ok-enc.ensures.enc) c.in_ok-enc.ensures.key is)
    c.asked_by.ensures.asked

pub returns-clause-enc_size : goal.returns-clause-enc_size
returns-clause-enc_size g c =
    IfOk-weaker c.asked_by.result _ _
    (λ a is. ap (λ (asked : Asked). length asked.enc) is ∙ c.as_slice.ensures.count ∙ g.met.S.KemParams.enc_is)
    c.asked_by.ensures.asked

pub returns-clause-size : goal.returns-clause-size
returns-clause-size g c =
    IfOk-weaker c.asked_by.result _ _
    (λ a is. whole_size g.S.Params.set (length a.1) (length c.as_slice.result.now) (length c.args.text.now)
    (c.as_slice.ensures.count ∙ g.met.S.KemParams.enc_is) is)
    c.asked_by.ensures.size

pub returns-clause-exchange : goal.returns-clause-exchange
returns-clause-exchange g c word place j sk generated =
    let set = g.S.Params.set in
    let pk = c.args.public.now in
    let drawn = g.R.Words.word c.args.words.now in
    let at = g.R.Words.place c.args.words.now in
    let suite : Suite = record { kem = g.S.KemParams.ID; kdf = c.args.kdf; aead = c.args.aead } in
    let given : Suite = record { kem = c.ID.result; kdf = c.args.kdf; aead = c.args.aead } in
    let given_is : given ≡ suite = ap (λ (k : ℕ). record { kem = k; kdf = c.args.kdf; aead = c.args.aead }) c.ID.ensures in
    if_ok_both c.asked_by.result _ _ _
    (λ a is request_is. record {
      word = word;
      place = place;
      j = j;
      pk = pk;
      r = drawn_r set drawn at;
      suite = suite;
      generated = generated;
      short = c.both_ends_agree.ensures.short drawn at;
      kem_is = refl;
      encrypts_is = c.requires.cipher;
      asked_is = asked_by_both c.args.id given suite set pk (drawn_r set drawn at) c.as_slice.result.now c.in_ok-enc.shared_secret a.0 given_is
          (c.as_slice.ensures.bytes ∙ c.in_ok-enc.ensures.enc) c.in_ok-enc.ensures.key is;
      enc_count = ap (λ (asked : Asked). length asked.enc) is ∙ c.as_slice.ensures.count ∙ g.met.S.KemParams.enc_is;
      request_is = request_is;
    })
    c.asked_by.ensures.asked c.asked_by.ensures.request
