-- The refusals of answers and takes, from the definitions of what becomes of them.
use Rattle.std.proofs.Common.{◌≡◌, ℕ, Bool, true, false, cond, List, [], length, Option, Some, None, Result, Ok, Err, refl, ap, subst, ◌∙◌, inl, inr, ◌⊎◌}
use Rattle.std.specs.Prelude.{◌≢◌, nat_lt}
use Rattle.ring_core.specs.Sets.{Set}
use Rattle.sntrup_kem.specs.Laws.{BothEndsAgree}
use Rattle.hkdf_labelled.specs.declared.suites.Suite.{Suite}
use Rattle.hpke_aead.specs.Aeads.{tag_holds}
use Rattle.hpke_context.specs.Contexts.{cipher_of}
use Rattle.context_table.specs.Keys.{KeyView}
use Rattle.ohttp_capsule.specs.declared.asking.Asked.{Asked}
use Rattle.ohttp_capsule.specs.declared.faults.CapsuleFault.{CapsuleFault}
use Rattle.ohttp_capsule.specs.declared.faults.CapsuleFault.TheVariants as faults
use Rattle.ohttp_capsule.specs.Requests.{ct_in, recipient_of}
use Rattle.ohttp_capsule.specs.Responses.{aead_key, aead_nonce}
use Rattle.ohttp_capsule.specs.Replies.{suite_for, answered_by, answered, least_response, nonce_in, ct_of_response, taken}
use Rattle.ohttp_capsule.proofs.Refusing.{Judged, judged}
use Rattle.ohttp_capsule.proofs.Telling.{Tells, tells, TellsOf, tells_of}
use Rattle.capsule_frames.specs.declared.replies.CapsuleRefusal.{CapsuleRefusal}
use Rattle.capsule_frames.specs.declared.replies.CapsuleRefusal.TheVariants.{NoKey, NeedSecret, NoAsk, NoAnswer, Short, Header, NonceSize, Failed}
use Rattle.capsule_frames.specs.Results.{SentView}
use Rattle.capsule_frames.specs.Lines.{refusal_of, given_of, given_with, given_by, took_of, took_by}

-- ---- the definitions tell no want of memory

one_test : {A : Type 0} (b : Bool) (x : A)
    → cond b (Ok x) (Err faults.Failed) ≡ Err faults.OutOfMemory → ⊥
one_test true x e = cc
one_test false x e = cc

two_tests : {A : Type 0} (b c : Bool) (x : A)
    → cond b (Err faults.Short) (cond c (Ok x) (Err faults.Failed)) ≡ Err faults.OutOfMemory → ⊥
two_tests true c x e = cc
two_tests false c x e = one_test c x e

late_by : (set : Set) (kem : ℕ) (sk : List ℕ) (id : ℕ) (request nonce text : List ℕ)
    (v : Result Suite CapsuleFault) → suite_for set kem id request nonce ≡ v
    → answered_by set sk id request nonce text v ≡ Err faults.OutOfMemory → ⊥
unfolding Judged
late_by set kem sk id request nonce text (Ok s) e m =
    let c = recipient_of set sk id s request in
    one_test ((cipher_of c).holds 0 [] (ct_in set request)) _ m
late_by set kem sk id request nonce text (Err f) e m =
    let same : f ≡ faults.OutOfMemory = cc in
    judged set kem id request nonce (Err faults.OutOfMemory)
    (e ∙ ap (λ (g : CapsuleFault). Err g) same)

pub answered_known : (set : Set) (kem : ℕ) (sk : List ℕ) (id : ℕ) (request nonce text : List ℕ)
    → answered set kem sk id request nonce text ≢ Err faults.OutOfMemory
answered_known set kem sk id request nonce text =
    late_by set kem sk id request nonce text (suite_for set kem id request nonce) refl

pub answered_tells : (set : Set) (kem : ℕ) (sk : List ℕ) (id : ℕ) (request nonce text : List ℕ)
    → BothEndsAgree set
    → Tells set kem sk id request nonce text (answered set kem sk id request nonce text)
answered_tells set kem sk id request nonce text agree =
    tells set kem sk id request nonce text (answered set kem sk id request nonce text) agree
    (record {
      told = λ known. refl;
      late = λ m. absurd (answered_known set kem sk id request nonce text m);
    })

pub taken_known : (asked : Asked) (response : List ℕ)
    → taken asked response ≢ Err faults.OutOfMemory
taken_known asked response =
    let nonce = nonce_in asked response in
    two_tests (nat_lt (length response) (least_response asked))
    (tag_holds (aead_key asked.context asked.enc nonce) (aead_nonce asked.context asked.enc nonce) []
    (ct_of_response asked response)) _

pub taken_tells : (asked : Asked) (response : List ℕ)
    → TellsOf asked response (taken asked response)
taken_tells asked response =
    tells_of asked response (taken asked response) (record {
      told = λ known. refl;
      late = λ m. absurd (taken_known asked response m);
    })

-- ---- which faults a refusal is of

IsOf : CapsuleRefusal → CapsuleFault → Type 0
IsOf NoKey f = ⊥
IsOf NeedSecret f = ⊥
IsOf NoAsk f = ⊥
IsOf NoAnswer f = ⊥
IsOf Short f = f ≡ faults.Short
IsOf Header f = f ≡ faults.Header
IsOf NonceSize f = f ≡ faults.NonceSize
IsOf Failed f = (f ≡ faults.Failed) ⊎ (f ≡ faults.OutOfMemory)

is_of_own : (f : CapsuleFault) → IsOf (refusal_of f) f
unfolding IsOf
is_of_own faults.Short = refl
is_of_own faults.Header = refl
is_of_own faults.NonceSize = refl
is_of_own faults.Failed = inl refl
is_of_own faults.OutOfMemory = inr refl

is_of_refusal : (f : CapsuleFault) (r : CapsuleRefusal) → refusal_of f ≡ r → IsOf r f
is_of_refusal f r e = subst (λ q. IsOf q f) e (is_of_own f)

-- ---- an answer

-- a request is answered with this fault
pub record Answers (v : Option KeyView) (q : Option (List ℕ)) (id : ℕ) (nonce text : List ℕ)
    (f : CapsuleFault) : Type 0 where
  pub view : KeyView
  pub secret : List ℕ
  pub request : List ℕ
  pub view_is : v ≡ Some view
  pub secret_is : view.secret ≡ Some secret
  pub request_is : q ≡ Some request
  pub fault_is : answered view.kem.set view.kem.id secret id request nonce text ≡ Err f

-- its cause, by what is found of key and request
unfoldable pub GivenFor : Option KeyView → Option (List ℕ) → ℕ → List ℕ → List ℕ → CapsuleRefusal
    → Type 0
GivenFor v q id nonce text NoKey = v ≡ None
GivenFor v q id nonce text NeedSecret =
    (view : KeyView) × (v ≡ Some view) × (view.secret ≡ None)
GivenFor v q id nonce text NoAsk =
    (view : KeyView)
    × (secret : List ℕ)
    × (v ≡ Some view)
    × (view.secret ≡ Some secret)
    × (q ≡ None)
GivenFor v q id nonce text NoAnswer = ⊥
GivenFor v q id nonce text Short = Answers v q id nonce text faults.Short
GivenFor v q id nonce text Header = Answers v q id nonce text faults.Header
GivenFor v q id nonce text NonceSize = Answers v q id nonce text faults.NonceSize
GivenFor v q id nonce text Failed = Answers v q id nonce text faults.Failed

-- a fault of ohttp_capsule's
answers_for : (v : Option KeyView) (q : Option (List ℕ)) (id : ℕ) (nonce text : List ℕ)
    (f : CapsuleFault) (r : CapsuleRefusal) → Answers v q id nonce text f → IsOf r f
    → GivenFor v q id nonce text r
unfolding IsOf GivenFor
answers_for v q id nonce text f NoKey a is = absurd is
answers_for v q id nonce text f NeedSecret a is = absurd is
answers_for v q id nonce text f NoAsk a is = absurd is
answers_for v q id nonce text f NoAnswer a is = absurd is
answers_for v q id nonce text f Short a is = subst (Answers v q id nonce text) is a
answers_for v q id nonce text f Header a is = subst (Answers v q id nonce text) is a
answers_for v q id nonce text f NonceSize a is = subst (Answers v q id nonce text) is a
answers_for v q id nonce text f Failed a (inl is) = subst (Answers v q id nonce text) is a
answers_for v q id nonce text f Failed a (inr is) =
    absurd (answered_known a.view.kem.set a.view.kem.id a.secret id a.request nonce text
    (a.fault_is ∙ ap (λ (g : CapsuleFault). Err g) is))

fault_of : (a : Result (List ℕ × List ℕ) CapsuleFault) (r : CapsuleRefusal)
    → given_of a ≡ Err r → (f : CapsuleFault) × (a ≡ Err f) × (refusal_of f ≡ r)
fault_of (Ok pair) r e = absurd cc
fault_of (Err f) r e = (f, refl, let same : refusal_of f ≡ r = cc in same)

with_secret : (view : KeyView) (secret : Option (List ℕ)) (q : Option (List ℕ)) (id : ℕ)
    (nonce text : List ℕ) (r : CapsuleRefusal) → view.secret ≡ secret
    → given_with view.kem secret id q nonce text ≡ Err r
    → GivenFor (Some view) q id nonce text r
unfolding GivenFor
with_secret view None q id nonce text r known e =
    let same : NeedSecret ≡ r = cc in
    subst (GivenFor (Some view) q id nonce text) same (view, refl, known)
with_secret view (Some secret) None id nonce text r known e =
    let same : NoAsk ≡ r = cc in
    subst (GivenFor (Some view) None id nonce text) same (view, secret, refl, known, refl)
with_secret view (Some secret) (Some request) id nonce text r known e =
    let fault = fault_of (answered view.kem.set view.kem.id secret id request nonce text) r e in
    answers_for (Some view) (Some request) id nonce text fault.0 r
    (record {
      view = view;
      secret = secret;
      request = request;
      view_is = refl;
      secret_is = known;
      request_is = refl;
      fault_is = fault.1;
    })
    (is_of_refusal fault.0 r fault.2)

pub given_for_cause : (v : Option KeyView) (q : Option (List ℕ)) (id : ℕ) (nonce text : List ℕ)
    (r : CapsuleRefusal) → given_by v id q nonce text ≡ Err r → GivenFor v q id nonce text r
unfolding GivenFor
given_for_cause None q id nonce text r e =
    let same : NoKey ≡ r = cc in subst (GivenFor None q id nonce text) same refl
given_for_cause (Some view) q id nonce text r e =
    with_secret view view.secret q id nonce text r refl e

by_fault : (v : Option KeyView) (q : Option (List ℕ)) (id : ℕ) (nonce text : List ℕ)
    (f : CapsuleFault) (a : Answers v q id nonce text f)
    → given_by v id q nonce text ≡ Err (refusal_of f)
by_fault v q id nonce text f a =
    ap (λ (o : Option KeyView). given_by o id q nonce text) a.view_is
    ∙ ap (λ (s : Option (List ℕ)). given_with a.view.kem s id q nonce text) a.secret_is
    ∙ ap (λ (o : Option (List ℕ)). given_with a.view.kem (Some a.secret) id o nonce text)
    a.request_is
    ∙ ap given_of a.fault_is

pub cause_of_given : (v : Option KeyView) (q : Option (List ℕ)) (id : ℕ) (nonce text : List ℕ)
    (r : CapsuleRefusal) → GivenFor v q id nonce text r → given_by v id q nonce text ≡ Err r
unfolding GivenFor
cause_of_given v q id nonce text NoKey g =
    ap (λ (o : Option KeyView). given_by o id q nonce text) g
cause_of_given v q id nonce text NeedSecret g =
    ap (λ (o : Option KeyView). given_by o id q nonce text) g.1
    ∙ ap (λ (s : Option (List ℕ)). given_with g.0.kem s id q nonce text) g.2
cause_of_given v q id nonce text NoAsk g =
    ap (λ (o : Option KeyView). given_by o id q nonce text) g.2
    ∙ ap (λ (s : Option (List ℕ)). given_with g.0.kem s id q nonce text) g.3
    ∙ ap (λ (o : Option (List ℕ)). given_with g.0.kem (Some g.1) id o nonce text) g.4
cause_of_given v q id nonce text NoAnswer g = absurd g
cause_of_given v q id nonce text Short g = by_fault v q id nonce text faults.Short g
cause_of_given v q id nonce text Header g = by_fault v q id nonce text faults.Header g
cause_of_given v q id nonce text NonceSize g = by_fault v q id nonce text faults.NonceSize g
cause_of_given v q id nonce text Failed g = by_fault v q id nonce text faults.Failed g

-- ---- a take

-- a response is taken with this fault
pub record Takes (v : Option SentView) (q : Option (List ℕ)) (f : CapsuleFault) : Type 0 where
  pub client : SentView
  pub response : List ℕ
  pub client_is : v ≡ Some client
  pub response_is : q ≡ Some response
  pub fault_is : taken client.asked response ≡ Err f

unfoldable pub TookFor : Option SentView → Option (List ℕ) → CapsuleRefusal → Type 0
TookFor v q NoKey = ⊥
TookFor v q NeedSecret = ⊥
TookFor v q NoAsk = v ≡ None
TookFor v q NoAnswer = (client : SentView) × (v ≡ Some client) × (q ≡ None)
TookFor v q Short = Takes v q faults.Short
TookFor v q Header = ⊥
TookFor v q NonceSize = ⊥
TookFor v q Failed = Takes v q faults.Failed

takes_for : (v : Option SentView) (q : Option (List ℕ)) (f : CapsuleFault) (r : CapsuleRefusal)
    → Takes v q f → IsOf r f → TookFor v q r
unfolding IsOf TookFor
takes_for v q f NoKey a is = absurd is
takes_for v q f NeedSecret a is = absurd is
takes_for v q f NoAsk a is = absurd is
takes_for v q f NoAnswer a is = absurd is
takes_for v q f Short a is = subst (Takes v q) is a
takes_for v q f Header a is =
    (taken_tells a.client.asked a.response).header
    (a.fault_is ∙ ap (λ (g : CapsuleFault). Err g) is)
takes_for v q f NonceSize a is =
    (taken_tells a.client.asked a.response).nonce_size
    (a.fault_is ∙ ap (λ (g : CapsuleFault). Err g) is)
takes_for v q f Failed a (inl is) = subst (Takes v q) is a
takes_for v q f Failed a (inr is) =
    absurd (taken_known a.client.asked a.response
    (a.fault_is ∙ ap (λ (g : CapsuleFault). Err g) is))

fault_taken : (a : Result (List ℕ) CapsuleFault) (r : CapsuleRefusal) → took_of a ≡ Err r
    → (f : CapsuleFault) × (a ≡ Err f) × (refusal_of f ≡ r)
fault_taken (Ok text) r e = absurd cc
fault_taken (Err f) r e = (f, refl, let same : refusal_of f ≡ r = cc in same)

pub took_for_cause : (v : Option SentView) (q : Option (List ℕ)) (r : CapsuleRefusal)
    → took_by v q ≡ Err r → TookFor v q r
unfolding TookFor
took_for_cause None q r e =
    let same : NoAsk ≡ r = cc in subst (TookFor None q) same refl
took_for_cause (Some client) None r e =
    let same : NoAnswer ≡ r = cc in subst (TookFor (Some client) None) same (client, refl, refl)
took_for_cause (Some client) (Some response) r e =
    let fault = fault_taken (taken client.asked response) r e in
    takes_for (Some client) (Some response) fault.0 r
    (record {
      client = client;
      response = response;
      client_is = refl;
      response_is = refl;
      fault_is = fault.1;
    })
    (is_of_refusal fault.0 r fault.2)

take_by_fault : (v : Option SentView) (q : Option (List ℕ)) (f : CapsuleFault) (a : Takes v q f)
    → took_by v q ≡ Err (refusal_of f)
take_by_fault v q f a =
    ap (λ (o : Option SentView). took_by o q) a.client_is
    ∙ ap (took_by (Some a.client)) a.response_is
    ∙ ap took_of a.fault_is

pub cause_of_took : (v : Option SentView) (q : Option (List ℕ)) (r : CapsuleRefusal)
    → TookFor v q r → took_by v q ≡ Err r
unfolding TookFor
cause_of_took v q NoKey t = absurd t
cause_of_took v q NeedSecret t = absurd t
cause_of_took v q NoAsk t = ap (λ (o : Option SentView). took_by o q) t
cause_of_took v q NoAnswer t =
    ap (λ (o : Option SentView). took_by o q) t.1 ∙ ap (took_by (Some t.0)) t.2
cause_of_took v q Short t = take_by_fault v q faults.Short t
cause_of_took v q Header t = absurd t
cause_of_took v q NonceSize t = absurd t
cause_of_took v q Failed t = take_by_fault v q faults.Failed t
