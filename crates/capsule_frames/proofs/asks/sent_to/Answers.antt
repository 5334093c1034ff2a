use Rattle.std.proofs.Common.{◌≡◌, ℕ, List, Result, Ok, ap, sym, ◌∙◌}
use Rattle.hkdf_labelled.specs.declared.suites.Kdf.{Kdf}
use Rattle.hkdf_labelled.specs.declared.suites.Aead.{Aead}
use Rattle.context_table.specs.Keys.{Kem}
use Rattle.sntrup_kem.specs.Kem.{drawn_r}
use Rattle.ohttp_capsule.specs.declared.asking.Asked.{Asked}
use Rattle.ohttp_capsule.specs.Requests.{asked_with, encapsulated_request}
use Rattle.capsule_frames.specs.declared.replies.CapsuleRefusal.{CapsuleRefusal}
use Rattle.capsule_frames.specs.Results.{SentView}
use Rattle.capsule_frames.specs.Lines.{sent_to}
use Rattle.capsule_frames.proofs.asks.sent_to.Goals as goal

-- what a request is, by its parts
of_parts : (kem : Kem) (public lent : List ℕ) (id : ℕ) (kdf : Kdf) (aead : Aead) (word : ℕ → ℕ) (place : ℕ)
    (text : List ℕ) (asked : Asked) (request : List ℕ) (made : SentView)
    → lent ≡ public → place ≡ 0
    → asked ≡ asked_with id (record { kem = kem.id; kdf = kdf; aead = aead }) kem.set lent (drawn_r kem.set word place)
    → request ≡ encapsulated_request id asked text → made ≡ record { asked = asked; request = request }
    → made ≡ sent_to kem public id kdf aead word text
of_parts kem public lent id kdf aead word place text asked request made lent_is place_is asked_is request_is made_is =
    made_is ∙ ap (λ (r : List ℕ). record { asked = asked; request = r }) request_is
    ∙ ap (λ (a : Asked). record { asked = a; request = encapsulated_request id a text }) asked_is
    ∙ ap (λ (p : ℕ). let a = asked_with id (record { kem = kem.id; kdf = kdf; aead = aead }) kem.set lent (drawn_r kem.set word p) in
    record { asked = a; request = encapsulated_request id a text }) place_is
    ∙ ap (λ (l : List ℕ). sent_to kem l id kdf aead word text) lent_is

-- the same, by a key whose KEM is known
by_kem : (kem own : Kem) (public : List ℕ) (id : ℕ) (kdf : Kdf) (aead : Aead) (word : ℕ → ℕ) (text : List ℕ) (made : SentView)
    → kem ≡ own → made ≡ sent_to own public id kdf aead word text
    → (let now : Result SentView CapsuleRefusal = Ok made in now) ≡ Ok (sent_to kem public id kdf aead word text)
by_kem kem own public id kdf aead word text made kem_is is =
    let stands : SentView → Result SentView CapsuleRefusal = λ s. Ok s in
    ap stands (is ∙ ap (λ (k : Kem). sent_to k public id kdf aead word text) (sym kem_is))

pub returns : goal.returns
returns g c =
    let job = c.args.job in
    let key = c.public-public.ensures in
    by_kem c.args.key.now.kem (record { id = g.S.KemParams.ID; set = g.S.Params.set }) c.args.key.now.public job.id job.kdf
    job.aead _ c.args.text.now c.new.result key.kem
    (of_parts (record { id = g.S.KemParams.ID; set = g.S.Params.set }) c.args.key.now.public _ job.id job.kdf job.aead _ _
    c.args.text.now c.in_ok-asked.asked c.in_ok-asked.request c.new.result key.public c.requires.start
    c.in_ok-asked.ensures.asked c.in_ok-asked.ensures.request c.new.ensures)
