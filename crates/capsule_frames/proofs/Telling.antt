-- What the calls of ohttp_capsule ensure, as the definitions say it.
use Rattle.std.proofs.Common.{◌≡◌, ℕ, List, Option, Some, Result, Ok, Err, sym, ap, subst, ◌∙◌}
use Rattle.std.specs.Prelude.{◌≢◌, slice_get, IfOk, OnOk}
use Rattle.ring_core.specs.Sets.{Set}
use Rattle.call_places.specs.declared.spans.Span.{Span}
use Rattle.call_places.specs.Spans.{span_bytes}
use Rattle.hkdf_labelled.specs.declared.suites.Kdf.{Kdf}
use Rattle.hkdf_labelled.specs.declared.suites.Aead.{Aead}
use Rattle.batch_plans.specs.declared.plan.Plan.{Plan}
use Rattle.batch_plans.specs.declared.plan.EncField.{EncField}
use Rattle.batch_plans.specs.declared.replies.KeyReply.{KeyReply}
use Rattle.context_table.specs.declared.keys.Key.{Key}
use Rattle.context_table.specs.Streams.{context_words}
use Rattle.context_table.specs.Keys.{Kem, KeyView}
use Rattle.context_table.specs.Slots.{view_of, held_in, HoldKeys}
use Rattle.ohttp_capsule.specs.declared.asking.Asked.{Asked}
use Rattle.ohttp_capsule.specs.declared.faults.CapsuleFault.{CapsuleFault}
use Rattle.ohttp_capsule.specs.declared.faults.CapsuleFault.TheVariants.{OutOfMemory}
use Rattle.ohttp_capsule.specs.Replies.{answered, taken}
use Rattle.capsule_frames.specs.declared.replies.CapsuleRefusal.{CapsuleRefusal}
use Rattle.capsule_frames.specs.Results.{SentView, GivenView}
use Rattle.capsule_frames.specs.Lines.{refusal_of, left_by, sent_to, sent_by, sent, given_of, given_with, response_at, took_of, took_by, took}

-- what a call says of the refusal that it gives, where it had memory
pub refused_so : {A E : Type 0} (result : Result A E) (refusal : A) (Memory : Type 0) (So : A → Type 0)
    → IfOk result (λ now. now ≡ refusal) → OnOk result Memory → (Memory → So refusal) → IfOk result So
refused_so (Ok now) refusal Memory So is memory so = subst So (sym is) (so memory)
refused_so (Err error) refusal Memory So is memory so = tt

-- what becomes of an ask, whose key is found
pub sent_is : (plan : Plan) (keys : List KeyReply) (slots : List (Option Key))
    (number k id : ℕ) (kdf : Kdf) (aead : Aead) (text : Span) (key : Key) (word : ℕ → ℕ)
    (pool bytes : List ℕ) (made : Result SentView CapsuleRefusal)
    → HoldKeys plan keys slots → Some (view_of key) ≡ held_in (slice_get slots k)
    → word ≡ context_words plan number → pool ≡ plan.pool → bytes ≡ span_bytes pool text
    → made ≡ Ok (sent_to (view_of key).kem (view_of key).public id kdf aead word bytes)
    → made ≡ sent plan keys number k id kdf aead text
unfolding sent
sent_is plan keys slots number k id kdf aead text key word pool bytes made held found words pool_is
    bytes_is is =
    is
    ∙ ap (λ (w : ℕ → ℕ). sent_by (Some (view_of key)) id kdf aead w bytes) words
    ∙ ap (sent_by (Some (view_of key)) id kdf aead (context_words plan number))
    (bytes_is ∙ ap (λ (p : List ℕ). span_bytes p text) pool_is)
    ∙ ap (λ (o : Option KeyView).
    sent_by o id kdf aead (context_words plan number) (span_bytes plan.pool text))
    (found ∙ held k)

-- a refusal of an answer
pub given_refused : (set : Set) (number : ℕ) (kem : Kem) (known found : Option (List ℕ))
    (secret request nonce text : List ℕ) (id : ℕ)
    (became : Result (List ℕ × List ℕ) CapsuleFault) (fault : CapsuleFault)
    (refusal : CapsuleRefusal)
    → kem ≡ record { id = number; set = set } → Some secret ≡ known → found ≡ Some request
    → became ≡ Err fault
    → (became ≢ Err OutOfMemory → became ≡ answered set number secret id request nonce text)
    → fault ≢ OutOfMemory → refusal ≡ refusal_of fault
    → Err refusal ≡ given_with kem known id found nonce text
given_refused set number kem known found secret request nonce text id became fault refusal kem_is
    known_is found_is refused told memory is =
    let to : CapsuleRefusal → Result GivenView CapsuleRefusal = λ r. Err r in
    let other : became ≢ Err OutOfMemory =
    λ e. memory (let same : fault ≡ OutOfMemory = cc in same) in
    let own : Kem = record { id = number; set = set } in
    ap to is
    ∙ ap given_of (sym refused ∙ told other)
    ∙ ap (λ (o : Option (List ℕ)). given_with own (Some secret) id o nonce text) (sym found_is)
    ∙ ap (λ (o : Option (List ℕ)). given_with own o id found nonce text) known_is
    ∙ ap (λ (k : Kem). given_with k known id found nonce text) (sym kem_is)

-- what becomes of a take
pub took_is : (plan : Plan) (asks : List (Result SentView CapsuleRefusal))
    (answers : List (Result GivenView CapsuleRefusal)) (ask : ℕ) (field : EncField)
    (sent : SentView) (asked : Asked) (pool response : List ℕ)
    (became : Result (List ℕ) CapsuleFault)
    → Some sent ≡ left_by asks ask → pool ≡ plan.pool
    → Some response ≡ response_at pool answers field → asked ≡ sent.asked
    → (became ≢ Err OutOfMemory → became ≡ taken asked response) → became ≢ Err OutOfMemory
    → took_of became ≡ took plan asks answers ask field
unfolding took
took_is plan asks answers ask field sent asked pool response became sent_is pool_is response_is
    asked_is told memory =
    ap took_of (told memory)
    ∙ ap (λ (a : Asked). took_of (taken a response)) asked_is
    ∙ ap (took_by (Some sent)) (response_is
    ∙ ap (λ (p : List ℕ). response_at p answers field) pool_is)
    ∙ ap (λ (o : Option SentView). took_by o (response_at plan.pool answers field)) sent_is
