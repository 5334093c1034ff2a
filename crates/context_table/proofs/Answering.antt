-- What the calls of the KEM ensure, as the definitions say it.
use Rattle.std.proofs.Common.{◌≡◌, ◌≢◌, ℕ, List, length, Option, Some, Result, Ok, Err, sym, ap, subst, ◌∙◌, inl, inr}
use Rattle.std.specs.Prelude.{slice_get, IfOk, MatchResult, IsOkAnd}
use Rattle.std.proofs.lemmas.Bool.{cases_eq}
use Rattle.ring_core.specs.Sets.{Set}
use Rattle.sntrup_core.specs.Keys.{FindsG, FindsNoInverse}
use Rattle.sntrup_kem.specs.declared.keys.KeyBytesFault.{KeyBytesFault}
use Rattle.sntrup_kem.specs.Sizes.{secret_size}
use Rattle.sntrup_kem.specs.Kem.{IsGenerated, public_part, HasMalformedPart}
use Rattle.batch_plans.specs.declared.plan.Plan.{Plan}
use Rattle.batch_plans.specs.declared.replies.KeyReply.{KeyReply}
use Rattle.batch_plans.specs.declared.replies.KeyReply.TheVariants.{Generated, Secret}
use Rattle.context_table.specs.declared.keys.Key.{Key}
use Rattle.context_table.specs.declared.exchanges.Exchange.{Exchange}
use Rattle.context_table.specs.Streams.{context_words}
use Rattle.context_table.specs.Keys.{Kem, KeyView, IsPairReply, IsSecretReply, key_by, key_at}
use Rattle.context_table.specs.Contexts.{sender_exchange}
use Rattle.context_table.specs.Slots.{view_of, held_in, HoldKeys}

pub pair_reply : (set : Set) (word : ℕ → ℕ) (place j : ℕ) (pk sk : List ℕ) → place ≡ 0
    → ¬ FindsNoInverse set word place
    → FindsG set word place j → IsGenerated set word place j pk sk
    → (reply : KeyReply) → reply ≡ Generated pk sk → IsPairReply set word reply
pair_reply set word place j pk sk start some found made reply is =
    let P : ℕ → Type 0 = λ n. (¬ FindsNoInverse set word n)
    × ((i : ℕ) × FindsG set word n i × IsGenerated set word n i pk sk) in
    let Q : KeyReply → Type 0 = λ r. IsPairReply set word r in
    subst Q (sym is) (subst P start (some, (j, found, made)))

-- a key that is taken has no fault
pub no_fault : (made : Result (List ℕ) KeyBytesFault) (key : List ℕ) (fault : KeyBytesFault)
    → made ≡ Ok key → made ≡ Err fault → ⊥
no_fault made key fault is other = cc

pub secret_reply : (set : Set) (size : ℕ) (bytes secret : List ℕ) → size ≡ secret_size set
    → secret ≡ bytes → (length bytes ≢ size → ⊥)
    → ((length bytes ≡ size) × HasMalformedPart set bytes → ⊥)
    → (reply : KeyReply) → reply ≡ Secret (public_part set secret) → IsSecretReply set bytes reply
secret_reply set size bytes secret size_is same long form reply is =
    let long_is : length bytes ≡ size = elim (cases_eq (length bytes) size) [
      | inl e ↦ e
      | inr other ↦ absurd (long other)
    ] in
    let Q : KeyReply → Type 0 = λ r. IsSecretReply set bytes r in
    subst Q (sym is)
    (long_is ∙ size_is, (λ bad. form (long_is, bad)), ap (public_part set) same)

pub sends : (plan : Plan) (keys : List KeyReply) (slots : List (Option Key)) (number k : ℕ)
    (key : Key) (word : ℕ → ℕ) (e : Exchange)
    → HoldKeys plan keys slots → Some (view_of key) ≡ held_in (slice_get slots k)
    → word ≡ context_words plan number → sender_exchange word (Some (view_of key)) ≡ Ok e
    → Ok e ≡ sender_exchange (context_words plan number) (key_at plan keys k)
sends plan keys slots number k key word e held found words made =
    sym made
    ∙ ap (λ (w : ℕ → ℕ). sender_exchange w (Some (view_of key))) words
    ∙ ap (sender_exchange (context_words plan number)) (found ∙ held k)

-- the key of a line that got this reply
pub key_of_reply : {A E : Type 0} (result : Result A E) (replied : A → KeyReply)
    (held : A → Option KeyView) (kem : Kem) (bytes : List ℕ) (reply : KeyReply)
    → IfOk result (λ a. replied a ≡ reply) → IfOk result (λ a. held a ≡ key_by kem bytes reply)
    → IfOk result (λ a. held a ≡ key_by kem bytes (replied a))
key_of_reply (Ok a) replied held kem bytes reply is key = key ∙ sym (ap (key_by kem bytes) is)
key_of_reply (Err e) replied held kem bytes reply is key = tt

-- what is said of a reply is said of it where it is passed on
pub passed_on : {A B E : Type 0} (first : Result A E) (result : Result B E) (replied : A → KeyReply)
    (passed : B → KeyReply) (Made : A → B → Type 0) (P : KeyReply → Type 0)
    → ((a : A) (b : B) → Made a b → passed b ≡ replied a) → IfOk first (λ a. P (replied a))
    → MatchResult first (λ a. IsOkAnd result (Made a)) (λ e. result ≡ Err e)
    → IfOk result (λ b. P (passed b))
passed_on (Ok a) (Ok b) replied passed Made P same before made = subst P (sym (same a b made)) before
passed_on (Ok a) (Err e) replied passed Made P same before made = absurd made
passed_on (Err e) (Ok b) replied passed Made P same before made =
    absurd (let other : Ok b ≡ Err e = made in cc)
passed_on (Err e) (Err f) replied passed Made P same before made = tt
