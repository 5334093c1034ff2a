-- The set-up of both batches is that of their first five lines, and its ends match.
use Rattle.std.proofs.Common.{◌≡◌, ℕ, zero, suc, ◌+◌, List, [], ◌∷◌, ◌++◌, length, take, length-append, true, Option, Some, None, Ok, refl, sym, ap, subst, ◌∙◌, arith}
use Rattle.std.specs.Prelude.{slice_get}
use Rattle.call_places.specs.Spans.{span_bytes}
use Rattle.key_schedule.specs.declared.modes.Role.TheVariants as roles
use Rattle.hkdf_labelled.specs.declared.suites.Aead.TheVariants as aeads
use Rattle.hpke_context.specs.Contexts.{ContextView, key_in, nonce_of}
use Rattle.hkdf_labelled.specs.Suites.{encrypts}
use Rattle.batch_plans.specs.declared.plan.Plan.{Plan}
use Rattle.batch_plans.specs.declared.plan.KeyLine.{KeyLine}
use Rattle.batch_plans.specs.declared.plan.KeyLine.TheVariants.{Generate}
use Rattle.batch_plans.specs.declared.plan.ContextLine.{ContextLine}
use Rattle.batch_plans.specs.declared.plan.EncField.TheVariants.{Of}
use Rattle.batch_plans.specs.declared.replies.KeyReply.{KeyReply}
use Rattle.batch_plans.specs.declared.replies.KeyReply.TheVariants.{Generated, Secret, Peer, Refused}
use Rattle.batch_plans.specs.declared.replies.ContextReply.{ContextReply}
use Rattle.batch_plans.specs.declared.replies.ContextReply.TheVariants.{Sender}
use Rattle.sntrup_kem.specs.Kem.{drawn_r, enc_of, session_of}
use Rattle.key_schedule.specs.declared.modes.Mode.TheVariants.{Base}
use Rattle.key_schedule.specs.declared.schedules.Secrets.{Secrets}
use Rattle.key_schedule.specs.Schedule.{secrets_of}
use Rattle.hpke_aead.proofs.Opening.{IsWhole, length-seal}
use Rattle.context_table.proofs.Messages.{secrets_are_whole}
use Rattle.context_books.proofs.Members.{value_at}
use Rattle.context_books.specs.Standing.{standing_at}
use Rattle.context_books.specs.ContextLines.{AreOfLines}
use Rattle.demo_runs.specs.Demo.{sealed_at, sealed_text}
use Rattle.demo_runs.specs.Batches.{is_generated}
use Rattle.context_table.specs.Streams.{context_words}
use Rattle.context_table.specs.Keys.{IsKeyReply, kem761}
use Rattle.context_table.specs.Contexts.{outcome, IsOutcome, suite_of, reply_of, slot_of}
use Rattle.context_table.specs.SetUp.{IsSetUp}
use Rattle.context_table.specs.Laws.{EndsMatch, OpensInOrder}
use Rattle.demo_runs.specs.SetUp.{seed_bytes, sender_line, recipient_line, infos, set_up_plan}
use Rattle.demo_runs.specs.Plans.{BeginsAs}

-- a plan with these lines, written out
abbrev plan_by : ℕ → Plan → List ℕ → Plan
plan_by seed plan rest =
    record plan {
      version = 1;
      seed = Some (seed_bytes seed);
      pool = infos ++ rest;
      keys = Generate ∷ [];
      contexts = sender_line ∷ recipient_line ∷ [];
    }

module _ (seed : ℕ) (plan : Plan) (rest : List ℕ) (keys : List KeyReply) (contexts : List ContextReply) (standing : List (Option ContextView)) where
  abbrev whole : Plan
  whole = plan_by seed plan rest

  abbrev short : Plan
  short = set_up_plan seed

  key_same : (k : ℕ) (line : KeyLine) (reply : KeyReply) → slice_get (Generate ∷ []) k ≡ Some line
      → IsKeyReply whole k line reply → IsKeyReply short k line reply
  key_same zero line reply at is =
      let line_is : Generate ≡ line = cc in
      subst (λ (l : KeyLine). IsKeyReply short 0 l reply) line_is
      (subst (λ (l : KeyLine). IsKeyReply whole 0 l reply) (sym line_is) is)
  key_same (suc k) line reply at is = absurd (let none : None ≡ Some line = at in cc)

  outcome_same : (c : ℕ) (line : ContextLine) (replies : List ContextReply)
      → slice_get (sender_line ∷ recipient_line ∷ []) c ≡ Some line
      → outcome whole keys replies c line ≡ outcome short keys replies c line
  outcome_same zero line replies at =
      let is : sender_line ≡ line = cc in
      subst (λ (l : ContextLine). outcome whole keys replies 0 l ≡ outcome short keys replies 0 l) is refl
  outcome_same (suc zero) line replies at =
      let is : recipient_line ≡ line = cc in
      subst (λ (l : ContextLine). outcome whole keys replies 1 l ≡ outcome short keys replies 1 l) is refl
  outcome_same (suc (suc c)) line replies at = absurd (let none : None ≡ Some line = at in cc)

  set_up_same : IsSetUp whole keys contexts standing → IsSetUp short keys contexts standing
  set_up_same s = record {
    key_count = s.key_count;
    context_count = s.context_count;
    standing_count = s.standing_count;
    key_replies = record {
      each = λ k line reply at here. key_same k line reply at (s.key_replies.each k line reply at here);
    };
    outcomes = record {
      each = λ c line reply slot at here there.
          subst (λ became. IsOutcome became reply slot) (outcome_same c line (take c contexts) at)
          (s.outcomes.each c line reply slot at here there);
    };
  }

pub set_up_of : (seed : ℕ) (plan : Plan) → BeginsAs seed plan → (keys : List KeyReply) (contexts : List ContextReply)
    (standing : List (Option ContextView)) → IsSetUp plan keys contexts standing → IsSetUp (set_up_plan seed) keys contexts standing
set_up_of seed plan b keys contexts standing s =
    set_up_same seed plan b.rest keys contexts standing
    (subst (λ (p : Plan). IsSetUp p keys contexts standing)
    (λ i. record plan { version = b.version i; seed = b.seed_is i; pool = b.pool i; keys = b.keys i; contexts = b.contexts i }) s)

-- ---- the two ends

-- the one key, where it was generated
pub generated_is : (keys : List KeyReply) → is_generated keys ≡ true
    → (public : List ℕ) × (secret : List ℕ) × (keys ≡ Generated public secret ∷ [])
generated_is [] e = absurd cc
generated_is (Generated public secret ∷ []) e = (public, secret, refl)
generated_is (Generated public secret ∷ key ∷ keys) e = absurd cc
generated_is (Secret public ∷ keys) e = absurd cc
generated_is (Peer ∷ keys) e = absurd cc
generated_is (Refused refusal ∷ keys) e = absurd cc

-- on it a sender's context stands
pub record SenderStands (contexts : List ContextReply) (standing : List (Option ContextView)) : Type 0 where
  pub sender : ContextView
  pub enc : List ℕ
  pub reply : slice_get contexts 0 ≡ Some (Sender enc)
  pub stands : slice_get standing 0 ≡ Some (Some sender)
  pub role : sender.role ≡ roles.Sender
  pub aead : sender.suite.aead ≡ aeads.Aes128
  pub limit : sender.limit ≡ 65536
  pub whole : IsWhole (key_in sender.secrets.cipher)

first_outcome : (seed : ℕ) (public secret : List ℕ) → (enc : List ℕ) × (secrets : Secrets)
    × (outcome (set_up_plan seed) (Generated public secret ∷ []) [] 0 sender_line
    ≡ Ok (record {
      reply = Sender enc;
      context = record { role = roles.Sender; suite = suite_of 63329 sender_line; limit = 65536; secrets = secrets };
    }))
    × IsWhole (key_in secrets.cipher)
first_outcome seed public secret =
    let r = drawn_r kem761.set (context_words (set_up_plan seed) 0) 0 in
    let shared : List ℕ = session_of kem761.set public r in
    let suite = suite_of 63329 sender_line in
    let secrets = secrets_of suite Base shared (span_bytes infos sender_line.info) [] [] in (
      enc_of kem761.set public r,
      secrets,
      refl,
      secrets_are_whole suite Base shared (span_bytes infos sender_line.info) [] [] secrets refl refl,
    )

two_there : {X : Type 0} (xs : List X) → length xs ≡ 2 → (x : X) × (slice_get xs 0 ≡ Some x)
two_there [] size = absurd (omega arith)
two_there (x ∷ xs) size = (x, refl)

pub sender_stands : (seed : ℕ) (public secret : List ℕ) (contexts : List ContextReply) (standing : List (Option ContextView))
    → IsSetUp (set_up_plan seed) (Generated public secret ∷ []) contexts standing → SenderStands contexts standing
sender_stands seed public secret contexts standing s =
    let reply = two_there contexts s.context_count in
    let slot = two_there standing s.standing_count in
    let became = first_outcome seed public secret in
    let is = s.outcomes.each 0 sender_line reply.0 slot.0 refl reply.1 slot.1 in
    record {
      sender = record { role = roles.Sender; suite = suite_of 63329 sender_line; limit = 65536; secrets = became.1 };
      enc = became.0;
      reply = reply.1 ∙ ap Some (is.reply_is ∙ ap reply_of became.2);
      stands = slot.1 ∙ ap Some (is.slot_is ∙ ap slot_of became.2);
      role = refl;
      aead = refl;
      limit = refl;
      whole = became.3;
    }

-- a ciphertext of T has so many bytes
pub sealed_size : (sender : ContextView) → IsWhole (key_in sender.secrets.cipher) → (n : ℕ) → length (sealed_at sender n) ≡ 80
sealed_size sender whole n = length-seal (key_in sender.secrets.cipher) (nonce_of sender n) [] sealed_text whole

pub get_standing : (standing : List (Option ContextView)) (c : ℕ) (slot : Option ContextView) → slice_get standing c ≡ Some slot
    → standing_at standing c ≡ slot
get_standing standing c slot at = value_at standing c slot None at

-- ---- the recipient

-- both contexts stand, and the recipient opens what the sender sealed
pub record BothStand (sender : ContextView) (standing : List (Option ContextView)) : Type 0 where
  pub recipient : ContextView
  pub stands : standing_at standing 1 ≡ Some recipient
  pub role : recipient.role ≡ roles.Recipient
  pub aead : recipient.suite.aead ≡ aeads.Aes128
  pub limit : recipient.limit ≡ 65536
  pub opens : OpensInOrder sender recipient

same_some : {X : Type 0} (x y : X) → Some x ≡ Some y → x ≡ y
same_some x y e = cc

pub both_stand : EndsMatch → (seed : ℕ) (public secret : List ℕ) (contexts : List ContextReply) (standing : List (Option ContextView))
    → AreOfLines (sender_line ∷ recipient_line ∷ []) standing
    → IsSetUp (set_up_plan seed) (Generated public secret ∷ []) contexts standing → (t : SenderStands contexts standing)
    → BothStand t.sender standing
both_stand ends seed public secret contexts standing lines s t =
    let match = ends (set_up_plan seed) (Generated public secret ∷ []) contexts standing 0 0 1 sender_line recipient_line s
    (record {
      public = public;
      secret = secret;
      enc = t.enc;
      field = Of 0;
      generated = refl;
      sender_is = refl;
      recipient_is = refl;
      sends = refl;
      receives = refl;
      stands = t.reply;
      names = (refl, omega arith);
      alike = record { kdf = refl; aead = refl; mode = refl; info = refl; psk = refl; psk_id = refl };
    }) in
    let same : match.sender ≡ t.sender = same_some match.sender t.sender
    (same_some (Some match.sender) (Some t.sender) (sym match.sender_stands ∙ t.stands)) in
    let of_line = lines.each 1 recipient_line match.recipient refl match.recipient_stands in
    record {
      recipient = match.recipient;
      stands = get_standing standing 1 (Some match.recipient) match.recipient_stands;
      role = match.role;
      aead = of_line.aead;
      limit = of_line.limit;
      opens = subst (λ (c : ContextView). OpensInOrder c match.recipient) same
          (match.opens (ap encrypts of_line.aead));
    }
