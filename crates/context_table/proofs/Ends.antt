-- Both ends of an exchange stand, with the same secrets.
use Rattle.std.proofs.Common.{◌≡◌, ◌==◌, ℕ, Bool, List, length, take, Option, Some, Result, Ok, Err, refl, sym, ap, subst, ◌∙◌, eq-eqb}
use Rattle.std.specs.Prelude.{slice_get, IsTrue}
use Rattle.std.proofs.lemmas.Bool.{cond-true}
use Rattle.ring_core.specs.Sets.{Set, sntrup761, sntrup857}
use Rattle.sntrup_kem.specs.Sizes.{enc_size}
use Rattle.sntrup_kem.specs.Kem.{IsGenerated, drawn_r, enc_of, session_of, decapsulated}
use Rattle.sntrup_kem.specs.Laws.{DrawsShort, BothEndsAgree}
use Rattle.hkdf_labelled.specs.declared.suites.Kdf.{Kdf}
use Rattle.hkdf_labelled.specs.declared.suites.Aead.{Aead}
use Rattle.hkdf_labelled.specs.declared.suites.Suite.{Suite}
use Rattle.key_schedule.specs.declared.modes.Mode.{Mode}
use Rattle.key_schedule.specs.declared.psks.PskFault.{PskFault}
use Rattle.key_schedule.specs.declared.schedules.Secrets.{Secrets}
use Rattle.key_schedule.specs.Schedule.{key_schedule}
use Rattle.hpke_context.specs.Contexts.{ContextView}
use Rattle.hkdf_labelled.specs.Suites.{encrypts}
use Rattle.call_places.specs.Spans.{span_bytes}
use Rattle.batch_plans.specs.declared.plan.Plan.{Plan}
use Rattle.batch_plans.specs.declared.plan.KeyLine.{KeyLine}
use Rattle.batch_plans.specs.declared.plan.KeySource.{KeySource}
use Rattle.batch_plans.specs.declared.plan.KeySource.TheVariants as sources
use Rattle.batch_plans.specs.declared.plan.KeySet.{KeySet}
use Rattle.batch_plans.specs.declared.plan.KeySet.TheVariants.{Sntrup761, Sntrup857}
use Rattle.batch_plans.specs.KeyLines.{set_of, source_of}
use Rattle.batch_plans.specs.declared.plan.EncField.{EncField}
use Rattle.batch_plans.specs.declared.plan.EncField.TheVariants.{Bytes, Of}
use Rattle.batch_plans.specs.declared.plan.ContextKind.TheVariants.{Send, Recv}
use Rattle.batch_plans.specs.declared.plan.ContextLine.{ContextLine}
use Rattle.batch_plans.specs.declared.replies.KeyReply.{KeyReply}
use Rattle.batch_plans.specs.declared.replies.KeyReply.TheVariants.{Generated}
use Rattle.batch_plans.specs.declared.replies.ContextReply.{ContextReply}
use Rattle.batch_plans.specs.declared.replies.ContextReply.TheVariants.{Sender, Recipient, Refused}
use Rattle.batch_plans.specs.declared.replies.ContextRefusal.TheVariants.{EncSize}
use Rattle.batch_plans.specs.Calls.{context_role}
use Rattle.context_table.specs.declared.exchanges.Exchange.{Exchange}
use Rattle.context_table.specs.Streams.{key_words, context_words}
use Rattle.context_table.specs.Keys.{Kem, IsSourceReply, IsKeyReply, kem_with, kem_of, key_in, key_at}
use Rattle.context_table.specs.Contexts.{sender_exchange, decap_exchange, decap_with, recipient_exchange, enc_in, enc_at, exchange, psk_refusal, suite_of, standing_by, scheduled, scheduled_after, outcome, reply_of, slot_of}
use Rattle.context_table.specs.SetUp.{IsSetUp}
use Rattle.context_table.specs.Laws.{NamesEnc, AskAlike, EndsMatch}
use Rattle.context_table.proofs.Lists.{slice_get-take, some_within}
use Rattle.context_table.proofs.Sizes.{length-enc_of}
use Rattle.context_table.proofs.Messages.{secrets_are_whole, opens_in_order}

-- what is known of both KEMs
pub record Agrees (set : Set) : Type 0 where
  pub short : DrawsShort set
  pub agreement : BothEndsAgree set

-- ---- the key

-- a pair that was generated, as contexts use it
record Made (plan : Plan) (keys : List KeyReply) (k : ℕ) (public secret : List ℕ) : Type 0 where
  kem : Kem
  word : ℕ → ℕ
  j : ℕ
  agrees : Agrees kem.set
  generated : IsGenerated kem.set word 0 j public secret
  key : key_at plan keys k ≡ Some (record { kem = kem; public = public; secret = Some secret })

agrees_by : Agrees sntrup761 → Agrees sntrup857 → (set : KeySet) → Agrees (kem_with set).set
agrees_by a b Sntrup761 = a
agrees_by a b Sntrup857 = b

-- which line it is of
made_by : (plan : Plan) (keys : List KeyReply) (k : ℕ) (public secret : List ℕ) (line : KeyLine)
    → Agrees sntrup761 → Agrees sntrup857
    → slice_get plan.keys k ≡ Some line → slice_get keys k ≡ Some (Generated public secret)
    → IsKeyReply plan k line (Generated public secret) → Made plan keys k public secret
made_by plan keys k public secret line a b el er = made (source_of line)
  where
    made : (source : KeySource)
        → IsSourceReply plan k (kem_of line).set source (Generated public secret)
        → Made plan keys k public secret
    made sources.Generate is = record {
      kem = kem_of line;
      word = key_words plan k;
      j = is.1.0;
      agrees = agrees_by a b (set_of line);
      generated = is.1.2;
      key = ap (λ o. key_in plan.pool o (slice_get keys k)) el
          ∙ ap (key_in plan.pool (Some line)) er;
    }
    made (sources.Secret bytes) is = absurd is
    made (sources.Peer bytes) is = absurd is

-- ---- the sender

-- the context of a line, with these secrets
abbrev standing_as : ContextLine → ℕ → Secrets → ContextView
standing_as line kem secrets =
    record {
      role = context_role line.kind;
      suite = suite_of kem line;
      limit = line.limit;
      secrets = secrets;
    }

record Sent (line : ContextLine) (exchanged : Exchange) (schedule : Result Secrets PskFault)
    (enc : List ℕ) (slot : Option ContextView) : Type 0 where
  secrets : Secrets
  scheduled_to : schedule ≡ Ok secrets
  reply : Sender enc ≡ exchanged.reply
  slot_is : slot ≡ Some (standing_as line exchanged.kem secrets)

sent_by : (line : ContextLine) (exchanged : Exchange) (schedule : Result Secrets PskFault)
    (enc : List ℕ) (slot : Option ContextView)
    → Sender enc ≡ reply_of (standing_by line exchanged schedule)
    → slot ≡ slot_of (standing_by line exchanged schedule)
    → Sent line exchanged schedule enc slot
sent_by line exchanged (Ok secrets) enc slot is stands =
    record { secrets = secrets; scheduled_to = refl; reply = is; slot_is = stands }
sent_by line exchanged (Err fault) enc slot is stands =
    absurd (let no : Sender enc ≡ Refused (psk_refusal fault) = is in cc)

-- KeySchedule of a line, with this kem_id and shared secret
abbrev schedule_of : List ℕ → ContextLine → ℕ → List ℕ → Result Secrets PskFault
schedule_of pool line kem shared_secret =
    key_schedule (suite_of kem line) line.mode shared_secret (span_bytes pool line.info)
    (span_bytes pool line.psk) (span_bytes pool line.psk_id)

-- the session key of s, to this key
abbrev sent_secret : Plan → Kem → List ℕ → ℕ → List ℕ
sent_secret plan kem public s = session_of kem.set public (drawn_r kem.set (context_words plan s) 0)

abbrev sent_enc : Plan → Kem → List ℕ → ℕ → List ℕ
sent_enc plan kem public s = enc_of kem.set public (drawn_r kem.set (context_words plan s) 0)

record SenderSide (plan : Plan) (kem : Kem) (public : List ℕ) (s : ℕ) (line : ContextLine)
    (enc : List ℕ) (standing : List (Option ContextView)) : Type 0 where
  secrets : Secrets
  scheduled_to : schedule_of plan.pool line kem.id (sent_secret plan kem public s) ≡ Ok secrets
  enc_is : enc ≡ sent_enc plan kem public s
  stands : slice_get standing s ≡ Some (Some (standing_as line kem.id secrets))

sender_side : (plan : Plan) (keys : List KeyReply) (contexts : List ContextReply)
    (standing : List (Option ContextView)) (k s : ℕ) (public secret enc : List ℕ)
    (line : ContextLine)
    → (made : Made plan keys k public secret) → IsSetUp plan keys contexts standing
    → slice_get plan.contexts s ≡ Some line → line.kind ≡ Send k
    → slice_get contexts s ≡ Some (Sender enc)
    → SenderSide plan made.kem public s line enc standing
sender_side plan keys contexts standing k s public secret enc line made set_up line_is sends
    stands =
    let kem = made.kem in
    let shared_secret = sent_secret plan kem public s in
    let sending : Exchange = record {
      kem = kem.id;
      shared_secret = shared_secret;
      reply = Sender
          (sent_enc plan kem public s);
    } in
    let exchanged : exchange plan keys (take s contexts) s line.kind ≡ Ok sending =
    ap (exchange plan keys (take s contexts) s) sends
    ∙ ap (sender_exchange (context_words plan s)) made.key in
    let slot = some_within contexts standing s (Sender enc)
    (set_up.context_count ∙ sym set_up.standing_count) stands in
    let is = set_up.outcomes.each s line (Sender enc) slot.0 line_is stands slot.1 in
    let became : outcome plan keys (take s contexts) s line ≡ scheduled plan.pool line sending =
    ap (scheduled_after plan.pool line) exchanged in
    let sent : Sent line sending (schedule_of plan.pool line kem.id shared_secret) enc slot.0 =
    sent_by line sending (schedule_of plan.pool line kem.id shared_secret) enc slot.0
    (is.reply_is ∙ ap reply_of became) (is.slot_is ∙ ap slot_of became) in
    record {
      secrets = sent.secrets;
      scheduled_to = sent.scheduled_to;
      enc_is = let e = sent.reply in cc;
      stands = slot.1 ∙ ap Some sent.slot_is;
    }

-- ---- the recipient

-- ENC is found
enc_named : (pool : List ℕ) (contexts : List ContextReply) (s t : ℕ) (enc : List ℕ)
    (field : EncField)
    → slice_get contexts s ≡ Some (Sender enc) → NamesEnc pool s t enc field
    → enc_at pool (take t contexts) field ≡ Some enc
enc_named pool contexts s t enc (Bytes bytes) stands names = ap Some names
enc_named pool contexts s t enc (Of number) stands names =
    ap (λ n. enc_in (slice_get (take t contexts) n)) names.0
    ∙ ap enc_in (slice_get-take contexts t s names.1)
    ∙ ap enc_in stands

-- the same key schedule
schedule_alike : (pool : List ℕ) (sender recipient : ContextLine) (kem : ℕ) (shared_secret : List ℕ)
    → AskAlike pool sender recipient
    → schedule_of pool recipient kem shared_secret ≡ schedule_of pool sender kem shared_secret
schedule_alike pool sender recipient kem shared_secret alike =
    let suite : Kdf → Aead → Suite = λ kdf aead. record { kem = kem; kdf = kdf; aead = aead } in
    let to : Kdf → Aead → Mode → List ℕ → List ℕ → List ℕ → Result Secrets PskFault =
    λ kdf aead mode info psk psk_id. key_schedule
    (suite kdf aead) mode shared_secret info psk psk_id in
    let info = span_bytes pool recipient.info in
    let psk = span_bytes pool recipient.psk in
    let psk_id = span_bytes pool recipient.psk_id in
    ap (λ kdf. to kdf recipient.aead recipient.mode info psk psk_id) alike.kdf
    ∙ ap (λ aead. to sender.kdf aead recipient.mode info psk psk_id) alike.aead
    ∙ ap (λ mode. to sender.kdf sender.aead mode info psk psk_id) alike.mode
    ∙ ap (λ i. to sender.kdf sender.aead sender.mode i psk psk_id) alike.info
    ∙ ap (λ p. to sender.kdf sender.aead sender.mode (span_bytes pool sender.info) p psk_id)
    alike.psk
    ∙ ap (to sender.kdf sender.aead sender.mode (span_bytes pool sender.info)
    (span_bytes pool sender.psk)) alike.psk_id

suite_alike : (pool : List ℕ) (sender recipient : ContextLine) (kem : ℕ)
    → AskAlike pool sender recipient → suite_of kem recipient ≡ suite_of kem sender
suite_alike pool sender recipient kem alike =
    let suite : Kdf → Aead → Suite = λ kdf aead. record { kem = kem; kdf = kdf; aead = aead } in
    ap (λ kdf. suite kdf recipient.aead) alike.kdf ∙ ap (suite sender.kdf) alike.aead

-- Decap of what the sender sent
decap_is : (kem : Kem) (word word' : ℕ → ℕ) (j : ℕ) (public secret enc : List ℕ) → Agrees kem.set
    → IsGenerated kem.set word 0 j public secret
    → enc ≡ enc_of kem.set public (drawn_r kem.set word' 0)
    → decap_exchange kem secret enc ≡ Ok
    (record {
      kem = kem.id;
      shared_secret = session_of kem.set public
          (drawn_r kem.set word' 0);
      reply = Recipient;
    })
decap_is kem word word' j public secret enc agrees generated is =
    let set = kem.set in
    let r = drawn_r set word' 0 in
    let made : List ℕ → Exchange =
    λ key. record { kem = kem.id; shared_secret = key; reply = Recipient } in
    let long : length enc ≡ enc_size set = ap length is ∙ length-enc_of set public r in
    let tested : Bool = length enc == enc_size set in
    cond-true tested (Ok (made (decapsulated set secret enc))) (Err EncSize)
    (eq-eqb (length enc) (enc_size set) long)
    ∙ ap (λ e. Ok (made (decapsulated set secret e))) is
    ∙ ap (λ key. Ok (made key))
    (agrees.agreement word 0 j public secret r generated (agrees.short word' 0))

-- the line that receives stands with what the key schedule gives
recipient_side : (plan : Plan) (keys : List KeyReply) (contexts : List ContextReply)
    (standing : List (Option ContextView)) (k s t : ℕ) (public secret enc : List ℕ)
    (line : ContextLine) (field : EncField) (secrets : Secrets)
    → (made : Made plan keys k public secret) → IsSetUp plan keys contexts standing
    → slice_get plan.contexts t ≡ Some line → line.kind ≡ Recv k field
    → enc_at plan.pool (take t contexts) field ≡ Some enc → enc ≡ sent_enc plan made.kem public s
    → schedule_of plan.pool line made.kem.id (sent_secret plan made.kem public s) ≡ Ok secrets
    → slice_get standing t ≡ Some (Some (standing_as line made.kem.id secrets))
recipient_side plan keys contexts standing k s t public secret enc line field secrets made set_up
    line_is receives named enc_is schedule =
    let kem = made.kem in
    let receiving : Exchange =
    record { kem = kem.id; shared_secret = sent_secret plan kem public s; reply = Recipient } in
    let exchanged : exchange plan keys (take t contexts) t line.kind ≡ Ok receiving =
    ap (exchange plan keys (take t contexts) t) receives
    ∙ ap (λ key. recipient_exchange key (enc_at plan.pool (take t contexts) field)) made.key
    ∙ ap (decap_with kem (Some secret)) named
    ∙ decap_is kem made.word (context_words plan s) made.j public secret enc made.agrees
    made.generated enc_is in
    let became : outcome plan keys (take t contexts) t line ≡ Ok
    (record { reply = Recipient; context = standing_as line kem.id secrets }) =
    ap (scheduled_after plan.pool line) exchanged ∙ ap (standing_by line receiving) schedule in
    let reply = some_within plan.contexts contexts t line (sym set_up.context_count) line_is in
    let slot = some_within plan.contexts standing t line (sym set_up.standing_count) line_is in
    let is = set_up.outcomes.each t line reply.0 slot.0 line_is reply.1 slot.1 in
    slot.1 ∙ ap Some (is.slot_is ∙ ap slot_of became)

-- ---- both

pub ends_match_lem : Agrees sntrup761 → Agrees sntrup857 → EndsMatch
ends_match_lem a b plan keys contexts standing k s t sender recipient set_up ends =
    let key_line = some_within keys plan.keys k _ set_up.key_count ends.generated in
    let made : Made plan keys k ends.public ends.secret =
    made_by plan keys k ends.public ends.secret key_line.0 a b key_line.1 ends.generated
    (set_up.key_replies.each k key_line.0
    (Generated ends.public ends.secret) key_line.1 ends.generated) in
    let side : SenderSide plan made.kem ends.public s sender ends.enc standing =
    sender_side plan keys contexts standing k s ends.public ends.secret ends.enc sender made set_up
    ends.sender_is ends.sends ends.stands in
    let named = enc_named plan.pool contexts s t ends.enc ends.field ends.stands ends.names in
    let schedule = schedule_alike plan.pool sender recipient made.kem.id
    (sent_secret plan made.kem ends.public s) ends.alike in
    record {
      sender = standing_as sender made.kem.id side.secrets;
      recipient = standing_as recipient made.kem.id side.secrets;
      sender_stands = side.stands;
      recipient_stands = recipient_side plan keys contexts standing k s t ends.public ends.secret
          ends.enc recipient ends.field side.secrets made set_up ends.recipient_is ends.receives
          named side.enc_is (schedule ∙ side.scheduled_to);
      role = ap context_role ends.receives;
      suite = suite_alike plan.pool sender recipient made.kem.id ends.alike;
      secrets = refl;
      opens = λ can. opens_in_order (standing_as sender made.kem.id side.secrets)
          (standing_as recipient made.kem.id side.secrets) refl
          (secrets_are_whole (suite_of made.kem.id sender) sender.mode
          (sent_secret plan made.kem ends.public s) _ _ _ side.secrets side.scheduled_to
          (subst (λ aead. IsTrue (encrypts aead)) ends.alike.aead can));
    }
