-- What becomes of context lines (RFC 9180, 5.1). A byte string is a list of numbers below 256. Two
-- structs of src/ are named: an `Exchange` is what the key schedule is given of the KEM, a `Standing`
-- a context that stands; both with the reply to its line.
use Rattle.std.specs.Prelude.{◌≡◌, ℕ, ◌==◌, if◌then◌else◌, List, length, take, Option, Some, None, Result, Ok, Err, slice_get}
use Rattle.sntrup_kem.specs.Sizes.{enc_size}
use Rattle.sntrup_kem.specs.Kem.{drawn_r, enc_of, session_of, decapsulated}
use Rattle.hkdf_labelled.specs.declared.suites.Suite.{Suite}
use Rattle.key_schedule.specs.declared.psks.PskFault.{PskFault}
use Rattle.key_schedule.specs.declared.psks.PskFault.TheVariants.{Inconsistent, Unneeded, Missing}
use Rattle.key_schedule.specs.declared.schedules.Secrets.{Secrets}
use Rattle.key_schedule.specs.Schedule.{key_schedule}
use Rattle.hpke_context.specs.Contexts.{ContextView}
use Rattle.call_places.specs.Spans.{span_bytes}
use Rattle.batch_plans.specs.declared.plan.Plan.{Plan}
use Rattle.batch_plans.specs.declared.plan.EncField.{EncField}
use Rattle.batch_plans.specs.declared.plan.EncField.TheVariants.{Bytes, Of}
use Rattle.batch_plans.specs.declared.plan.ContextKind.{ContextKind}
use Rattle.batch_plans.specs.declared.plan.ContextKind.TheVariants.{Share, Send, Recv}
use Rattle.batch_plans.specs.declared.plan.ContextLine.{ContextLine}
use Rattle.batch_plans.specs.declared.replies.KeyReply.{KeyReply}
use Rattle.batch_plans.specs.declared.replies.ContextReply.{ContextReply}
use Rattle.batch_plans.specs.declared.replies.ContextReply.TheVariants.{Shared, Sender, Recipient, Refused}
use Rattle.batch_plans.specs.declared.replies.ContextRefusal.{ContextRefusal}
use Rattle.batch_plans.specs.declared.replies.ContextRefusal.TheVariants.{NoKey, NeedSecret, NoEnc, EncSize, PskPair, PskExtra, PskMissing}
use Rattle.batch_plans.specs.Calls.{context_role}
use Rattle.context_table.specs.declared.exchanges.Exchange.{Exchange}
use Rattle.context_table.specs.declared.contexts.Standing.{Standing}
use Rattle.context_table.specs.Streams.{context_words}
use Rattle.context_table.specs.Keys.{Kem, KeyView, key_at}

-- ---- the shared secret

-- a sender's, by Encap to a public key, with r drawn from these words (RFC 9180, 5.1.1 and 5.1.2,
-- SetupBaseS and SetupPSKS)
abbrev pub sender_exchange : (ℕ → ℕ) → Option KeyView → Result Exchange ContextRefusal
sender_exchange word None = Err NoKey
sender_exchange word (Some key) =
    let r = drawn_r key.kem.set word 0 in
    Ok (record {
      kem = key.kem.id;
      shared_secret = session_of key.kem.set key.public r;
      reply = Sender (enc_of key.kem.set key.public r);
    })

-- by Decap with a secret key, which refuses no bytes of an encapsulation's length
abbrev pub decap_exchange : Kem → List ℕ → List ℕ → Result Exchange ContextRefusal
decap_exchange kem secret enc =
    if length enc == enc_size kem.set
    then Ok (record {
      kem = kem.id;
      shared_secret = decapsulated kem.set secret enc;
      reply = Recipient;
    })
    else Err EncSize

-- the same, where the secret half is known and the encapsulation is found
abbrev pub decap_with : Kem → Option (List ℕ) → Option (List ℕ) → Result Exchange ContextRefusal
decap_with kem None enc = Err NeedSecret
decap_with kem (Some secret) None = Err NoEnc
decap_with kem (Some secret) (Some enc) = decap_exchange kem secret enc

-- a recipient's (RFC 9180, 5.1.1 and 5.1.2, SetupBaseR and SetupPSKR)
abbrev pub recipient_exchange : Option KeyView → Option (List ℕ) → Result Exchange ContextRefusal
recipient_exchange None enc = Err NoKey
recipient_exchange (Some key) enc = decap_with key.kem key.secret enc

-- the encapsulation in the reply to a sender's line
abbrev pub enc_in : Option ContextReply → Option (List ℕ)
enc_in (Some (Sender enc)) = Some enc
enc_in _ = None

-- ENC: bytes of the line, or what an earlier sender's line was answered
abbrev pub enc_at : List ℕ → List ContextReply → EncField → Option (List ℕ)
enc_at pool earlier (Bytes bytes) = Some (span_bytes pool bytes)
enc_at pool earlier (Of number) = enc_in (slice_get earlier number)

-- what is exchanged by the line of this number, after these replies to the lines before it
abbrev pub exchange : Plan → List KeyReply → List ContextReply → ℕ → ContextKind
    → Result Exchange ContextRefusal
exchange plan keys earlier c (Share role kem secret) =
    Ok (record { kem = kem; shared_secret = span_bytes plan.pool secret; reply = Shared })
exchange plan keys earlier c (Send key) =
    sender_exchange (context_words plan c) (key_at plan keys key)
exchange plan keys earlier c (Recv key enc) =
    recipient_exchange (key_at plan keys key) (enc_at plan.pool earlier enc)

-- ---- the context

-- why a context is refused by its psk inputs (RFC 9180, 5.1, VerifyPSKInputs)
abbrev pub psk_refusal : PskFault → ContextRefusal
psk_refusal Inconsistent = PskPair
psk_refusal Unneeded = PskExtra
psk_refusal Missing = PskMissing

-- the algorithms of a context line, with the kem_id
abbrev pub suite_of : ℕ → ContextLine → Suite
suite_of kem line = record { kem = kem; kdf = line.kdf; aead = line.aead }

-- a context stands, unless the key schedule raises a fault
abbrev pub standing_by : ContextLine → Exchange → Result Secrets PskFault
    → Result Standing ContextRefusal
standing_by line exchanged (Err fault) = Err (psk_refusal fault)
standing_by line exchanged (Ok secrets) =
    Ok (record {
      reply = exchanged.reply;
      context = record {
        role = context_role line.kind;
        suite = suite_of exchanged.kem line;
        limit = line.limit;
        secrets = secrets;
      };
    })

-- KeySchedule of a context line (RFC 9180, 5.1), whose spans name bytes of the pool
abbrev pub scheduled : List ℕ → ContextLine → Exchange → Result Standing ContextRefusal
scheduled pool line exchanged =
    standing_by line exchanged
    (key_schedule (suite_of exchanged.kem line) line.mode exchanged.shared_secret
    (span_bytes pool line.info) (span_bytes pool line.psk) (span_bytes pool line.psk_id))

-- the first refusal: the KEM's, or else that of the psk inputs
abbrev pub scheduled_after : List ℕ → ContextLine → Result Exchange ContextRefusal
    → Result Standing ContextRefusal
scheduled_after pool line (Err refusal) = Err refusal
scheduled_after pool line (Ok exchanged) = scheduled pool line exchanged

-- what becomes of the context line of this number, after these replies to the lines before it
abbrev pub outcome : Plan → List KeyReply → List ContextReply → ℕ → ContextLine
    → Result Standing ContextRefusal
outcome plan keys earlier c line =
    scheduled_after plan.pool line (exchange plan keys earlier c line.kind)

-- ---- all context lines

abbrev pub reply_of : Result Standing ContextRefusal → ContextReply
reply_of (Ok standing) = standing.reply
reply_of (Err refusal) = Refused refusal

abbrev pub slot_of : Result Standing ContextRefusal → Option ContextView
slot_of (Ok standing) = Some standing.context
slot_of (Err refusal) = None

-- a line's reply and its context, where it stands
pub record IsOutcome (became : Result Standing ContextRefusal) (reply : ContextReply)
    (slot : Option ContextView) : Type 0 where
  pub reply_is : reply ≡ reply_of became
  pub slot_is : slot ≡ slot_of became

-- each context line, from number 0 on, has its reply and its context
pub record AreOutcomes (plan : Plan) (keys : List KeyReply) (replies : List ContextReply)
    (standing : List (Option ContextView)) : Type 0 where
  pub each : (c : ℕ) (line : ContextLine) (reply : ContextReply) (slot : Option ContextView)
      → slice_get plan.contexts c ≡ Some line
      → slice_get replies c ≡ Some reply
      → slice_get standing c ≡ Some slot
      → IsOutcome (outcome plan keys (take c replies) c line) reply slot
