-- What becomes of key lines, and the keys that stand (NTRU Prime round 3, KeyGen). A byte string is
-- a list of numbers below 256.
use Rattle.std.specs.Prelude.{◌≡◌, ◌≢◌, ℕ, List, [], length, Option, Some, None, slice_get}
use Rattle.ring_core.specs.Sets.{Set, sntrup761, sntrup857}
use Rattle.sntrup_core.specs.Keys.{FindsG, IsExhausted, FindsNoInverse}
use Rattle.sntrup_kem.specs.Sizes.{public_size, secret_size}
use Rattle.sntrup_kem.specs.Kem.{IsGenerated, public_part, HasMalformedPart}
use Rattle.call_places.specs.Spans.{span_bytes}
use Rattle.batch_plans.specs.declared.plan.Plan.{Plan}
use Rattle.batch_plans.specs.declared.plan.KeyLine.{KeyLine}
use Rattle.batch_plans.specs.declared.plan.KeySource.{KeySource}
use Rattle.batch_plans.specs.declared.plan.KeySource.TheVariants as sources
use Rattle.batch_plans.specs.declared.plan.KeySet.{KeySet}
use Rattle.batch_plans.specs.declared.plan.KeySet.TheVariants as sets
use Rattle.batch_plans.specs.KeyLines.{set_of, source_of}
use Rattle.batch_plans.specs.declared.replies.KeyReply.{KeyReply}
use Rattle.batch_plans.specs.declared.replies.KeyReply.TheVariants.{Generated, Secret, Peer, Refused}
use Rattle.batch_plans.specs.declared.replies.KeyRefusal.TheVariants.{Exhausted, NoInverse, Length, Form}
use Rattle.context_table.specs.Streams.{key_words}

-- a KEM: its parameter set, and the kem_id by which HPKE names it here
pub record Kem : Type 0 where
  pub id : ℕ
  pub set : Set

-- the ids are 0xF761 and 0xF857, of this project's own choice: RFC 9180, 7.1, registers none for
-- these sets
abbrev pub kem761 : Kem
kem761 = record { id = 63329; set = sntrup761 }

abbrev pub kem857 : Kem
kem857 = record { id = 63575; set = sntrup857 }

-- the KEM with keys of a set
abbrev pub kem_with : KeySet → Kem
kem_with sets.Sntrup761 = kem761
kem_with sets.Sntrup857 = kem857

-- the KEM of a key line
abbrev pub kem_of : KeyLine → Kem
kem_of line = kem_with (set_of line)

-- ---- the replies

-- to a line that asks for a pair: KeyGen on these words from word 0 on. No g is found, or there is
-- a g and 3 f has no inverse, or else it is the pair
abbrev pub IsPairReply : Set → (ℕ → ℕ) → KeyReply → Type 0
IsPairReply set word (Refused Exhausted) = IsExhausted set word 0
IsPairReply set word (Refused NoInverse) = FindsNoInverse set word 0
IsPairReply set word (Generated public secret) =
    (¬ FindsNoInverse set word 0)
    × ((j : ℕ) × FindsG set word 0 j × IsGenerated set word 0 j public secret)
IsPairReply set word _ = ⊥

-- to a line that gives a secret key: the public key that its bytes hold. Their length is tested
-- first
abbrev pub IsSecretReply : Set → List ℕ → KeyReply → Type 0
IsSecretReply set bytes (Refused Length) = length bytes ≢ secret_size set
IsSecretReply set bytes (Refused Form) =
    (length bytes ≡ secret_size set) × HasMalformedPart set bytes
IsSecretReply set bytes (Secret public) =
    (length bytes ≡ secret_size set)
    × (¬ HasMalformedPart set bytes)
    × (public ≡ public_part set bytes)
IsSecretReply set bytes _ = ⊥

-- to a line that gives a public key: any bytes of its length are one
abbrev pub IsPeerReply : Set → List ℕ → KeyReply → Type 0
IsPeerReply set bytes (Refused Length) = length bytes ≢ public_size set
IsPeerReply set bytes Peer = length bytes ≡ public_size set
IsPeerReply set bytes _ = ⊥

-- to the line of a key of this set, from this source
abbrev pub IsSourceReply : Plan → ℕ → Set → KeySource → KeyReply → Type 0
IsSourceReply plan k set sources.Generate = IsPairReply set (key_words plan k)
IsSourceReply plan k set (sources.Secret bytes) = IsSecretReply set (span_bytes plan.pool bytes)
IsSourceReply plan k set (sources.Peer bytes) = IsPeerReply set (span_bytes plan.pool bytes)

-- to the key line of this number
abbrev pub IsKeyReply : Plan → ℕ → KeyLine → KeyReply → Type 0
IsKeyReply plan k line = IsSourceReply plan k (kem_of line).set (source_of line)

-- each reply is one to the key line of its number, from 0 on
pub record AreKeyReplies (plan : Plan) (replies : List KeyReply) : Type 0 where
  pub each : (k : ℕ) (line : KeyLine) (reply : KeyReply) → slice_get plan.keys k ≡ Some line
      → slice_get replies k ≡ Some reply → IsKeyReply plan k line reply

-- ---- the keys that stand

-- a key as contexts use it: of another's key the secret half is not known
pub record KeyView : Type 0 where
  pub kem : Kem
  pub public : List ℕ
  pub secret : Option (List ℕ)

-- the bytes that a key line gives, by where its key comes from
abbrev pub given_bytes : List ℕ → KeySource → List ℕ
given_bytes pool sources.Generate = []
given_bytes pool (sources.Secret bytes) = span_bytes pool bytes
given_bytes pool (sources.Peer bytes) = span_bytes pool bytes

-- the key of a line that gave these bytes and got this reply
abbrev pub key_by : Kem → List ℕ → KeyReply → Option KeyView
key_by kem bytes (Generated public secret) =
    Some (record { kem = kem; public = public; secret = Some secret })
key_by kem bytes (Secret public) =
    Some (record { kem = kem; public = public; secret = Some bytes })
key_by kem bytes Peer = Some (record { kem = kem; public = bytes; secret = None })
key_by kem bytes (Refused refusal) = None

abbrev pub key_in : List ℕ → Option KeyLine → Option KeyReply → Option KeyView
key_in pool (Some line) (Some reply) =
    key_by (kem_of line) (given_bytes pool (source_of line)) reply
key_in pool _ _ = None

-- the key of this number, where there is one and it stands
abbrev pub key_at : Plan → List KeyReply → ℕ → Option KeyView
key_at plan replies k = key_in plan.pool (slice_get plan.keys k) (slice_get replies k)
