-- What the two texts of a demonstration spell: its set-up, and lanes that seal, or a lane that opens.
use Rattle.std.specs.Prelude.{◌≡◌, ℕ, List, [], ◌∷◌, ◌++◌, length, map, Some}
use Rattle.std.specs.List.{All, flat_map, range_with_len}
use Rattle.call_places.specs.declared.spans.Item.{Item}
use Rattle.call_places.specs.Spans.{span_bytes}
use Rattle.call_places.specs.Messages.{SealedMessage, sealed_messages}
use Rattle.batch_plans.specs.declared.plan.KeyLine.TheVariants.{Generate}
use Rattle.batch_plans.specs.declared.plan.CallLine.{CallLine}
use Rattle.batch_plans.specs.declared.plan.CallLine.TheVariants.{Seal, UnsealAll}
use Rattle.batch_plans.specs.declared.plan.Plan.{Plan}
use Rattle.batch_plans.specs.Limits.{items_from}
use Rattle.demo_runs.specs.Texts.{share_of}
use Rattle.demo_runs.specs.SetUp.{seed_bytes, infos, sender_line, recipient_line}
use Rattle.demo_runs.specs.Demo.{sealed_text}

-- a plan that begins with these lines
pub record BeginsAs (seed : ℕ) (plan : Plan) : Type 0 where
  pub version : plan.version ≡ 1
  pub seed_is : plan.seed ≡ Some (seed_bytes seed)
  pub keys : plan.keys ≡ Generate ∷ []
  pub contexts : plan.contexts ≡ sender_line ∷ recipient_line ∷ []
  pub rest : List ℕ
  pub pool : plan.pool ≡ infos ++ rest

-- ---- the first batch

-- the call seals T on context 0, with no associated data
pub record SealsText (pool : List ℕ) (call : CallLine) : Type 0 where
  pub item : Item
  pub call_is : call ≡ Seal 0 item
  pub aad : span_bytes pool item.aad ≡ []
  pub text : span_bytes pool item.text ≡ sealed_text

-- each lane seals T as often as its share of the messages says
pub record IsSealingPlan (seed messages lanes : ℕ) (plan : Plan) : Type 0 where
  pub begins : BeginsAs seed plan
  pub counts : map (λ (calls : List CallLine). length calls) plan.lanes
      ≡ map (λ lane. length (share_of messages lanes lane)) (range_with_len 0 lanes)
  pub calls : All (All (SealsText plan.pool)) plan.lanes

-- ---- the second batch

-- a ciphertext without associated data
abbrev pub message : List ℕ → SealedMessage
message ct = record { aad = []; ct = ct }

-- the call opens these ciphertexts on context 1
pub record OpensThese (plan : Plan) (cts : List (List ℕ)) (call : CallLine) : Type 0 where
  pub first : ℕ
  pub call_is : call ≡ UnsealAll 1 first (length cts)
  pub messages : sealed_messages plan.pool (items_from plan.items first (length cts))
      ≡ map message cts

-- these calls open these lists of ciphertexts, each its own
pub data OpenAll (plan : Plan) : List CallLine → List (List (List ℕ)) → Type 0 where
  none : OpenAll plan [] []
  and_more : {call : CallLine} {cts : List (List ℕ)} {calls : List CallLine}
      {more : List (List (List ℕ))} → OpensThese plan cts call → OpenAll plan calls more
      → OpenAll plan (call ∷ calls) (cts ∷ more)

-- one lane opens the ciphertexts in their order, in some parts
pub record IsOpeningPlan (seed : ℕ) (cts : List (List ℕ)) (plan : Plan) : Type 0 where
  pub begins : BeginsAs seed plan
  pub lane : List CallLine
  pub lanes : plan.lanes ≡ lane ∷ []
  pub parts : List (List (List ℕ))
  pub whole : flat_map (λ (part : List (List ℕ)). part) parts ≡ cts
  pub opens : OpenAll plan lane parts
