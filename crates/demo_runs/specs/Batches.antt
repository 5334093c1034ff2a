-- The two batches of a demonstration, before their lanes are served and after, whoever serves them.
use Rattle.std.specs.Prelude.{◌≡◌, ℕ, ◌<◌, ◌≤◌, Bool, true, false, List, [], ◌∷◌, length, map, Option, Some, None}
use Rattle.std.specs.List.{range_with_len}
use Rattle.hpke_context.specs.Contexts.{ContextView}
use Rattle.batch_plans.specs.declared.plan.Plan.{Plan}
use Rattle.batch_plans.specs.declared.replies.KeyReply.{KeyReply}
use Rattle.batch_plans.specs.declared.replies.KeyReply.TheVariants.{Generated}
use Rattle.batch_plans.specs.declared.replies.ContextReply.{ContextReply}
use Rattle.batch_plans.specs.declared.replies.Answers.{Answers}
use Rattle.batch_plans.specs.Within.{IsWithinLimits}
use Rattle.batch_plans.specs.Room.{room_for}
use Rattle.batch_plans.specs.ReplyText.{numbered}
use Rattle.batch_plans.specs.AnswersText.{lanes_lines, IsAnswered}
use Rattle.context_books.specs.Standing.{standing_at}
use Rattle.context_books.specs.ContextLines.{AreOfLines, export_limits}
use Rattle.context_books.specs.Runs.{run_along, IsAllowed, lane_call_lines}
use Rattle.context_table.specs.SetUp.{IsSetUp}
use Rattle.demo_runs.specs.Plans.{IsSealingPlan, IsOpeningPlan}
use Rattle.demo_runs.specs.SetUp.{set_up_plan}
use Rattle.demo_runs.specs.Demo.{sealed_at}
use Rattle.demo_runs.specs.declared.batches.DemoBatch.{DemoBatch}
use Rattle.demo_runs.specs.declared.batches.ServedBatch.{ServedBatch}
use Rattle.demo_runs.specs.declared.sealing.Sealing.{Sealing}

-- ---- both

-- with some guesses the answers are those of a run that is allowed
pub record AnswersARun (plan : Plan) (contexts : List (Option ContextView)) (answers : Answers)
    : Type 0 where
  pub guesses : List (List ℕ)
  pub allowed : IsAllowed (run_along plan contexts answers.journals guesses)
  pub lines : lanes_lines plan.lanes answers.lanes
      ≡ numbered (lane_call_lines (run_along plan contexts answers.journals guesses)) 0 plan.lanes

-- the keys and contexts of its plan are set up, and there is room for the answers to its calls
pub record IsReady (batch : DemoBatch) : Type 0 where
  pub within : IsWithinLimits batch.plan
  pub set_up : IsSetUp batch.plan batch.answers.keys batch.answers.contexts batch.standing
  pub lines : AreOfLines batch.plan.contexts batch.standing
  pub room : batch.answers ≡ room_for batch.plan batch.answers.keys batch.answers.contexts
      (export_limits batch.standing)
  pub key_count : length batch.answers.keys ≡ length batch.plan.keys
  pub context_count : length batch.answers.contexts ≡ length batch.plan.contexts

-- its answers are ones that `run` may give
pub record IsServed (batch : DemoBatch) (served : ServedBatch) : Type 0 where
  pub plan_is : served.plan ≡ batch.plan
  pub run : AnswersARun served.plan batch.standing served.answers
  pub answered : IsAnswered served.plan served.answers

-- ---- what the first batch gives

-- the ciphertexts in number order
abbrev pub ciphertexts : ContextView → ℕ → List (List ℕ)
ciphertexts context messages = map (sealed_at context) (range_with_len 0 messages)

-- those of the sender's context where the one key was generated, and none elsewhere
abbrev pub HasCiphertexts : ℕ → List KeyReply → List (Option ContextView)
    → Option (List (List ℕ)) → Type 0
HasCiphertexts messages (Generated public secret ∷ []) standing found =
    (context : ContextView) × (standing_at standing 0 ≡ Some context)
    × (found ≡ Some (ciphertexts context messages))
HasCiphertexts messages _ standing found = found ≡ None

-- by the set-up of a seed
pub record IsSealed (seed messages : ℕ) (found : Option (List (List ℕ))) : Type 0 where
  pub keys : List KeyReply
  pub contexts : List ContextReply
  pub standing : List (Option ContextView)
  pub set_up : IsSetUp (set_up_plan seed) keys contexts standing
  pub found_is : HasCiphertexts messages keys standing found

-- ---- the first batch

-- the one key was generated
abbrev pub is_generated : List KeyReply → Bool
is_generated (Generated public secret ∷ []) = true
is_generated _ = false

-- some lanes seal the messages on a key that was generated, and there is room for the ciphertexts
pub record IsSealing (seed messages : ℕ) (sealing : Sealing) : Type 0 where
  pub ready : IsReady sealing.batch
  pub lanes : ℕ
  pub some : 0 < lanes
  pub few : messages ≤ 65536
  pub is : IsSealingPlan seed messages lanes sealing.batch.plan
  pub generated : is_generated sealing.batch.answers.keys ≡ true
  pub room : length sealing.room ≡ messages

-- so it was, and its lanes were served
pub record HasSealed (seed messages : ℕ) (served : ServedBatch) (room : List (List ℕ))
    : Type 0 where
  pub sealing : Sealing
  pub is : IsSealing seed messages sealing
  pub served_is : IsServed sealing.batch served
  pub room_is : room ≡ sealing.room

-- ---- the second batch

-- one lane opens these ciphertexts in their order
pub record IsOpening (seed : ℕ) (cts : List (List ℕ)) (batch : DemoBatch) : Type 0 where
  pub ready : IsReady batch
  pub is : IsOpeningPlan seed cts batch.plan

-- its lanes were served, of the ciphertexts that the first batch gave
pub record HasOpened (seed messages : ℕ) (cts : List (List ℕ)) (served : ServedBatch)
    : Type 0 where
  pub batch : DemoBatch
  pub is : IsOpening seed cts batch
  pub served_is : IsServed batch served
  pub sealed : IsSealed seed messages (Some cts)
  pub few : messages ≤ 65536

-- ---- for the proofs

-- the batch has this plan
pub record IsBegun (plan : Plan) (batch : DemoBatch) : Type 0 where
  pub plan_is : batch.plan ≡ plan
  pub ready : IsReady batch
