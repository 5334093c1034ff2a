-- What the first batch gives.
use Rattle.std.proofs.Common.{◌≡◌, ℕ, ◌<◌, ◌≤◌, true, false, List, [], ◌∷◌, length, Option, Some, None, sym, ap, subst, ◌∙◌, arith}
use Rattle.std.specs.Prelude.{sum_by, sum}
use Rattle.std.specs.List.{All, AllByRecursion, range_with_len, flat_map}
use Rattle.std.proofs.lemmas.List.Sums.{sum-map}
use Rattle.std.proofs.lemmas.List.Elements.{recursion_from_All}
use Rattle.hpke_context.specs.Contexts.{ContextView}
use Rattle.context_books.specs.Legal.{Legal}
use Rattle.batch_plans.specs.declared.plan.Plan.{Plan}
use Rattle.batch_plans.specs.declared.plan.CallLine.{CallLine}
use Rattle.batch_plans.specs.declared.replies.KeyReply.{KeyReply}
use Rattle.batch_plans.specs.declared.replies.KeyReply.TheVariants.{Generated}
use Rattle.batch_plans.specs.declared.replies.ContextReply.{ContextReply}
use Rattle.batch_plans.specs.declared.replies.Answers.{Answers}
use Rattle.batch_plans.specs.ReplyText.{has_stamps}
use Rattle.batch_plans.specs.AnswersText.{IsAnswered}
use Rattle.context_books.specs.Runs.{Run, asks_of, journal_of, LegalFor, run_along}
use Rattle.context_table.specs.SetUp.{IsSetUp}
use Rattle.demo_runs.specs.Texts.{share_of}
use Rattle.demo_runs.specs.Plans.{SealsText, IsSealingPlan, BeginsAs}
use Rattle.demo_runs.specs.SetUp.{set_up_plan}
use Rattle.demo_runs.proofs.Spelled.{share_sum}
use Rattle.demo_runs.specs.declared.batches.DemoBatch.{DemoBatch}
use Rattle.demo_runs.specs.declared.batches.ServedBatch.{ServedBatch}
use Rattle.demo_runs.specs.declared.sealing.Sealing.{Sealing}
use Rattle.demo_runs.specs.Batches.{AnswersARun, is_generated, IsSealed, IsBegun, IsSealing, HasSealed}
use Rattle.demo_runs.specs.Steps.{SealedLanes, AreLow, AreSealedLanes, put_all}
use Rattle.demo_runs.proofs.SetUps.{SenderStands, sender_stands, sealed_size, get_standing, generated_is, set_up_of}
use Rattle.demo_runs.proofs.Sealings.{SealingRun, all_numbers, lanes_sealed, all_low, all_there, journal_size}
use Rattle.demo_runs.proofs.Puts.{put_whole}
use Rattle.demo_runs.proofs.Reported.{none_found}

-- the first batch was served, on a key that was generated
pub record FirstBatch (seed messages lanes : ℕ) (plan : Plan) (contexts : List ContextReply)
    (standing : List (Option ContextView)) (public secret : List ℕ) (answers : Answers) : Type 0 where
  pub set_up : IsSetUp (set_up_plan seed) (Generated public secret ∷ []) contexts standing
  pub is : IsSealingPlan seed messages lanes plan
  pub run : AnswersARun plan standing answers
  pub answered : IsAnswered plan answers
  pub few : messages ≤ 65536
  pub some : 0 < lanes

all_each : {X : Type 0} (P Q : X → Type 0) → ((x : X) → P x → Q x) → (xs : List X) → AllByRecursion P xs → AllByRecursion Q xs
all_each P Q each [] all = tt
all_each P Q each (x ∷ xs) all = (each x all.0, all_each P Q each xs all.1)

module _ (seed messages lanes : ℕ) (plan : Plan) (contexts : List ContextReply) (standing : List (Option ContextView))
    (public secret : List ℕ) (answers : Answers) (t : FirstBatch seed messages lanes plan contexts standing public secret answers) where
  abbrev pub stands : SenderStands contexts standing
  stands = sender_stands seed public secret contexts standing t.set_up

  abbrev pub the_run : Run
  the_run = run_along plan standing answers.journals t.run.guesses

  counted : sum_by (λ (calls : List CallLine). length calls) plan.lanes ≡ messages
  counted =
      sym (sum-map (λ (calls : List CallLine). length calls) plan.lanes)
      ∙ ap (λ (ns : List ℕ). sum ns) t.is.counts
      ∙ sum-map (λ lane. length (share_of messages lanes lane)) (range_with_len 0 lanes)
      ∙ share_sum messages lanes t.some

  legal : Legal (asks_of the_run) 0 (journal_of the_run 0)
  legal =
      subst (λ (v : ℕ). LegalFor (has_stamps v) (asks_of the_run) answers.journals) t.is.begins.version t.run.allowed.legal 0

  pub sealing : SealingRun the_run
  sealing = record {
    sender = stands.sender;
    stands = get_standing standing 0 (Some stands.sender) stands.stands;
    role = stands.role;
    aead = stands.aead;
    calls = all_each (All (SealsText plan.pool)) (λ (calls : List CallLine). AllByRecursion (SealsText plan.pool) calls)
        (λ calls all. recursion_from_All (SealsText plan.pool) calls all) plan.lanes
        (recursion_from_All (All (SealsText plan.pool)) plan.lanes t.is.calls);
    legal = legal;
    few = (let a = counted in let b = stands.limit in let c = t.few in omega arith);
  }

  abbrev pub numbers : List (List ℕ)
  numbers = all_numbers the_run sealing 0 plan.lanes

  size : length (journal_of the_run 0) ≡ messages
  size = journal_size the_run sealing ∙ counted

  sealed : SealedLanes stands.sender plan.lanes answers.lanes numbers
  unfolding sealing
  sealed = lanes_sealed the_run sealing answers.lanes t.answered.lanes t.answered.printable t.run.lines

  low : AreLow messages stands.sender (flat_map (λ (ns : List ℕ). ns) numbers)
  low = record {
    few = t.few;
    low = λ n here. let a = all_low the_run sealing n here in let b = size in omega arith;
    size = sealed_size stands.sender stands.whole;
  }

  pub lanes_are : AreSealedLanes messages plan.lanes answers.lanes
  lanes_are = record { context = stands.sender; numbers = numbers; lanes_are = sealed; are_low = low }

  pub found_are : (start cts : List (List ℕ)) → length start ≡ messages
      → ((context : ContextView) (numbers : List (List ℕ)) → SealedLanes context plan.lanes answers.lanes numbers
      → AreLow (length start) context (flat_map (λ (ns : List ℕ). ns) numbers)
      → cts ≡ put_all context start (flat_map (λ (ns : List ℕ). ns) numbers))
      → IsSealed seed messages (Some cts)
  found_are start cts same put =
      let all = put stands.sender numbers sealed (subst (λ (n : ℕ). AreLow n stands.sender (flat_map (λ (ns : List ℕ). ns) numbers)) (sym same) low) in
      let whole = put_whole stands.sender start (flat_map (λ (ns : List ℕ). ns) numbers) messages same
      (λ n below. all_there the_run sealing n (let b = size in omega arith)) in
      record {
        keys = Generated public secret ∷ [];
        contexts = contexts;
        standing = standing;
        set_up = t.set_up;
        found_is = (stands.sender, get_standing standing 0 (Some stands.sender) stands.stands, ap Some (all ∙ whole));
      }

-- as the code has it
pub first_batch : (seed messages lanes : ℕ) (plan : Plan) (keys : List KeyReply) (contexts : List ContextReply)
    (standing : List (Option ContextView)) (answers : Answers) → IsSetUp plan keys contexts standing → is_generated keys ≡ true
    → IsSealingPlan seed messages lanes plan → AnswersARun plan standing answers → IsAnswered plan answers
    → messages ≤ 65536 → 0 < lanes
    → (public : List ℕ) × (secret : List ℕ) × FirstBatch seed messages lanes plan contexts standing public secret answers
first_batch seed messages lanes plan keys contexts standing answers s generated is run answered few some =
    let key = generated_is keys generated in (
      key.0,
      key.1,
      record {
        set_up = subst (λ (ks : List KeyReply). IsSetUp (set_up_plan seed) ks contexts standing) key.2
            (set_up_of seed plan is.begins keys contexts standing s);
        is = is;
        run = run;
        answered = answered;
        few = few;
        some = some;
      },
    )

-- ---- set up and served

pub no_key : (seed messages lanes : ℕ) (plan : Plan) (batch : DemoBatch) → IsSealingPlan seed messages lanes plan
    → IsBegun plan batch → is_generated batch.answers.keys ≡ false → IsSealed seed messages None
no_key seed messages lanes plan batch is begun none =
    let a = batch.answers in
    let begins = subst (BeginsAs seed) (sym begun.plan_is) is.begins in
    record {
      keys = a.keys;
      contexts = a.contexts;
      standing = batch.standing;
      set_up = set_up_of seed batch.plan begins a.keys a.contexts batch.standing begun.ready.set_up;
      found_is = none_found messages a.keys batch.standing none;
    }

pub with_key : (seed messages lanes : ℕ) (plan : Plan) (first : Sealing) → 0 < lanes → messages ≤ 65536
    → IsSealingPlan seed messages lanes plan → IsBegun plan first.batch
    → is_generated first.batch.answers.keys ≡ true → length first.room ≡ messages → IsSealing seed messages first
with_key seed messages lanes plan first some few is begun generated room = record {
  ready = begun.ready;
  lanes = lanes;
  some = some;
  few = few;
  is = subst (IsSealingPlan seed messages lanes) (sym begun.plan_is) is;
  generated = generated;
  room = room;
}

pub first_of : (seed messages : ℕ) (served : ServedBatch) (room : List (List ℕ)) (t : HasSealed seed messages served room)
    → (public : List ℕ) × (secret : List ℕ)
    × FirstBatch seed messages t.is.lanes served.plan t.sealing.batch.answers.contexts t.sealing.batch.standing public secret served.answers
first_of seed messages served room t =
    let b = t.sealing.batch in
    let same = sym t.served_is.plan_is in
    first_batch seed messages t.is.lanes served.plan b.answers.keys b.answers.contexts b.standing served.answers
    (subst (λ (p : Plan). IsSetUp p b.answers.keys b.answers.contexts b.standing) same t.is.ready.set_up) t.is.generated
    (subst (IsSealingPlan seed messages t.is.lanes) same t.is.is) t.served_is.run t.served_is.answered t.is.few t.is.some

pub may_put : (seed messages : ℕ) (served : ServedBatch) (room start : List (List ℕ)) → HasSealed seed messages served room
    → start ≡ room → AreSealedLanes (length start) served.plan.lanes served.answers.lanes
may_put seed messages served room start t same =
    let f = first_of seed messages served room t in
    let size : length start ≡ messages = ap (λ (xs : List (List ℕ)). length xs) (same ∙ t.room_is) ∙ t.is.room in
    subst (λ (n : ℕ). AreSealedLanes n served.plan.lanes served.answers.lanes) (sym size)
    (lanes_are seed messages t.is.lanes served.plan t.sealing.batch.answers.contexts t.sealing.batch.standing f.0 f.1 served.answers f.2)

pub all_put : (seed messages : ℕ) (served : ServedBatch) (room start cts : List (List ℕ)) → HasSealed seed messages served room
    → start ≡ room
    → ((context : ContextView) (numbers : List (List ℕ)) → SealedLanes context served.plan.lanes served.answers.lanes numbers
    → AreLow (length start) context (flat_map (λ (ns : List ℕ). ns) numbers)
    → cts ≡ put_all context start (flat_map (λ (ns : List ℕ). ns) numbers))
    → IsSealed seed messages (Some cts)
all_put seed messages served room start cts t same put =
    let f = first_of seed messages served room t in
    let size : length start ≡ messages = ap (λ (xs : List (List ℕ)). length xs) (same ∙ t.room_is) ∙ t.is.room in
    found_are seed messages t.is.lanes served.plan t.sealing.batch.answers.contexts t.sealing.batch.standing f.0 f.1 served.answers f.2
    start cts size put
