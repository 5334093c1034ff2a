-- The set-up of contexts that lanes add: one stands just where its psk inputs are in order, and else the
-- reply to its line says why not.
use Rattle.std.proofs.Common.{◌≡◌, ◌↔◌, ◌<◌, ◌+◌, ℕ, zero, suc, List, [], ◌∷◌, length, take, Option, Some, None, Result, Ok, Err, All, refl, sym, ap, subst, ◌∙◌, arith}
use Rattle.std.specs.Prelude.{slice_get, IsSome, Contains}
use Rattle.std.specs.Result.{result_and}
use Rattle.std.specs.List.{flat_map, range_with_len}
use Rattle.std.proofs.lemmas.List.{get_or-drop, length-drop}
use Rattle.std.proofs.lemmas.Option.{get_or_from_slice_get}
use Rattle.std.proofs.lemmas.List.Elements.{All-nil, All-cons, All-contains, All-contains_itself, Contains-append_left, Contains-append_right}
use Rattle.std.proofs.lemmas.List.FromFn.{get_or-range_with_len, length-range_with_len}
use Rattle.key_schedule.specs.declared.psks.PskFault.{PskFault}
use Rattle.key_schedule.specs.declared.psks.PskFault.TheVariants.{Inconsistent, Unneeded, Missing}
use Rattle.key_schedule.specs.Psks.{verify_psk_inputs}
use Rattle.key_schedule.specs.declared.schedules.Secrets.{Secrets}
use Rattle.key_schedule.specs.Schedule.{secrets_of}
use Rattle.call_places.specs.Spans.{span_bytes}
use Rattle.hpke_context.specs.Contexts.{ContextView}
use Rattle.batch_plans.specs.declared.plan.Plan.{Plan}
use Rattle.batch_plans.specs.declared.plan.CallLine.{CallLine}
use Rattle.batch_plans.specs.declared.plan.CallLine.TheVariants as calls
use Rattle.batch_plans.specs.declared.plan.ContextKind.{ContextKind}
use Rattle.batch_plans.specs.declared.plan.ContextKind.TheVariants as kinds
use Rattle.batch_plans.specs.declared.plan.ContextLine.{ContextLine}
use Rattle.batch_plans.specs.declared.replies.KeyReply.{KeyReply}
use Rattle.batch_plans.specs.declared.replies.ContextReply.{ContextReply}
use Rattle.batch_plans.specs.declared.replies.ContextReply.TheVariants.{Shared}
use Rattle.batch_plans.specs.Within.{IsWithinLimits}
use Rattle.batch_plans.specs.Names.{line_count}
use Rattle.request_frames.specs.LivePlans.{IsLive, IsShare, name_added, names_added}
use Rattle.context_books.specs.Live.{add_line}
use Rattle.context_books.specs.Standing.{standing_at}
use Rattle.context_table.specs.Contexts.{exchange, outcome, reply_of, slot_of, scheduled_after, standing_by, suite_of}
use Rattle.context_table.proofs.Lists.{some_within}
use Rattle.context_table.specs.SetUp.{IsSetUp}
use Rattle.lane_workers.specs.LiveLanes.{AddsAre, AddsOneOf, add_refusal, adding_line, fault_refusal, line_refusal}

-- what becomes of a line whose psk inputs were verified
by_inputs : (line : ContextLine) (kem : ℕ) (secret : List ℕ) (secrets : Secrets)
    (r : Result (Unit {0}) PskFault)
    → (add_line (Some (reply_of (standing_by line
    (record { kem = kem; shared_secret = secret; reply = Shared }) (result_and r (Ok secrets)))))
    ≡ adding_line (fault_refusal r))
    × ((fault_refusal r ≡ None) ↔ IsSome (slot_of (standing_by line
    (record { kem = kem; shared_secret = secret; reply = Shared }) (result_and r (Ok secrets)))))
by_inputs line kem secret secrets (Ok nothing) = (refl, (λ none. refl, λ some. refl))
by_inputs line kem secret secrets (Err Inconsistent) = (refl, (λ none. cc, λ some. cc))
by_inputs line kem secret secrets (Err Unneeded) = (refl, (λ none. cc, λ some. cc))
by_inputs line kem secret secrets (Err Missing) = (refl, (λ none. cc, λ some. cc))

some_at : {X : Type 0} (xs : List X) (i : ℕ) → i < length xs → (x : X) × (slice_get xs i ≡ Some x)
some_at [] i low = absurd (omega (arith, low))
some_at (x ∷ xs) zero low = (x, refl)
some_at (x ∷ xs) (suc i) low = some_at xs i (omega (arith, low))

module _ (plan : Plan) (keys : List KeyReply) (contexts : List ContextReply)
    (standing : List (Option ContextView)) (live : IsLive plan) (within : IsWithinLimits plan)
    (set_up : IsSetUp plan keys contexts standing) where
  -- what is known of an `add` line: that it says why it is refused, and that its context stands else
  record AddIs (name : ℕ) : Type 0 where
    pub line : ContextLine
    pub at : slice_get plan.contexts (line_count plan + name) ≡ Some line
    pub says : (add_line (slice_get contexts (line_count plan + name))
        ≡ adding_line (line_refusal plan (Some line)))
        × ((line_refusal plan (Some line) ≡ None)
        ↔ IsSome (standing_at standing (line_count plan + name)))

  shared_says : (n : ℕ) (line : ContextLine) → IsShare line.kind
      → (add_line (Some (reply_of (outcome plan keys (take n contexts) n line)))
      ≡ adding_line (line_refusal plan (Some line)))
      × ((line_refusal plan (Some line) ≡ None)
      ↔ IsSome (slot_of (outcome plan keys (take n contexts) n line)))
  shared_says n line share = step line.kind refl share
    where
      step : (kind : ContextKind) → line.kind ≡ kind → IsShare kind
          → (add_line (Some (reply_of (outcome plan keys (take n contexts) n line)))
          ≡ adding_line (line_refusal plan (Some line)))
          × ((line_refusal plan (Some line) ≡ None)
          ↔ IsSome (slot_of (outcome plan keys (take n contexts) n line)))
      step (kinds.Share role kem secret) is share =
          subst (λ k. (add_line (Some (reply_of (scheduled_after plan.pool line
          (exchange plan keys (take n contexts) n k)))) ≡ adding_line (line_refusal plan (Some line)))
          × ((line_refusal plan (Some line) ≡ None) ↔ IsSome (slot_of (scheduled_after plan.pool line
          (exchange plan keys (take n contexts) n k))))) (sym is)
          (by_inputs line kem (span_bytes plan.pool secret)
          (secrets_of (suite_of kem line) line.mode (span_bytes plan.pool secret)
          (span_bytes plan.pool line.info) (span_bytes plan.pool line.psk)
          (span_bytes plan.pool line.psk_id))
          (verify_psk_inputs line.mode (span_bytes plan.pool line.psk)
          (span_bytes plan.pool line.psk_id)))
      step (kinds.Send key) is share = absurd share
      step (kinds.Recv key enc) is share = absurd share

  add_is : (name : ℕ) → name < plan.added → AddIs name
  add_is name low =
      let n = line_count plan + name in
      let few = within.added in
      let there : n < length plan.contexts = omega arith in
      let found = some_at plan.contexts n there in
      let line = found.0 in
      let some = found.1 in
      let reply = some_within plan.contexts contexts n line (sym set_up.context_count) some in
      let slot = some_within plan.contexts standing n line (sym set_up.standing_count) some in
      let is = set_up.outcomes.each n line reply.0 slot.0 some reply.1 slot.1 in
      let share : IsShare line.kind = subst (λ (l : ContextLine). IsShare l.kind)
      (get_or-drop (line_count plan) plan.contexts name line
      ∙ get_or_from_slice_get plan.contexts n line line some)
      (live.shared name line (let l = length-drop (line_count plan) plan.contexts in omega arith)) in
      let said = shared_says n line share in
      let here = slot.1 ∙ ap (λ s. Some s) is.slot_is in
      record {
        line = line;
        at = some;
        says = (
          ap add_line (reply.1 ∙ ap (λ r. Some r) is.reply_is) ∙ said.0,
          subst (λ o. (line_refusal plan (Some line) ≡ None) ↔ IsSome o)
              (sym (get_or_from_slice_get standing n _ None here)) said.1,
        );
      }

  pub adds_are : AddsAre plan contexts
  adds_are = λ name low.
      let a = add_is name low in
      a.says.0 ∙ ap (λ o. adding_line (line_refusal plan o)) (sym a.at)

  pub adds_stand : (name : ℕ) → name < plan.added
      → (add_refusal plan name ≡ None) ↔ IsSome (standing_at standing (line_count plan + name))
  adds_stand = λ name low.
      let a = add_is name low in
      subst (λ o. (line_refusal plan o ≡ None) ↔ IsSome (standing_at standing (line_count plan + name)))
      (sym a.at) a.says.1

-- ---- the names that are added

-- each name of a list is one of the plan's
abbrev AreBelow : ℕ → List ℕ → Type 0
AreBelow added names = (n : ℕ) → Contains names n → n < added

one_of : (added : ℕ) (call : CallLine) → AreBelow added (name_added call) → AddsOneOf added call
one_of added (calls.Add name) below = below name (All-contains_itself (name ∷ []) 0 name (omega arith))
one_of added call below = tt

lane_adds : (added : ℕ) (lines : List CallLine) → AreBelow added (flat_map name_added lines)
    → All (AddsOneOf added) lines
lane_adds added [] below = All-nil (AddsOneOf added)
lane_adds added (call ∷ lines) below =
    All-cons (AddsOneOf added) call lines
    (one_of added call (λ n i. below n (Contains-append_left (name_added call)
    (flat_map name_added lines) n i)))
    (lane_adds added lines (λ n i. below n (Contains-append_right (name_added call)
    (flat_map name_added lines) n i)))

lanes_add : (added : ℕ) (lanes : List (List CallLine)) → AreBelow added (names_added lanes)
    → All (All (AddsOneOf added)) lanes
lanes_add added [] below = All-nil (All (AddsOneOf added))
lanes_add added (lines ∷ lanes) below =
    All-cons (All (AddsOneOf added)) lines lanes
    (lane_adds added lines (λ n i. below n (Contains-append_left (flat_map name_added lines)
    (names_added lanes) n i)))
    (lanes_add added lanes (λ n i. below n (Contains-append_right (flat_map name_added lines)
    (names_added lanes) n i)))

pub adds_named : (plan : Plan) → IsLive plan → All (All (AddsOneOf plan.added)) plan.lanes
adds_named plan live =
    let numbers : All (λ n. n < plan.added) (range_with_len 0 plan.added) = λ k d low.
    let few : k < plan.added = subst (λ i. k < i) (length-range_with_len 0 plan.added) low in
    subst (λ n. n < plan.added) (sym (get_or-range_with_len 0 plan.added k d few)) (omega arith) in
    lanes_add plan.added plan.lanes
    (λ n i. All-contains (λ x. x < plan.added) (range_with_len 0 plan.added) n numbers
    (subst (λ names. Contains names n) live.named i))
