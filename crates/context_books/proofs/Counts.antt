-- How many items a call asks of a context, and what quotas come to.
use Rattle.std.proofs.Common.{◌≡◌, ◌≢◌, ◌<◌, ◌≤◌, ◌+◌, ◌^◌, ℕ, Bool, All, [], length, get_or, zero, suc, List, map, refl, sym, ap, ◌∙◌, arith, Option, Some, None, inl, inr, if◌then◌else◌, eq-eqb, ne_eqb, is_some, true, false, true≢false}
use Rattle.std.specs.Prelude.{sum, sum_by}
use Rattle.std.specs.List.{range_with_len}
use Rattle.std.proofs.lemmas.Bool.{cases_eq}
use Rattle.std.proofs.lemmas.List.FromFn.{get_or-map-range_with_len, length-map-range_with_len}
use Rattle.std.proofs.lemmas.List.Sums.{sum-map, sum_by-cons, sum_by-le-sum_by, get_or-le-sum_by}
use Rattle.hpke_context.specs.Contexts.{ContextView}
use Rattle.batch_plans.specs.declared.plan.ContextLine.{ContextLine}
use Rattle.batch_plans.specs.declared.plan.Plan.{Plan}
use Rattle.batch_plans.specs.declared.plan.CallLine.{CallLine}
use Rattle.batch_plans.specs.declared.replies.CallRefusal.{CallRefusal}
use Rattle.batch_plans.specs.Limits.{items_of}
use Rattle.batch_plans.specs.Within.{IsWithinLimits}
use Rattle.batch_plans.specs.Calls.{kind_of, context_of}
use Rattle.batch_plans.specs.Room.{takes_numbers, if_served, items_at, items_on, served_on}
use Rattle.batch_plans.proofs.Counts.{items_on-le}
use Rattle.context_books.specs.Standing.{call_refusal}
use Rattle.context_books.specs.ContextLines.{export_limits, AreOfLines}
use Rattle.context_books.proofs.Refusals.{refusal_agrees}
use Rattle.context_books.specs.Quotas.{lane_quota, quotas_on, all_quotas}
use Rattle.context_books.proofs.Sums.{sum_none, sum_swapped-le}

module _ (lines : List ContextLine) (contexts : List (Option ContextView))
    (t : AreOfLines lines contexts) (number : ℕ) where
  abbrev limits : List ℕ
  limits = export_limits contexts

  -- what a call asks of the context, if its kind takes numbers
  abbrev asks_by : Bool → Option CallRefusal → CallLine → ℕ
  asks_by takes refused call =
      items_at (if takes then if_served refused (context_of call) else None) number (items_of call)

  -- by the contexts that stand
  pub counted : (call : CallLine)
      → items_on lines limits number call
      ≡ asks_by (takes_numbers (kind_of call)) (call_refusal contexts call) call
  counted call =
      ap (λ r. asks_by (takes_numbers (kind_of call)) r call) (refusal_agrees lines contexts call t)

  not_asked : (takes : Bool) (o : Option CallRefusal) (call : CallLine) → context_of call ≢ number
      → asks_by takes o call ≡ 0
  not_asked true None call ne =
      ap (λ b. if b then items_of call else 0) (ne_eqb (context_of call) number ne)
  not_asked takes o call ne = refl

  pub other_context : (call : CallLine) → context_of call ≢ number
      → items_on lines limits number call ≡ 0
  other_context call ne = counted call ∙ not_asked _ _ call ne

  refused : (takes : Bool) (o : Option CallRefusal) (call : CallLine) → is_some o ≡ true
      → asks_by takes o call ≡ 0
  refused true None call is = absurd (true≢false (sym is))
  refused takes o call is = refl

  pub refused_call : (call : CallLine) → is_some (call_refusal contexts call) ≡ true
      → items_on lines limits number call ≡ 0
  refused_call call is = counted call ∙ refused _ _ call is

  served : (o : Option CallRefusal) (call : CallLine) → is_some o ≡ false
      → context_of call ≡ number → asks_by true o call ≡ items_of call
  served None call is same =
      ap (λ b. if b then items_of call else 0) (eq-eqb (context_of call) number same)
  served (Some why) call is same = absurd (true≢false is)

  pub served_call : (call : CallLine) → takes_numbers (kind_of call) ≡ true
      → is_some (call_refusal contexts call) ≡ false → context_of call ≡ number
      → items_on lines limits number call ≡ items_of call
  served_call call is free same =
      counted call
      ∙ ap (λ b. asks_by b (call_refusal contexts call) call) is
      ∙ served _ call free same

-- ---- sums

-- a lane has few items
pub lanes_few : (plan : Plan) → IsWithinLimits plan
    → All (λ calls. sum_by items_of calls < 2 ^ 32) plan.lanes
lanes_few plan within k d low =
    let one = get_or-le-sum_by (λ (calls : List CallLine). sum_by items_of calls) plan.lanes k d low in
    omega (arith, one, within.items)

pub quotas_few : (plan : Plan) (contexts : List (Option ContextView)) (number : ℕ)
    → IsWithinLimits plan → sum (map (lane_quota plan contexts number) plan.lanes) ≤ 65536
quotas_few plan contexts number within =
    let limits = export_limits contexts in
    let each = sum_by-le-sum_by (λ (lane : List CallLine). sum_by (items_on plan.contexts limits number)
    lane) (λ (lane : List CallLine). sum_by items_of lane) plan.lanes
    (λ lane. sum_by-le-sum_by (items_on plan.contexts limits number) items_of lane
    (items_on-le plan.contexts limits number)) in
    omega (arith, sum-map (lane_quota plan contexts number) plan.lanes, each, within.items)

-- items of one context, counted over several
one_counts : (o : Option ℕ) (items a n : ℕ)
    → sum_by (λ number. items_at o number items) (range_with_len a n) ≤ items
one_counts None items a n = omega (arith, sum_none a n)
one_counts (Some c) items a zero = omega arith
one_counts (Some c) items a (suc n) =
    let f = λ (number : ℕ). items_at (Some c) number items in
    let more = sum_by-cons f a (range_with_len (a + 1) n) in
    elim (cases_eq c a) [
      | inl same ↦
          (let first : f a ≡ items = ap (λ b. if b then items else 0) (eq-eqb c a same) in
          omega (arith, more, first, later (a + 1) n (omega arith)))
      | inr ne ↦
          (let first : f a ≡ 0 = ap (λ b. if b then items else 0) (ne_eqb c a ne) in
          omega (arith, more, first, one_counts (Some c) items (a + 1) n))
    ]
  where
    later : (b k : ℕ) → c < b
        → sum_by (λ number. items_at (Some c) number items) (range_with_len b k) ≡ 0
    later b zero up = refl
    later b (suc k) up =
        let g = λ (number : ℕ). items_at (Some c) number items in
        let first : g b ≡ 0 =
        ap (λ t. if t then items else 0) (ne_eqb c b (λ e. absurd (omega arith))) in
        omega (arith, sum_by-cons g b (range_with_len (b + 1) k), first, later (b + 1) k (omega arith))

one_context : (lines : List ContextLine) (limits : List ℕ) (call : CallLine) (a n : ℕ)
    → sum_by (λ number. items_on lines limits number call) (range_with_len a n) ≤ items_of call
one_context lines limits call a n = one_counts (served_on lines limits call) (items_of call) a n

-- a call asks items of one context at most, and so of all of them not more than it has
pub all_quotas_few : (plan : Plan) (contexts : List (Option ContextView)) (n : ℕ)
    → IsWithinLimits plan
    → sum (map (λ number. sum (map (lane_quota plan contexts number) plan.lanes))
    (range_with_len 0 n)) ≤ 65536
all_quotas_few plan contexts n within =
    let lines = plan.contexts in
    let limits = export_limits contexts in
    let numbers = range_with_len 0 n in
    let lane_items = λ (calls : List CallLine). sum_by items_of calls in
    let of_lane = λ (number : ℕ) (calls : List CallLine). sum_by (items_on lines limits number) calls in
    let sums : sum (map (λ number. sum (map (lane_quota plan contexts number) plan.lanes)) numbers)
    ≡ sum_by (λ number. sum_by (of_lane number) plan.lanes) numbers =
    sum-map (λ number. sum (map (lane_quota plan contexts number) plan.lanes)) numbers
    ∙ ap (λ f. sum_by f numbers) (λ i number. sum-map (of_lane number) plan.lanes i) in
    let each = sum_swapped-le of_lane lane_items numbers plan.lanes (λ calls.
    sum_swapped-le (items_on lines limits) items_of numbers calls (λ call.
    one_context lines limits call 0 n)) in
    omega (arith, sums, each, within.items)

module _ (plan : Plan) (contexts : List (Option ContextView)) where
  pub quotas_at : (number : ℕ) → number < length contexts
      → get_or (all_quotas plan contexts) number [] ≡ quotas_on plan contexts number
  quotas_at number low =
      get_or-map-range_with_len (quotas_on plan contexts) 0 (length contexts) number number [] low
      (omega arith)

  pub quotas_count : length (all_quotas plan contexts) ≡ length contexts
  quotas_count = length-map-range_with_len (quotas_on plan contexts) 0 (length contexts)
