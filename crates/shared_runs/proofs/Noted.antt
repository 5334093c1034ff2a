-- How many notes the calls of lanes make: one each, or none.
use Rattle.std.proofs.Common.{◌≡◌, ℕ, ◌+◌, ◌<◌, ◌≤◌, ◌^◌, List, [], ◌∷◌, length, get_or, Option, Some, None, refl, arith, length-append}
use Rattle.std.specs.Prelude.{sum, sum_by}
use Rattle.std.specs.List.{All}
use Rattle.std.proofs.lemmas.List.Elements.{All-head, All-tail}
use Rattle.std.proofs.lemmas.List.Sums.{sum-map, sum_by-cons, get_or-le-sum_by}
use Rattle.hpke_context.specs.Contexts.{ContextView}
use Rattle.batch_plans.specs.declared.plan.Plan.{Plan}
use Rattle.batch_plans.specs.declared.plan.CallLine.{CallLine}
use Rattle.batch_plans.specs.declared.plan.CallLine.TheVariants as calls
use Rattle.batch_plans.specs.Limits.{items_of, all_items}
use Rattle.batch_plans.specs.Within.{IsCallWithin, IsWithinLimits}
use Rattle.context_books.specs.Live.{Noting, noting}
use Rattle.lane_workers.specs.LiveServed.{note_place, noted_from}
use Rattle.shared_runs.specs.Noting.{note_count, notes_of, note_quota, note_quotas}

one_at_most : (o : Option Noting) → note_count o ≤ 1
one_at_most None = omega arith
one_at_most (Some n) = omega arith

place_count : (lane number : ℕ) (o : Option Noting)
    → length (note_place lane number o) ≡ note_count o
place_count lane number None = refl
place_count lane number (Some n) = refl

some_item : (items pool : ℕ) (call : CallLine) → IsCallWithin items pool call → 1 ≤ items_of call
some_item items pool (calls.UnsealAll context first count) within = within.1
some_item items pool call within = omega arith

-- a lane has no more calls than items
lane_calls_few : (items pool : ℕ) (calls : List CallLine) → All (IsCallWithin items pool) calls
    → length calls ≤ sum_by items_of calls
lane_calls_few items pool [] all = omega arith
lane_calls_few items pool (call ∷ calls) all =
    let P = IsCallWithin items pool in
    let here = some_item items pool call (All-head P call calls all) in
    let rest = lane_calls_few items pool calls (All-tail P call calls all) in
    omega (arith, sum_by-cons items_of call calls, here, rest)

pub lanes_short : (plan : Plan) → IsWithinLimits plan
    → All (λ (calls : List CallLine). length calls < 2 ^ 32) plan.lanes
lanes_short plan within k d low =
    let one = get_or-le-sum_by (λ (calls : List CallLine). sum_by items_of calls) plan.lanes k d low in
    let few = lane_calls_few (length plan.items) (length plan.pool) (get_or plan.lanes k d)
    (within.call_lines k d low) in
    omega (arith, one, few, within.items)

module _ (plan : Plan) (contexts : List (Option ContextView)) where
  pub notes_few : (call : CallLine) → notes_of plan contexts call ≤ 1
  notes_few call = one_at_most (noting plan contexts call)

  pub quota_most : (calls : List CallLine) → note_quota plan contexts calls ≤ length calls
  quota_most [] = omega arith
  quota_most (call ∷ calls) =
      omega (
        arith,
        sum_by-cons (notes_of plan contexts) call calls,
        notes_few call,
        quota_most calls,
      )

  -- as many as the places that they note
  pub noted_count : (lane number : ℕ) (calls : List CallLine)
      → length (noted_from plan contexts lane number calls) ≡ note_quota plan contexts calls
  noted_count lane number [] = refl
  noted_count lane number (call ∷ calls) =
      omega (
        arith,
        length-append (note_place lane number (noting plan contexts call))
            (noted_from plan contexts lane (number + 1) calls),
        place_count lane number (noting plan contexts call),
        noted_count lane (number + 1) calls,
        sum_by-cons (notes_of plan contexts) call calls,
      )

  quotas_few : (items pool : ℕ) (lanes : List (List CallLine))
      → All (All (IsCallWithin items pool)) lanes
      → sum_by (note_quota plan contexts) lanes ≤ all_items lanes
  quotas_few items pool [] all = omega arith
  quotas_few items pool (lane ∷ lanes) all =
      let P = All (IsCallWithin items pool) in
      omega (
        arith,
        sum_by-cons (note_quota plan contexts) lane lanes,
        sum_by-cons (λ (calls : List CallLine). sum_by items_of calls) lane lanes,
        quota_most lane,
        lane_calls_few items pool lane (All-head P lane lanes all),
        quotas_few items pool lanes (All-tail P lane lanes all),
      )

  -- all lanes together
  pub all_notes_few : IsWithinLimits plan → sum (note_quotas plan contexts) ≤ 65536
  all_notes_few within =
      omega (
        arith,
        sum-map (note_quota plan contexts) plan.lanes,
        quotas_few (length plan.items) (length plan.pool) plan.lanes within.call_lines,
        within.items,
      )
