-- What the limits of a plan say of its lanes and its calls.
use Rattle.std.proofs.Common.{◌≡◌, ◌<◌, ◌≤◌, ℕ, List, [], ◌∷◌, length, get_or, sym, ap, ◌∙◌, subst, arith, Some, None, inl, inr}
use Rattle.std.specs.Prelude.{slice_get, slice_index_or, sum_by}
use Rattle.std.specs.List.{All}
use Rattle.std.proofs.lemmas.Bool.{cases_lt}
use Rattle.std.proofs.lemmas.List.{get_or_past}
use Rattle.std.proofs.lemmas.List.Sums.{sum_by-cons, get_or-le-sum_by}
use Rattle.std.proofs.lemmas.List.Elements.{All-head, All-tail, All-weaker}
use Rattle.std.proofs.lemmas.Option.{get_or_from_slice_get, slice_get_within}
use Rattle.batch_plans.specs.declared.plan.Plan.{Plan}
use Rattle.batch_plans.specs.declared.plan.CallLine.{CallLine}
use Rattle.batch_plans.specs.Limits.{items_of}
use Rattle.batch_plans.specs.Within.{IsCallWithin, IsWithinLimits}
use Rattle.batch_plans.proofs.Rooms.{has_item}

abbrev pub IsLine : Plan → CallLine → Type 0
IsLine plan call = IsCallWithin (length plan.items) (length plan.pool) call

-- each call of a lane
pub lines_of_limits : (plan : Plan) (l : ℕ) (d : List CallLine) → IsWithinLimits plan → l < length plan.lanes → All (IsLine plan) (get_or plan.lanes l d)
lines_of_limits plan l d within lt = within.call_lines l d lt

no_call : (call : CallLine) → None ≡ Some call → ⊥
no_call call e = cc

-- the call of a place
pub line_of_limits : (plan : Plan) (l k : ℕ) (call : CallLine) → IsWithinLimits plan → slice_get (slice_index_or plan.lanes l []) k ≡ Some call → IsLine plan call
line_of_limits plan l k call within at = elim (cases_lt l (length plan.lanes)) [
  | inl low ↦ subst (IsLine plan) (get_or_from_slice_get (slice_index_or plan.lanes l []) k call call at)
      (lines_of_limits plan l [] within low k call (slice_get_within (slice_index_or plan.lanes l []) k call at))
  | inr high ↦ absurd (no_call call (sym (ap (λ (calls : List CallLine). slice_get calls k) (get_or_past plan.lanes l [] high)) ∙ at))
]

length-le-sum_by : {X : Type 0} (f : X → ℕ) (xs : List X) → All (λ x. 1 ≤ f x) xs → length xs ≤ sum_by f xs
length-le-sum_by f [] all = omega arith
length-le-sum_by f (x ∷ xs) all =
    let first = All-head (λ x. 1 ≤ f x) x xs all in
    let rest = length-le-sum_by f xs (All-tail (λ x. 1 ≤ f x) x xs all) in
    omega (arith, sum_by-cons f x xs, first, rest)

-- a lane has no more calls than there are items
pub calls_few : (plan : Plan) (l : ℕ) (d : List CallLine) → IsWithinLimits plan → l < length plan.lanes → length (get_or plan.lanes l d) ≤ 65536
calls_few plan l d within lt =
    let sums = λ (calls : List CallLine). sum_by items_of calls in
    let calls = get_or plan.lanes l d in
    let all = All-weaker (IsLine plan) (λ call. 1 ≤ items_of call) (λ call. has_item (length plan.items) (length plan.pool) call) calls (lines_of_limits plan l d within lt) in
    omega (arith, within.items, get_or-le-sum_by sums plan.lanes l d lt, length-le-sum_by items_of calls all)
