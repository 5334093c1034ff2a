-- Lanes before their first steps, one lane more, and how many steps there may be.
use Rattle.std.proofs.Common.{◌≡◌, ◌<◌, ◌≤◌, ℕ, zero, suc, ◌+◌, List, [], ◌∷◌, ◌++◌, length, get_or, sym, refl, ap, ◌∙◌, subst, arith, inl, inr}
use Rattle.std.proofs.Math.Seq.{get_or-append_seam}
use Rattle.std.specs.Prelude.{sum_by}
use Rattle.std.proofs.lemmas.Bool.{cases_lt}
use Rattle.std.proofs.lemmas.List.Sums.{sum_by-cons, get_or-le-sum_by}
use Rattle.std.proofs.lemmas.List.{get_or_append_left}
use Rattle.batch_plans.specs.declared.plan.Plan.{Plan}
use Rattle.batch_plans.specs.declared.plan.CallLine.{CallLine}
use Rattle.batch_plans.specs.declared.plan.CallLine.TheVariants as calls
use Rattle.batch_plans.specs.Limits.{items_of}
use Rattle.batch_plans.specs.Within.{IsWithinLimits}
use Rattle.context_core.specs.declared.lanes.Lane.{Lane}
use Rattle.context_core.specs.Following.{opened_count}
use Rattle.context_core.specs.Preparing.{IsFresh}

opened-le : (call : CallLine) → opened_count call ≤ items_of call
opened-le (calls.Add name) = omega arith
opened-le call = omega arith

all_opened-le : (lane : List CallLine) → sum_by opened_count lane ≤ sum_by items_of lane
all_opened-le [] = omega arith
all_opened-le (call ∷ lane) =
    omega (
      arith,
      sum_by-cons opened_count call lane,
      sum_by-cons items_of call lane,
      opened-le call,
      all_opened-le lane,
    )

-- a lane opens no more messages than there are items
pub opened_few : (plan : Plan) (l : ℕ) (d : List CallLine) → IsWithinLimits plan
    → l < length plan.lanes → sum_by opened_count (get_or plan.lanes l d) ≤ 65536
opened_few plan l d within there =
    let sums = λ (lane : List CallLine). sum_by items_of lane in
    omega (
      arith,
      within.items,
      get_or-le-sum_by sums plan.lanes l d there,
      all_opened-le (get_or plan.lanes l d),
    )

pub fresh_more : (all : List (List CallLine)) (lanes : List Lane) (i : ℕ) (lane : Lane)
    (here : List CallLine) → length lanes ≡ i → i < length all → IsFresh here lane
    → here ≡ get_or all i here
    → ((k : ℕ) (calls : List CallLine) (x : Lane) → k < i
    → IsFresh (get_or all k calls) (get_or lanes k x))
    → (k : ℕ) (calls : List CallLine) (x : Lane) → k < i + 1
    → IsFresh (get_or all k calls) (get_or (lanes ++ lane ∷ []) k x)
fresh_more all lanes i lane here count there fresh is before k calls x low =
    elim (cases_lt k i) [
      | inl less ↦ subst (λ (y : Lane). IsFresh (get_or all k calls) y)
          (sym (get_or_append_left lanes (lane ∷ []) x k (omega arith))) (before k calls x less)
      | inr more ↦ (let same : length lanes ≡ k = omega arith in
          let at : get_or (lanes ++ lane ∷ []) k x ≡ lane =
          ap (λ n. get_or (lanes ++ lane ∷ []) n x) (sym same) ∙ get_or-append_seam lanes lane [] x in
          let index : i ≡ k = sym count ∙ same in
          let calls_are : here ≡ get_or all k calls =
          is ∙ sym (value_here all i here calls there) ∙ ap (λ n. get_or all n calls) index in
          subst (λ (y : Lane). IsFresh (get_or all k calls) y) (sym at)
          (subst (λ cs. IsFresh cs lane) calls_are fresh))
    ]
  where
    value_here : (all : List (List CallLine)) (i : ℕ) (d e : List CallLine) → i < length all
        → get_or all i e ≡ get_or all i d
    value_here [] i d e low = absurd (omega arith)
    value_here (c ∷ all) zero d e low = refl
    value_here (c ∷ all) (suc i) d e low =
        value_here all i d e (omega arith)
