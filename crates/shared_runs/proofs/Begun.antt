-- A table whose lanes have not got their passes yet.
use Rattle.std.proofs.Common.{◌≡◌, ℕ, ◌-◌, ◌<◌, ◌≤◌, List, [], ◌∷◌, length, map, get_or, Option, Some, None, inl, inr, sym, refl, ap, ◌∙◌, subst, arith}
use Rattle.std.specs.Prelude.{sum}
use Rattle.std.specs.List.{range_with_len}
use Rattle.std.proofs.lemmas.Bool.{cases_lt}
use Rattle.std.proofs.lemmas.List.{length-map, get_or-map, get_or_past, ext_get_or}
use Rattle.turn_lock.specs.Passes.{PassListView, fresh_from}
use Rattle.hpke_context.specs.Contexts.{ContextView}
use Rattle.shared_context.specs.Calls.{SharedView}
use Rattle.batch_plans.specs.declared.plan.Plan.{Plan}
use Rattle.batch_plans.specs.Within.{IsWithinLimits}
use Rattle.context_books.specs.Standing.{standing_at}
use Rattle.context_books.specs.Quotas.{lane_quota, quotas_on, all_quotas}
use Rattle.context_books.proofs.Counts.{all_quotas_few, quotas_at}
use Rattle.lane_workers.specs.Handing.{list_at}
use Rattle.lane_workers.specs.Turns.{shared_at, view_in, views}
use Rattle.shared_runs.specs.Sharing.{IsSharedBy, Shares, SharesEach}
use Rattle.shared_runs.specs.Tables.{AreLeft}
use Rattle.lane_workers.proofs.Found.{one_of, none_some}

-- ---- quotas

module _ (plan : Plan) (contexts : List (Option ContextView)) where
  pub lanes_count : (number : ℕ) → length (quotas_on plan contexts number) ≡ length plan.lanes
  lanes_count number = length-map plan.lanes (lane_quota plan contexts number)

  sums_are : (numbers : List ℕ) → map sum (map (quotas_on plan contexts) numbers)
      ≡ map (λ number. sum (quotas_on plan contexts number)) numbers
  sums_are [] = refl
  sums_are (x ∷ xs) = ap (λ l. sum (quotas_on plan contexts x) ∷ l) (sums_are xs)

  pub all_few : IsWithinLimits plan → sum (map sum (all_quotas plan contexts)) ≤ 65536
  all_few within =
      let few = all_quotas_few plan contexts (length contexts) within in
      omega (arith, ap sum (sums_are (range_with_len 0 (length contexts))), few)

-- ---- contexts that were shared

view_here : (o : Option ContextView) (quotas counter : List ℕ) (x : Option SharedView)
    (l : Option PassListView) → Shares o quotas counter x l → view_in x ≡ o
view_here None quotas counter x l t = ap view_in t.0
view_here (Some view) quotas counter x l t = ap view_in t.1 ∙ ap Some t.2.context

shared_here : (o : Option ContextView) (quotas counter : List ℕ) (x : Option SharedView)
    (l : Option PassListView) (s : SharedView) → Shares o quotas counter x l → x ≡ Some s
    → IsSharedBy s.context quotas counter s
    × (l ≡ Some (record { passes = fresh_from s.lock 0 (length quotas); made = length quotas }))
shared_here None quotas counter x l s t is = absurd (none_some s (sym t.0 ∙ is))
shared_here (Some view) quotas counter x l s t is =
    let same : t.0 ≡ s = one_of t.0 s (sym t.1 ∙ is) in
    subst (λ (y : SharedView). IsSharedBy y.context quotas counter y
    × (l ≡ Some (record { passes = fresh_from y.lock 0 (length quotas); made = length quotas }))) same
    (subst (λ (v : ContextView). IsSharedBy v quotas counter t.0) (sym t.2.context) t.2, t.3)

none_here : (o : Option ContextView) (quotas counter : List ℕ) (x : Option SharedView)
    (l : Option PassListView) → Shares o quotas counter x l → x ≡ None → l ≡ None
none_here None quotas counter x l t is = t.1
none_here (Some view) quotas counter x l t is = absurd (none_some t.0 (sym is ∙ t.1))

module _ (plan : Plan) (contexts : List (Option ContextView)) (counter : List ℕ)
    (shared : List (Option SharedView)) (lists : List (Option PassListView))
    (t : SharesEach contexts (all_quotas plan contexts) counter shared lists) where
  pub views_are : views shared ≡ contexts
  views_are = ext_get_or None (views shared) contexts (length-map shared view_in ∙ t.count)
      (λ number low.
      let size = length-map shared view_in in
      let count = t.count in
      get_or-map view_in shared number None None (omega arith)
      ∙ view_here (standing_at contexts number) (get_or (all_quotas plan contexts) number []) counter
      (shared_at shared number) (list_at lists number) (t.each number (omega arith)))

  there : (number : ℕ) (s : SharedView) → shared_at shared number ≡ Some s
      → number < length contexts
  there number s is = elim (cases_lt number (length contexts)) [
    | inl low ↦ low
    | inr high ↦ absurd (none_some s (sym (get_or_past shared number None
        (let count = t.count in omega arith)) ∙ is))
  ]

  both : (number : ℕ) (s : SharedView) → shared_at shared number ≡ Some s
      → IsSharedBy s.context (quotas_on plan contexts number) counter s
      × (list_at lists number ≡ Some (record {
        passes = fresh_from s.lock 0 (length (quotas_on plan contexts number));
        made = length (quotas_on plan contexts number);
      }))
  both number s is =
      let low = there number s is in
      shared_here (standing_at contexts number) (quotas_on plan contexts number) counter
      (shared_at shared number) (list_at lists number) s
      (subst (λ q. Shares (standing_at contexts number) q counter (shared_at shared number)
      (list_at lists number)) (quotas_at plan contexts number low) (t.each number low)) is

  pub is_shared : (number : ℕ) (s : SharedView) → shared_at shared number ≡ Some s
      → IsSharedBy s.context (quotas_on plan contexts number) counter s
  is_shared number s is = (both number s is).0

  pub all_left : AreLeft shared 0 (length plan.lanes - 0) (length plan.lanes) lists
  all_left = record {
    count = t.lists_count ∙ sym t.count;
    none = λ number is. elim (cases_lt number (length contexts)) [
      | inl low ↦ none_here (standing_at contexts number) (get_or (all_quotas plan contexts) number [])
          counter (shared_at shared number) (list_at lists number) (t.each number low) is
      | inr high ↦ get_or_past lists number None (let count = t.lists_count in omega arith)
    ];
    some = λ number s is.
        let lanes = lanes_count plan contexts number in
        let all : length (quotas_on plan contexts number) ≡ length plan.lanes - 0 = omega arith in
        (both number s is).1
        ∙ (λ i. Some (record { passes = fresh_from s.lock 0 (all i); made = lanes i }));
  }
