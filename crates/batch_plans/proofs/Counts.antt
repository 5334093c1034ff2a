-- Counts of the items that each context serves, one more call at a time.
use Rattle.std.proofs.Common.{◌≡◌, ◌≢◌, ◌≤◌, ◌<◌, ◌+◌, ◌==◌, ℕ, List, length, take, get_or, set, Option, Some, None, ap, arith, if◌then◌else◌, get_or-set_other}
use Rattle.std.specs.List.{sum_by}
use Rattle.std.proofs.lemmas.Bool.Decides.{nat_tests}
use Rattle.std.proofs.lemmas.Grind.{get_or-set_at}
use Rattle.std.proofs.lemmas.List.Sums.{sum_by_more_le_part, sum_by-le-sum_by}
use Rattle.batch_plans.specs.declared.plan.ContextLine.{ContextLine}
use Rattle.batch_plans.specs.declared.plan.CallLine.{CallLine}
use Rattle.batch_plans.specs.Limits.{items_of, all_items}
use Rattle.batch_plans.specs.Room.{served_on, items_at, items_on, all_items_on}

-- a call that a context serves adds its items to its count alone
pub served : (contexts : List ContextLine) (limits : List ℕ) (call : CallLine) (counts : List ℕ)
    (context k : ℕ) → served_on contexts limits call ≡ Some context → context < length counts
    → get_or (set counts context (get_or counts context 0 + items_of call)) k 0
    ≡ get_or counts k 0 + items_on contexts limits k call
served contexts limits call counts context k on within =
    let more : ℕ = get_or counts context 0 + items_of call in
    let items : items_on contexts limits k call ≡ (if context == k then items_of call else 0) =
    ap (λ served. items_at served k (items_of call)) on in
    let same : k ≡ context → get_or (set counts context more) k 0 ≡ more =
    λ e. get_or-set_at counts context k more 0 e within in
    let other : k ≢ context → get_or (set counts context more) k 0 ≡ get_or counts k 0 =
    λ ne. get_or-set_other counts context k more 0 ne in
    grind (arith, nat_tests)

items_at-le : (served : Option ℕ) (k items : ℕ) → items_at served k items ≤ items
items_at-le None k items = omega arith
items_at-le (Some context) k items = grind (arith, nat_tests)

-- a context serves at most the items of a call
pub items_on-le : (contexts : List ContextLine) (limits : List ℕ) (k : ℕ) (call : CallLine)
    → items_on contexts limits k call ≤ items_of call
items_on-le contexts limits k call =
    items_at-le (served_on contexts limits call) k (items_of call)

-- the count so far and the next call's items are within all items
pub counts_fit : (contexts : List ContextLine) (limits : List ℕ) (k : ℕ) (calls : List CallLine)
    (i : ℕ) (d : CallLine) → i < length calls
    → sum_by (items_on contexts limits k) (take i calls) + items_of (get_or calls i d)
    ≤ sum_by items_of calls
counts_fit contexts limits k calls i d lt =
    let part = items_on contexts limits k in
    sum_by_more_le_part part items_of calls i d lt (items_on-le contexts limits k)

-- the same, of whole lanes
pub lane_counts_fit : (contexts : List ContextLine) (limits : List ℕ) (k : ℕ)
    (lanes : List (List CallLine)) (i : ℕ) (d : List CallLine) → i < length lanes
    → all_items_on contexts limits k (take i lanes) + sum_by items_of (get_or lanes i d)
    ≤ all_items lanes
lane_counts_fit contexts limits k lanes i d lt =
    let part = items_on contexts limits k in
    sum_by_more_le_part (λ lane. sum_by part lane) (λ lane. sum_by items_of lane) lanes i d lt
    (λ lane. sum_by-le-sum_by part items_of lane (items_on-le contexts limits k))

-- the same, of a lane that a loop reads
pub lane_fits : (contexts : List ContextLine) (limits : List ℕ) (k : ℕ)
    (lanes : List (List CallLine)) (i : ℕ) (lane : List CallLine) → i < length lanes
    → lane ≡ get_or lanes i lane
    → all_items_on contexts limits k (take i lanes) + sum_by items_of lane ≤ all_items lanes
lane_fits contexts limits k lanes i lane lt here =
    let fit = lane_counts_fit contexts limits k lanes i lane lt in
    omega (arith, fit, ap (sum_by items_of) here)
