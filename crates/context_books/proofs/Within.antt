-- What the limits of a plan say of its lanes and of the items of an opening.
use Rattle.std.proofs.Common.{◌≡◌, ◌<◌, ◌≤◌, ℕ, ◌+◌, List, [], ◌∷◌, length, drop, refl, ◌∙◌, subst, arith, Some}
use Rattle.std.specs.Prelude.{slice_get, sum_by}
use Rattle.std.specs.List.{All}
use Rattle.std.proofs.lemmas.List.{length-take-le, length-drop}
use Rattle.std.proofs.lemmas.List.Sums.{sum_by-cons, get_or-le-sum_by}
use Rattle.std.proofs.lemmas.List.Elements.{All-head, All-tail, All-take, All-drop, All-cons, All-nil, All-weaker}
use Rattle.std.proofs.lemmas.Option.{get_or_from_slice_get, slice_get_within}
use Rattle.call_places.specs.declared.spans.Item.{Item}
use Rattle.call_places.specs.declared.spans.Span.{Span}
use Rattle.call_places.specs.Spans.{IsInPool, ItemIsInPool, span_bytes}
use Rattle.context_books.specs.Batches.{items_in, context_in}
use Rattle.context_books.specs.Openings.{unseals}
use Rattle.batch_plans.specs.declared.plan.Plan.{Plan}
use Rattle.batch_plans.specs.declared.plan.CallLine.{CallLine}
use Rattle.batch_plans.specs.declared.plan.CallLine.TheVariants as calls
use Rattle.batch_plans.specs.Limits.{items_of, most_ciphertext}
use Rattle.batch_plans.specs.Within.{IsItemWithin, IsCallWithin, IsWithinLimits}
use Rattle.batch_plans.specs.Calls.{context_of}
use Rattle.batch_plans.specs.Room.{served_room, opened_room}
use Rattle.batch_plans.proofs.Rooms.{has_item, lane_within}
use Rattle.context_books.specs.Asks.{asked_by}
use Rattle.context_books.specs.LaneCalls.{lane_calls, opening_items, IsOpening}

-- ---- lanes

length-le-sum_by : {X : Type 0} (f : X → ℕ) (xs : List X) → All (λ x. 1 ≤ f x) xs
    → length xs ≤ sum_by f xs
length-le-sum_by f [] all = omega arith
length-le-sum_by f (x ∷ xs) all =
    let first = All-head (λ x. 1 ≤ f x) x xs all in
    let rest = length-le-sum_by f xs (All-tail (λ x. 1 ≤ f x) x xs all) in
    omega (arith, sum_by-cons f x xs, first, rest)

pub lane_items : (plan : Plan) (l : ℕ) → IsWithinLimits plan → l < length plan.lanes
    → sum_by items_of (lane_calls plan l) ≤ 65536
lane_items plan l within there =
    let sums = λ (calls : List CallLine). sum_by items_of calls in
    omega (arith, within.items, get_or-le-sum_by sums plan.lanes l [] there)

-- a lane has no more calls than there are items
pub calls_few : (plan : Plan) (l : ℕ) → IsWithinLimits plan → l < length plan.lanes
    → length (lane_calls plan l) ≤ 65536
calls_few plan l within there =
    let lines = (lane_within plan within l [] there).lines in
    let P = IsCallWithin (length plan.items) (length plan.pool) in
    let all = All-weaker P (λ call. 1 ≤ items_of call)
    (λ call. has_item (length plan.items) (length plan.pool) call) (lane_calls plan l) lines in
    omega (arith, length-le-sum_by items_of (lane_calls plan l) all, lane_items plan l within there)

pub call_low : (plan : Plan) (l k : ℕ) (call : CallLine) → IsWithinLimits plan
    → l < length plan.lanes → slice_get (lane_calls plan l) k ≡ Some call → k < 65536
call_low plan l k call within there at =
    let few = calls_few plan l within there in
    let low = slice_get_within (lane_calls plan l) k call at in
    omega arith

pub line_within : (plan : Plan) (l k : ℕ) (call : CallLine) → IsWithinLimits plan
    → l < length plan.lanes → slice_get (lane_calls plan l) k ≡ Some call
    → IsCallWithin (length plan.items) (length plan.pool) call
line_within plan l k call within there at =
    let P = IsCallWithin (length plan.items) (length plan.pool) in
    subst P (get_or_from_slice_get (lane_calls plan l) k call call at)
    ((lane_within plan within l [] there).lines k call
    (slice_get_within (lane_calls plan l) k call at))

-- what holds of each call of a lane
pub of_call : (P : CallLine → Type 0) (calls : List CallLine) (k : ℕ) (call : CallLine)
    → All P calls → slice_get calls k ≡ Some call → P call
of_call P calls k call all at =
    subst P (get_or_from_slice_get calls k call call at)
    (all k call (slice_get_within calls k call at))

-- ---- openings

pub opening_count : (plan : Plan) (call : CallLine) → IsOpening call
    → IsCallWithin (length plan.items) (length plan.pool) call
    → length (opening_items plan call) ≡ items_of call
opening_count plan (calls.Unseal context item) opening within = refl
opening_count plan (calls.UnsealAll context first count) opening within =
    let size = length-drop first plan.items in
    length-take-le count (drop first plan.items) (omega arith)
opening_count plan call opening within = absurd opening

pub opening_few : (plan : Plan) (call : CallLine)
    → IsCallWithin (length plan.items) (length plan.pool) call → items_of call ≤ 65536
opening_few plan (calls.Add name) within = omega arith
opening_few plan call within = omega arith

in_pool : (most pool : ℕ) (item : Item) → IsItemWithin most pool item → ItemIsInPool pool item
in_pool most pool item t = (t.aad.in_pool, t.text.in_pool)

pub opening_spans : (plan : Plan) (call : CallLine) → IsWithinLimits plan
    → IsCallWithin (length plan.items) (length plan.pool) call
    → All (ItemIsInPool (length plan.pool)) (opening_items plan call)
opening_spans plan (calls.Unseal context item) limits within =
    All-cons (ItemIsInPool (length plan.pool)) item [] (in_pool _ (length plan.pool) item within.1)
    (All-nil (ItemIsInPool (length plan.pool)))
opening_spans plan (calls.UnsealAll context first count) limits within =
    let P = ItemIsInPool (length plan.pool) in
    All-take P count (drop first plan.items) (All-drop P first plan.items
    (All-weaker (IsItemWithin most_ciphertext (length plan.pool)) P
    (λ item. in_pool most_ciphertext (length plan.pool) item) plan.items limits.item_list))
opening_spans plan call limits within =
    All-nil (ItemIsInPool (length plan.pool))

pub opening_asks : (plan : Plan) (call : CallLine) → IsOpening call
    → items_in (asked_by plan call) ≡ unseals plan.pool (opening_items plan call)
opening_asks plan (calls.Unseal context item) opening = refl
opening_asks plan (calls.UnsealAll context first count) opening = refl
opening_asks plan call opening = absurd opening

pub opening_context : (plan : Plan) (call : CallLine) → IsOpening call
    → context_in (asked_by plan call) ≡ context_of call
opening_context plan (calls.Unseal context item) opening = refl
opening_context plan (calls.UnsealAll context first count) opening = refl
opening_context plan call opening = absurd opening

pub opening_room : (plan : Plan) (call : CallLine) → IsOpening call
    → Rattle.std.specs.List.sum_by opened_room (opening_items plan call)
    ≡ served_room plan.items call
opening_room plan (calls.Unseal context item) opening =
    sum_by-cons opened_room item [] ∙ (let e : opened_room item + 0 ≡ opened_room item =
    omega arith in e)
opening_room plan (calls.UnsealAll context first count) opening = refl
opening_room plan call opening = absurd opening

pub span_size : (pool : List ℕ) (span : Span) → IsInPool (length pool) span
    → length (span_bytes pool span) ≡ span.len
span_size pool span within =
    let size = length-drop span.start pool in
    length-take-le span.len (drop span.start pool) (omega arith)
