-- What the calls of a plan ask, without the bytes.
use Rattle.std.proofs.Common.{◌≡◌, ℕ, zero, suc, ◌+◌, ◌<◌, ◌==◌, Bool, false, cond, List, [], ◌∷◌, ◌++◌, length, map, get_or, Option, Some, None, refl, sym, ap, ◌∙◌, inl, inr, arith}
use Rattle.std.specs.Prelude.{nat_lt, replicate, slice_get, slice_index_or}
use Rattle.std.specs.List.{All}
use Rattle.std.proofs.lemmas.Bool.{cases_lt}
use Rattle.std.proofs.lemmas.List.{length-map, length-replicate, get_or_default, get_or_past, get_or-map}
use Rattle.std.proofs.lemmas.List.Elements.{All-head, All-tail}
use Rattle.std.specs.Option.{option_map}
use Rattle.std.proofs.lemmas.Option.{slice_get-map}
use Rattle.call_places.specs.declared.entries.Place.{Place}
use Rattle.hpke_context.specs.Contexts.{ContextView}
use Rattle.context_books.specs.Batches.{Batch, Ask, Nothing, ToSeal, ToOpen, ToOpenAll, unseal, items_in, context_in, block, Spot, asked, on, lane_of}
use Rattle.context_books.specs.Merging.{all_asked}
use Rattle.context_books.specs.Checks.{goes_on, goes_on_in}
use Rattle.context_books.proofs.Lists.{on-append, on-spots}
use Rattle.batch_plans.specs.declared.plan.Plan.{Plan}
use Rattle.batch_plans.specs.declared.plan.CallLine.{CallLine}
use Rattle.batch_plans.specs.declared.plan.CallLine.TheVariants as calls
use Rattle.batch_plans.specs.declared.replies.CallRefusal.{CallRefusal}
use Rattle.batch_plans.specs.Within.{IsCallWithin, IsWithinLimits}
use Rattle.context_books.specs.Standing.{call_refusal}
use Rattle.context_books.specs.Asks.{asked_by, ask_unless, ask_of, batch_of}
use Rattle.context_books.proofs.Done.{lane_asks, length-messages}
use Rattle.journal_check.specs.declared.asks.Asked.{Asked}
use Rattle.journal_check.specs.Asks.{items_asked, asked_unless, places_asked, places_from, sized, size_in, size_of, sizes_of, no_message, ask_from, batch_from, more_by, goes_on_by, AreFew}
use Rattle.journal_check.specs.Histories.{spots_from}
use Rattle.result_lines.proofs.Limited.{IsLine, calls_few}

-- ---- the places of one call

on_asked : (context lane number : ℕ) (ask : Ask) → on context (asked lane number ask) ≡ cond (context_in ask == context) (block lane number 0 (length (items_in ask))) []
on_asked context lane number ask = on-spots context (context_in ask) (block lane number 0 (length (items_in ask)))

asked_places : (plan : Plan) (context lane number : ℕ) (call : CallLine) → IsCallWithin (length plan.items) (length plan.pool) call
    → places_asked context lane number (items_asked call) ≡ on context (asked lane number (asked_by plan call))
asked_places plan context lane number (calls.Seal c item) within = sym (on_asked context lane number (asked_by plan (calls.Seal c item)))
asked_places plan context lane number (calls.Unseal c item) within = sym (on_asked context lane number (asked_by plan (calls.Unseal c item)))
asked_places plan context lane number (calls.UnsealAll c first count) within =
    let size = length-messages plan.items plan.pool first count within.3 in
    sym (on_asked context lane number (asked_by plan (calls.UnsealAll c first count))
    ∙ ap (λ n. cond (c == context) (block lane number 0 n) []) size)
asked_places plan context lane number (calls.Export c exporter size) within = refl
asked_places plan context lane number (calls.Add name) within = refl
asked_places plan context lane number (calls.Retire name) within = refl

unless_places : (plan : Plan) (context lane number : ℕ) (call : CallLine) (refusal : Option CallRefusal) → IsCallWithin (length plan.items) (length plan.pool) call
    → places_asked context lane number (asked_unless refusal (items_asked call)) ≡ on context (asked lane number (ask_unless refusal (asked_by plan call)))
unless_places plan context lane number call None within = asked_places plan context lane number call within
unless_places plan context lane number call (Some r) within = refl

-- ---- those of a lane

module _ (plan : Plan) (contexts : List (Option ContextView)) where
  pub from_asked : (context lane number : ℕ) (lines : List CallLine) → All (IsLine plan) lines
      → places_from contexts context lane number lines ≡ on context (all_asked lane number (map (ask_of plan contexts) lines))
  from_asked context lane number [] within = refl
  from_asked context lane number (call ∷ lines) within =
      ap (λ (ps : List Place). ps ++ places_from contexts context lane (number + 1) lines) (unless_places plan context lane number call (call_refusal contexts call) (All-head (IsLine plan) call lines within))
      ∙ ap (λ (ps : List Place). on context (asked lane number (ask_of plan contexts call)) ++ ps) (from_asked context lane (number + 1) lines (All-tail (IsLine plan) call lines within))
      ∙ sym (on-append context (asked lane number (ask_of plan contexts call)) (all_asked lane (number + 1) (map (ask_of plan contexts) lines)))

  pub asks_of_lane : (lane : ℕ) → lane_of (batch_of plan contexts) lane ≡ map (ask_of plan contexts) (slice_index_or plan.lanes lane [])
  asks_of_lane lane = lane_asks (record { plan = plan; contexts = contexts; journals = []; guesses = [] }) lane

-- ---- by how many items

sized_call : (plan : Plan) (call : CallLine) → IsLine plan call → sized (items_asked call) ≡ size_of (asked_by plan call)
sized_call plan (calls.Seal c item) within = refl
sized_call plan (calls.Unseal c item) within = refl
sized_call plan (calls.UnsealAll c first count) within =
    ap (λ (n : ℕ). record { context = c; count = n }) (sym (length-messages plan.items plan.pool first count within.3))
sized_call plan (calls.Export c exporter size) within = refl
sized_call plan (calls.Add name) within = refl
sized_call plan (calls.Retire name) within = refl

sized_unless : (plan : Plan) (call : CallLine) (refusal : Option CallRefusal) → IsLine plan call
    → sized (asked_unless refusal (items_asked call)) ≡ size_of (ask_unless refusal (asked_by plan call))
sized_unless plan call None within = sized_call plan call within
sized_unless plan call (Some r) within = refl

-- what a call asks, by its plan's bytes and without them
pub call_size : (plan : Plan) (contexts : List (Option ContextView)) (call : CallLine) → IsLine plan call
    → size_in contexts call ≡ size_of (ask_of plan contexts call)
call_size plan contexts call within = sized_unless plan call (call_refusal contexts call) within

calls_sizes : (plan : Plan) (contexts : List (Option ContextView)) (lines : List CallLine) → All (IsLine plan) lines
    → map (size_in contexts) lines ≡ map size_of (map (ask_of plan contexts) lines)
calls_sizes plan contexts [] within = refl
calls_sizes plan contexts (call ∷ lines) within = (λ i.
    call_size plan contexts call (All-head (IsLine plan) call lines within) i
    ∷ calls_sizes plan contexts lines (All-tail (IsLine plan) call lines within) i)

lanes_sizes : (plan : Plan) (contexts : List (Option ContextView)) (lanes : List (List CallLine)) → All (All (IsLine plan)) lanes
    → map (map (size_in contexts)) lanes ≡ sizes_of (map (map (ask_of plan contexts)) lanes)
lanes_sizes plan contexts [] within = refl
lanes_sizes plan contexts (lines ∷ lanes) within = (λ i.
    calls_sizes plan contexts lines (All-head (All (IsLine plan)) lines lanes within) i
    ∷ lanes_sizes plan contexts lanes (All-tail (All (IsLine plan)) lines lanes within) i)

-- what the calls of a plan ask
pub plan_sizes : (plan : Plan) (contexts : List (Option ContextView)) → IsWithinLimits plan
    → map (map (size_in contexts)) plan.lanes ≡ sizes_of (batch_of plan contexts)
plan_sizes plan contexts within = lanes_sizes plan contexts plan.lanes within.call_lines

-- as many lanes, and calls of each
pub plan_few : (plan : Plan) (contexts : List (Option ContextView)) → IsWithinLimits plan → AreFew (map (map (size_in contexts)) plan.lanes)
plan_few plan contexts within =
    let lanes : length (map (map (size_in contexts)) plan.lanes) ≡ length plan.lanes = length-map plan.lanes (map (size_in contexts)) in
    record {
      lanes = omega (arith, lanes, within.lanes);
      calls = λ lane. elim (cases_lt lane (length plan.lanes)) [
        | inl low ↦
            let at : get_or (map (map (size_in contexts)) plan.lanes) lane [] ≡ map (size_in contexts) (get_or plan.lanes lane []) = get_or-map (map (size_in contexts)) plan.lanes lane [] [] low in
            let size : length (map (size_in contexts) (get_or plan.lanes lane [])) ≡ length (get_or plan.lanes lane []) = length-map (get_or plan.lanes lane []) (size_in contexts) in
            omega (arith, ap length at, size, calls_few plan lane [] within low)
        | inr high ↦
            let none : get_or (map (map (size_in contexts)) plan.lanes) lane [] ≡ [] = get_or_past (map (map (size_in contexts)) plan.lanes) lane [] (omega (arith, lanes, high)) in
            omega (arith, ap length none)
      ];
    }

-- ---- asks of these sizes

from_size : (asked : Asked) → size_of (ask_from asked) ≡ asked
from_size a =
    let size : length (items_in (ask_from a)) ≡ a.count = length-map (replicate a.count no_message) unseal ∙ length-replicate a.count no_message in
    ap (λ (n : ℕ). record { context = a.context; count = n }) size

from_sizes : (sizes : List Asked) → map size_of (map ask_from sizes) ≡ sizes
from_sizes [] = refl
from_sizes (a ∷ sizes) = (λ i. from_size a i ∷ from_sizes sizes i)

pub sizes_from : (sizes : List (List Asked)) → sizes_of (batch_from sizes) ≡ sizes
sizes_from [] = refl
sizes_from (own ∷ sizes) = (λ i. from_sizes own i ∷ sizes_from sizes i)

-- ---- what depends on sizes alone

pub lane_sizes : (batch : Batch) (lane : ℕ) → slice_index_or (sizes_of batch) lane [] ≡ map size_of (lane_of batch lane)
lane_sizes [] lane = refl
lane_sizes (asks ∷ batch) zero = refl
lane_sizes (asks ∷ batch) (suc lane) = lane_sizes batch lane

spots_by_sizes : (lane number : ℕ) (asks : List Ask) → all_asked lane number asks ≡ spots_from lane number (map size_of asks)
spots_by_sizes lane number [] = refl
spots_by_sizes lane number (ask ∷ asks) = ap (λ (ss : List Spot). asked lane number ask ++ ss) (spots_by_sizes lane (number + 1) asks)

-- the places that a lane asks for
pub lane_by_sizes : (batch : Batch) (lane : ℕ) → all_asked lane 0 (lane_of batch lane) ≡ spots_from lane 0 (slice_index_or (sizes_of batch) lane [])
lane_by_sizes batch lane = spots_by_sizes lane 0 (lane_of batch lane) ∙ ap (spots_from lane 0) (sym (lane_sizes batch lane))

more_one : (i : ℕ) → false ≡ nat_lt (i + 1) 1
more_one i = grind arith

more_none : (i : ℕ) → false ≡ nat_lt (i + 1) 0
more_none i = grind arith

more_asked : (ask : Option Ask) (i : ℕ) → goes_on_in ask i ≡ more_by (option_map size_of ask) i
more_asked None i = refl
more_asked (Some Nothing) i = more_none i
more_asked (Some (ToSeal context aad text)) i = more_one i
more_asked (Some (ToOpen context aad ct)) i = more_one i
more_asked (Some (ToOpenAll context messages)) i = ap (λ (n : ℕ). nat_lt (i + 1) n) (sym (length-map messages unseal))

-- whether an opening goes on
pub on_by_sizes : (batch : Batch) (p : Place) → goes_on batch p ≡ goes_on_by (sizes_of batch) p
on_by_sizes batch p =
    more_asked (slice_get (lane_of batch p.lane) p.call) p.item
    ∙ ap (λ (o : Option Asked). more_by o p.item) (sym (slice_get-map size_of (lane_of batch p.lane) p.call))
    ∙ ap (λ (own : List Asked). more_by (slice_get own p.call) p.item) (sym (lane_sizes batch p.lane))

-- the same of asks that were made from their sizes
pub goes_on_is : (sizes : List (List Asked)) (p : Place) → goes_on_by sizes p ≡ goes_on (batch_from sizes) p
goes_on_is sizes p = sym (on_by_sizes (batch_from sizes) p ∙ ap (λ (s : List (List Asked)). goes_on_by s p) (sizes_from sizes))

-- of a place of a list
pub goes_at : (sizes : List (List Asked)) (ps : List Place) (i : ℕ) (d : Place) (b : Bool) → goes_on_by sizes (get_or ps i d) ≡ b
    → goes_on (batch_from sizes) (get_or ps i d) ≡ b
goes_at sizes ps i d b is = sym (goes_on_is sizes (get_or ps i d)) ∙ is

-- the spots that a lane asks for
pub lane_spots_are : (sizes : List (List Asked)) (lane : ℕ) (d : List Asked) → lane < length sizes
    → spots_from lane 0 (get_or sizes lane d) ≡ all_asked lane 0 (lane_of (batch_from sizes) lane)
lane_spots_are sizes lane d lt =
    ap (spots_from lane 0) (get_or_default sizes lane d [] lt)
    ∙ sym (lane_by_sizes (batch_from sizes) lane ∙ ap (λ (s : List (List Asked)). spots_from lane 0 (slice_index_or s lane [])) (sizes_from sizes))
