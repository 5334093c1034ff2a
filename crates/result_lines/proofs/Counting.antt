-- Legal journals have no more places than a plan has items, and their numbers fit their fields.
use Rattle.std.proofs.Common.{◌≡◌, ℕ, suc, ◌+◌, ◌≤◌, ◌<◌, ◌==◌, not, Bool, true, false, cond, List, [], ◌∷◌, length, map, Option, Some, None, refl, sym, ap, ◌∙◌, subst, inl, inr, length-append, eq-eqb, arith}
use Rattle.std.specs.Prelude.{sum_by, slice_get, slice_index_or, filter}
use Rattle.std.specs.List.{All}
use Rattle.std.specs.Option.{option_map}
use Rattle.std.proofs.lemmas.Bool.{cases_lt, not-true}
use Rattle.std.proofs.lemmas.List.{get_or_past}
use Rattle.std.proofs.lemmas.List.Elements.{All-head, All-tail}
use Rattle.std.proofs.lemmas.List.Filters.{length-filter_both}
use Rattle.std.proofs.lemmas.List.Sums.{sum_by-cons, get_or-le-sum_by}
use Rattle.std.proofs.lemmas.Option.{slice_get-map, slice_get_within}
use Rattle.call_places.specs.declared.entries.Place.{Place}
use Rattle.call_places.specs.declared.entries.Mark.{Mark}
use Rattle.hpke_context.specs.Answers.{Item, Answer, Cipher, due, next, answer, advances}
use Rattle.hpke_context.specs.Contexts.{ContextView}
use Rattle.context_books.specs.Batches.{Ask, Batch, Spot, spots, items_in, context_in, with_context, item_in_call, item_of, items_of, item_or_none, lane_of, block, asked, on, own_places, IsServed}
use Rattle.context_books.specs.Merging.{all_asked, own_spots}
use Rattle.context_books.specs.Histories.{marks_at, LegalHistory}
use Rattle.context_books.specs.Legal.{Legal, due_after, before, is_same_place}
use Rattle.context_books.proofs.Legals.{lane_is}
use Rattle.context_books.proofs.Members.{filter_in, value_at}
use Rattle.context_books.specs.Lists.{In}
use Rattle.context_books.proofs.OneHistory.{all, below_total, one_history}
use Rattle.context_books.proofs.Places.{in_own}
use Rattle.context_books.proofs.Spots.{spot_own}
use Rattle.batch_plans.specs.declared.plan.Plan.{Plan}
use Rattle.batch_plans.specs.declared.plan.CallLine.{CallLine}
use Rattle.batch_plans.specs.declared.plan.CallLine.TheVariants as calls
use Rattle.batch_plans.specs.declared.replies.CallRefusal.{CallRefusal}
use Rattle.batch_plans.specs.Limits as limits
use Rattle.batch_plans.specs.Within.{IsWithinLimits}
use Rattle.context_books.specs.Standing.{call_refusal}
use Rattle.context_books.specs.Asks.{asked_by, ask_unless, ask_of, batch_of}
use Rattle.context_books.proofs.Done.{lane_asks, length-messages}
use Rattle.result_lines.proofs.Limited.{IsLine, lines_of_limits, line_of_limits, calls_few}
use Rattle.result_lines.proofs.RunTexts.{length-block}

-- ---- elements, counted lane by lane

is_equal : (a b : ℕ) → a ≡ b → (a == b) ≡ true
is_equal a b same = eq-eqb a b same

next_up : (k n : ℕ) → k ≤ n → (n ≡ k → ⊥) → k + 1 ≤ n
next_up k n low other = elim (cases_lt k n) [
  | inl less ↦ omega arith
  | inr more ↦ absurd (other (omega arith))
]

few_step : {X : Type 0} (p : X → Bool) (x : X) (xs ys : List X) → length (filter p xs) ≤ length (filter p ys) → length (filter p (x ∷ xs)) ≤ length (filter p (x ∷ ys))
few_step p x xs ys few = step (p x)
  where
    step : (b : Bool) → length (cond b (x ∷ filter p xs) (filter p xs)) ≤ length (cond b (x ∷ filter p ys) (filter p ys))
    step true = omega arith
    step false = few

more_step : {X : Type 0} (p : X → Bool) (x : X) (ys : List X) → length (filter p ys) ≤ length (filter p (x ∷ ys))
more_step p x ys = step (p x)
  where
    step : (b : Bool) → length (filter p ys) ≤ length (cond b (x ∷ filter p ys) (filter p ys))
    step true = omega arith
    step false = omega arith

filter_few : {X : Type 0} (p q : X → Bool) (xs : List X) → length (filter p (filter q xs)) ≤ length (filter p xs)
filter_few p q [] = omega arith
filter_few p q (x ∷ xs) = step (q x) (filter_few p q xs)
  where
    step : (b : Bool) → length (filter p (filter q xs)) ≤ length (filter p xs) → length (filter p (cond b (x ∷ filter q xs) (filter q xs))) ≤ length (filter p (x ∷ xs))
    step true few = few_step p x (filter q xs) xs few
    step false few = (let more = more_step p x xs in omega arith)

none_left : {X : Type 0} (xs : List X) → ((x : X) → In x xs → ⊥) → length xs ≡ 0
none_left [] none = refl
none_left (x ∷ xs) none = absurd (none x (inl refl))

-- of lanes from number k on, each with no more elements than this
pub counted : {X Y : Type 0} (of : X → ℕ) (size : Y → ℕ) (lanes : List Y) (k : ℕ) (xs : List X) → ((x : X) → In x xs → (k ≤ of x) × (of x < k + length lanes))
    → ((i : ℕ) (y : Y) → slice_get lanes i ≡ Some y → length (filter (λ (x : X). of x == k + i) xs) ≤ size y) → length xs ≤ sum_by size lanes
counted of size [] k xs within few =
    let none = none_left xs (λ x here. let w = within x here in absurd (let low = w.0 in let high = w.1 in omega arith)) in
    omega arith
counted {X} of size (y ∷ lanes) k xs within few =
    let mine = λ (x : X). of x == k in
    let rest = λ (x : X). not (of x == k) in
    let parts = length-filter_both mine rest (λ x. refl) xs in
    let first : length (filter mine xs) ≤ size y =
    subst (λ (l : ℕ). length (filter (λ (x : X). of x == l) xs) ≤ size y) (let z : k + 0 ≡ k = omega arith in z) (few 0 y refl) in
    let later : length (filter rest xs) ≤ sum_by size lanes =
    counted of size lanes (k + 1) (filter rest xs)
    (λ x here.
    let f = filter_in rest x xs here in
    let w = within x f.0 in
    let low = w.0 in
    let high = w.1 in
    let other : (of x == k) ≡ false = not-true (of x == k) f.1 in
    let apart : of x ≡ k → ⊥ = (λ same. absurd (let clash : true ≡ false = sym (is_equal (of x) k same) ∙ other in cc)) in
    (next_up k (of x) low apart, omega arith))
    (λ i z at.
    let whole = few (suc i) z at in
    let shift : k + suc i ≡ (k + 1) + i = omega arith in
    let less = filter_few (λ (x : X). of x == (k + 1) + i) rest xs in
    let bound : length (filter (λ (x : X). of x == (k + 1) + i) xs) ≤ size z = subst (λ (l : ℕ). length (filter (λ (x : X). of x == l) xs) ≤ size z) shift whole in
    omega arith) in
    omega (arith, parts, first, later, sum_by-cons size y lanes)

-- ---- what a lane asks for

pub one_size : (plan : Plan) (refusal : Option CallRefusal) (call : CallLine) → IsLine plan call → length (items_in (ask_unless refusal (asked_by plan call))) ≤ limits.items_of call
one_size plan (Some refusal) call fits = omega arith
one_size plan None (calls.Seal context item) fits = omega arith
one_size plan None (calls.Unseal context item) fits = omega arith
one_size plan None (calls.UnsealAll context first count) fits = omega (arith, length-messages plan.items plan.pool first count fits.3)
one_size plan None (calls.Export context exporter size) fits = omega arith
one_size plan None (calls.Add name) fits = omega arith
one_size plan None (calls.Retire name) fits = omega arith

length-spots : (context : ℕ) (ps : List Place) → length (spots context ps) ≡ length ps
length-spots context [] = refl
length-spots context (p ∷ ps) = ap (λ (n : ℕ). suc n) (length-spots context ps)

pub length-asked : (lane call : ℕ) (ask : Ask) → length (asked lane call ask) ≡ length (items_in ask)
length-asked lane call ask = length-spots (context_in ask) (block lane call 0 (length (items_in ask))) ∙ length-block lane call 0 (length (items_in ask))

asked_few : (plan : Plan) (contexts : List (Option ContextView)) (lane number : ℕ) (calls : List CallLine) → All (IsLine plan) calls
    → length (all_asked lane number (map (ask_of plan contexts) calls)) ≤ sum_by limits.items_of calls
asked_few plan contexts lane number [] fits = omega arith
asked_few plan contexts lane number (call ∷ more) fits =
    let ask = ask_of plan contexts call in
    let first = one_size plan (call_refusal contexts call) call (All-head (IsLine plan) call more fits) in
    let rest = asked_few plan contexts lane (number + 1) more (All-tail (IsLine plan) call more fits) in
    omega (
      arith,
      first,
      rest,
      length-asked lane number ask,
      length-append (asked lane number ask) (all_asked lane (number + 1) (map (ask_of plan contexts) more)),
      sum_by-cons limits.items_of call more,
    )

on_few : (context : ℕ) (ss : List Spot) → length (on context ss) ≤ length ss
on_few context [] = omega arith
on_few context (s ∷ ss) = step (s.context == context) (on_few context ss)
  where
    step : (b : Bool) → length (on context ss) ≤ length ss → length (cond b (s.place ∷ on context ss) (on context ss)) ≤ length (s ∷ ss)
    step true few = omega arith
    step false few = omega arith

module _ (plan : Plan) (contexts : List (Option ContextView)) (within : IsWithinLimits plan) where
  abbrev batch : Batch
  batch = batch_of plan contexts

  pub asks_are : (lane : ℕ) → lane_of batch lane ≡ map (ask_of plan contexts) (slice_index_or plan.lanes lane [])
  asks_are lane = lane_asks (record { plan = plan; contexts = contexts; journals = []; guesses = [] }) lane

  no_asks : (lane : ℕ) → length plan.lanes ≤ lane → lane_of batch lane ≡ []
  no_asks lane high = asks_are lane ∙ ap (map (ask_of plan contexts)) (get_or_past plan.lanes lane [] high)

  lane_few : (lane : ℕ) (calls : List CallLine) → slice_get plan.lanes lane ≡ Some calls → length (all_asked lane 0 (lane_of batch lane)) ≤ sum_by limits.items_of calls
  lane_few lane calls at =
      let low = slice_get_within plan.lanes lane calls at in
      let own : slice_index_or plan.lanes lane [] ≡ calls = value_at plan.lanes lane calls [] at in
      let asks : lane_of batch lane ≡ map (ask_of plan contexts) calls = asks_are lane ∙ ap (map (ask_of plan contexts)) own in
      subst (λ (as' : List Ask). length (all_asked lane 0 as') ≤ sum_by limits.items_of calls) (sym asks)
      (asked_few plan contexts lane 0 calls (subst (All (IsLine plan)) own (lines_of_limits plan lane [] within low)))

  -- a lane that asks for something is there
  lane_there : (lane : ℕ) (s : Spot) → In s (all_asked lane 0 (lane_of batch lane)) → lane < length plan.lanes
  lane_there lane s here = elim (cases_lt lane (length plan.lanes)) [
    | inl low ↦ low
    | inr high ↦ absurd (subst (λ (asks : List Ask). In s (all_asked lane 0 asks)) (no_asks lane high) here)
  ]

  -- ---- a history

  pub history_few : (history : List Spot) → ((lane : ℕ) → own_spots lane history ≡ all_asked lane 0 (lane_of batch lane)) → length history ≤ 65536
  history_few history lanes =
      let all = counted (λ (s : Spot). s.place.lane) (sum_by limits.items_of) plan.lanes 0 history
      (λ s here.
      let mine = subst (In s) (lanes s.place.lane) (spot_own s.place.lane s history here refl) in
      let low = lane_there s.place.lane s mine in
      (omega arith, omega arith))
      (λ i calls at.
      let few = lane_few i calls at in
      let z : i ≡ 0 + i = omega arith in
      subst (λ (l : ℕ). length (own_spots l history) ≤ sum_by limits.items_of calls) z (omega (arith, ap length (lanes i), few))) in
      let most = within.items in
      omega arith

  pub stamp_low : (journals : List (List Mark)) → LegalHistory batch journals → (c : ℕ) (m : Mark) → In m (marks_at journals c) → m.stamp ≤ 65535
  stamp_low journals t c m here =
      let low = below_total batch journals t c m here in
      let h = all batch journals t in
      let few = history_few h.0 (one_history batch journals t).lanes in
      omega (arith, low, few, h.1)

  -- ---- a journal

  pub journal_few : (context : ℕ) (journal : List Place) → Legal batch context journal → length journal ≤ 65536
  journal_few context journal legal =
      let all = counted (λ (p : Place). p.lane) (sum_by limits.items_of) plan.lanes 0 journal
      (λ p here. (omega arith, (let low = place_low p (in_own p journal here) in omega arith)))
      (λ i calls at.
      let few = lane_few i calls at in
      let less = on_few context (all_asked i 0 (lane_of batch i)) in
      let z : i ≡ 0 + i = omega arith in
      subst (λ (l : ℕ). length (own_places l journal) ≤ sum_by limits.items_of calls) z (omega (arith, ap length (lane_is batch context journal legal i), few, less))) in
      let most = within.items in
      omega arith
    where
      place_low : (p : Place) → In p (own_places p.lane journal) → p.lane < length plan.lanes
      place_low p here = elim (cases_lt p.lane (length plan.lanes)) [
        | inl low ↦ low
        | inr high ↦ absurd (subst (λ (asks : List Ask). In p (on context (all_asked p.lane 0 asks))) (no_asks p.lane high) (subst (In p) (lane_is batch context journal legal p.lane) here))
      ]

  -- ---- the places of a journal

  -- a lane with this call is there
  call_there : (lane call : ℕ) (line : CallLine) → slice_get (slice_index_or plan.lanes lane []) call ≡ Some line → lane < length plan.lanes
  call_there lane call line is = elim (cases_lt lane (length plan.lanes)) [
    | inl low ↦ low
    | inr high ↦ absurd (let clash : None ≡ Some line = sym (ap (λ (lines : List CallLine). slice_get lines call) (get_or_past plan.lanes lane [] high)) ∙ is in cc)
  ]

  -- what a call asks is no more than its items
  ask_few : (lane call : ℕ) (ask : Ask) → slice_get (lane_of batch lane) call ≡ Some ask → (lane < 65536) × (call < 65536) × (length (items_in ask) ≤ 65536)
  ask_few lane call ask at = go (slice_get (slice_index_or plan.lanes lane []) call) refl
    where
      mapped : option_map (ask_of plan contexts) (slice_get (slice_index_or plan.lanes lane []) call) ≡ Some ask
      mapped =
          sym (slice_get-map (ask_of plan contexts) (slice_index_or plan.lanes lane []) call)
          ∙ ap (λ (asks : List Ask). slice_get asks call) (sym (asks_are lane)) ∙ at

      go : (o : Option CallLine) → slice_get (slice_index_or plan.lanes lane []) call ≡ o → (lane < 65536) × (call < 65536) × (length (items_in ask) ≤ 65536)
      go None is = absurd (let clash : None ≡ Some ask = ap (option_map (ask_of plan contexts)) (sym is) ∙ mapped in cc)
      go (Some line) is =
          let same : ask_of plan contexts line ≡ ask = (let e : Some (ask_of plan contexts line) ≡ Some ask = ap (option_map (ask_of plan contexts)) (sym is) ∙ mapped in cc) in
          let low : lane < length plan.lanes = call_there lane call line is in
          let fits = line_of_limits plan lane call line within is in
          let few = calls_few plan lane [] within low in
          let index = slice_get_within (slice_index_or plan.lanes lane []) call line is in
          let most = within.lanes in
          let size = one_size plan (call_refusal contexts line) line fits in
          let sum = get_or-le-sum_by limits.items_of (slice_index_or plan.lanes lane []) call line index in
          let value : slice_index_or (slice_index_or plan.lanes lane []) call line ≡ line = value_at (slice_index_or plan.lanes lane []) call line line is in
          let lanes = get_or-le-sum_by (sum_by limits.items_of) plan.lanes lane [] low in
          let items = within.items in (
            omega arith,
            omega arith,
            omega (arith, size, sum, lanes, items, ap limits.items_of value, ap (λ (a : Ask). length (items_in a)) same),
          )

  pub served_low : (context : ℕ) (p : Place) → IsServed batch context p → (p.lane ≤ 65535) × (p.call ≤ 65535) × (p.item ≤ 65535)
  served_low context p served = go (slice_get (lane_of batch p.lane) p.call) refl served.1
    where
      go : (o : Option Ask) → slice_get (lane_of batch p.lane) p.call ≡ o → item_in_call o p.item ≡ Some (context, served.0) → (p.lane ≤ 65535) × (p.call ≤ 65535) × (p.item ≤ 65535)
      go None at item = absurd cc
      go (Some ask) at item =
          let few = ask_few p.lane p.call ask at in
          let index = item_low (slice_get (items_in ask) p.item) refl item in
          (omega (arith, few.0), omega (arith, few.1), omega (arith, few.2, index))
        where
          item_low : (o : Option Item) → slice_get (items_in ask) p.item ≡ o → with_context (context_in ask) o ≡ Some (context, served.0) → p.item < length (items_in ask)
          item_low None is e = absurd cc
          item_low (Some x) is e = slice_get_within (items_in ask) p.item x is

-- ---- numbers that are due

due_low : (c : Cipher) (n : ℕ) (xs : List Item) → due c n xs ≤ n + length xs
due_low c n [] = omega arith
due_low c n (x ∷ xs) = (let rest = due_low c (next n (answer c n x)) xs in let step = next_low n (answer c n x) in omega arith)
  where
    next_low : (n : ℕ) (a : Answer) → next n a ≤ n + 1
    next_low n a = elim (advances a) as (λ (b : Bool). cond b (n + 1) n ≤ n + 1) [ true ↦ omega arith | false ↦ omega arith ]

items_few : (batch : Batch) (ps : List Place) → length (items_of batch ps) ≤ length ps
items_few batch [] = omega arith
items_few batch (p ∷ ps) = (let rest = items_few batch ps in let here = or_none_few (item_of batch p) (items_of batch ps) in omega arith)
  where
    or_none_few : (o : Option (ℕ × Item)) (xs : List Item) → length (item_or_none o xs) ≤ suc (length xs)
    or_none_few None xs = omega arith
    or_none_few (Some x) xs = omega arith

before_few : (p : Place) (ps : List Place) → length (before p ps) ≤ length ps
before_few p [] = omega arith
before_few p (q ∷ ps) = step (is_same_place q p) (before_few p ps)
  where
    step : (b : Bool) → length (before p ps) ≤ length ps → length (cond b [] (q ∷ before p ps)) ≤ length (q ∷ ps)
    step true few = omega arith
    step false few = omega arith

-- no number is above the places of its journal
pub number_low : (batch : Batch) (c : Cipher) (journal : List Place) (p : Place) → due_after batch c (before p journal) ≤ length journal
number_low batch c journal p =
    omega (arith, due_low c 0 (items_of batch (before p journal)), items_few batch (before p journal), before_few p journal)
