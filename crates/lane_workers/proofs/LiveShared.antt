-- What a plan whose lanes add and retire contexts shares with each plan that a table of its names
-- makes: its limits and its contexts. Their calls stand side by side, and one that doesn't find its
-- context asks nothing.
use Rattle.std.proofs.Common.{◌≡◌, ◌⊎◌, ◌+◌, ◌<◌, ◌≤◌, ◌||◌, ℕ, Bool, true, false, List, [], ◌∷◌, ◌++◌, length, map, get_or, Option, Some, None, sym, refl, ap, ◌∙◌, subst, arith, inl, inr, if◌then◌else◌, length-append}
use Rattle.std.specs.Prelude.{nat_lt, sum_by}
use Rattle.std.specs.List.{All}
use Rattle.std.proofs.lemmas.Bool.{ltb-false}
use Rattle.std.proofs.lemmas.List.{get_or_past, get_or-map, length-map}
use Rattle.std.proofs.lemmas.List.Elements.{All-cons, All-nil, All-head, All-tail}
use Rattle.std.proofs.lemmas.List.Sums.{sum_by-cons}
use Rattle.call_places.specs.declared.spans.Item.{Item}
use Rattle.call_places.specs.declared.entries.Entry.{Entry}
use Rattle.hpke_context.specs.Contexts.{ContextView}
use Rattle.context_books.specs.Batches.{Nothing, Spot, place, asked, on}
use Rattle.context_books.specs.Merging.{all_asked, lane_places}
use Rattle.context_books.proofs.Lists.{on-append}
use Rattle.batch_plans.specs.declared.plan.Plan.{Plan}
use Rattle.batch_plans.specs.declared.plan.CallLine.{CallLine}
use Rattle.batch_plans.specs.declared.plan.CallLine.TheVariants as calls
use Rattle.batch_plans.specs.declared.replies.CallRefusal.TheVariants.{NoContext}
use Rattle.batch_plans.specs.Calls.{context_of}
use Rattle.batch_plans.specs.Limits.{first_name, items_of, size_of}
use Rattle.batch_plans.specs.Within.{text_size, IsCallWithin, IsWithinLimits}
use Rattle.batch_plans.specs.Names.{at_position, all_live}
use Rattle.batch_plans.specs.ReplyText.{numbered}
use Rattle.batch_plans.proofs.Numbering.{length-numbered}
use Rattle.context_books.specs.Asks.{ask_of, ask_unless, asked_by}
use Rattle.context_books.specs.Live.{was_live, looked_up, looked_up_plan}
use Rattle.context_books.specs.Standing.{refusal_on, call_refusal}
use Rattle.context_books.proofs.Done.{lane_asks}
use Rattle.context_books.proofs.LookedUp.{calls_looked}
use Rattle.context_books.proofs.Refusals as refusals
use Rattle.context_books.specs.LaneCalls.{lane_calls}
use Rattle.lane_workers.specs.Lanes.{asks_of, AreShared}
use Rattle.lane_workers.specs.LiveLanes.{LiveView, standing, AreSharedLive}

-- ---- lists by their numbers

-- what holds of mapped elements
pub unmapped : {X Y : Type 0} (f : X → Y) (P : Y → Type 0) (xs : List X) → All P (map f xs)
    → All (λ x. P (f x)) xs
unmapped f P xs all k d low =
    let count = length-map xs f in
    subst P (get_or-map f xs k d (f d) low) (all k (f d) (omega arith))

module _ {X Y : Type 0} (P : X → Type 0) (f : ℕ → X → Y) where
  -- what each element makes of what holds of it
  pub All-numbered : (Q : Y → Type 0) → ((n : ℕ) (x : X) → P x → Q (f n x)) → (start : ℕ)
      (xs : List X) → All P xs → All Q (numbered f start xs)
  All-numbered Q each start [] all = All-nil Q
  All-numbered Q each start (x ∷ xs) all =
      All-cons Q (f start x) (numbered f (start + 1) xs) (each start x (All-head P x xs all))
      (All-numbered Q each (start + 1) xs (All-tail P x xs all))

  -- the sum of what is made of elements is no more than that of larger terms
  pub sum_by-numbered : (g : Y → ℕ) (h : X → ℕ) → ((n : ℕ) (x : X) → P x → g (f n x) ≤ h x)
      → (start : ℕ) (xs : List X) → All P xs → sum_by g (numbered f start xs) ≤ sum_by h xs
  sum_by-numbered g h each start [] all = omega arith
  sum_by-numbered g h each start (x ∷ xs) all =
      let first = each start x (All-head P x xs all) in
      let rest = sum_by-numbered g h each (start + 1) xs (All-tail P x xs all) in
      omega (
        arith,
        sum_by-cons g (f start x) (numbered f (start + 1) xs),
        sum_by-cons h x xs,
        first,
        rest,
      )

-- ---- a call that is looked up

module _ (plan : Plan) (notes : List Entry) (lane number : ℕ) where
  -- it is the call on its place, or itself, on a number that no context has
  pub looked_either : (call : CallLine)
      → (looked_up plan notes lane number call ≡ at_position plan call)
      ⊎ ((looked_up plan notes lane number call ≡ call) × (first_name ≤ context_of call))
  looked_either call = step (nat_lt (context_of call) first_name) refl
      (was_live notes (place lane number 0))
    where
      step : (low : Bool) → nat_lt (context_of call) first_name ≡ low → (live : Bool)
          → ((if low || live then at_position plan call else call) ≡ at_position plan call)
          ⊎ (((if low || live then at_position plan call else call) ≡ call)
          × (first_name ≤ context_of call))
      step true is live = inl refl
      step false is true = inl refl
      step false is false = inr (refl, ltb-false (context_of call) first_name is)

  -- what holds of both
  pub looked_has : (P : CallLine → Type 0) (call : CallLine) → P (at_position plan call) → P call
      → P (looked_up plan notes lane number call)
  looked_has P call placed stays = elim (looked_either call) [
    | inl is ↦ subst P (sym is) placed
    | inr is ↦ subst P (sym is.0) stays
  ]

-- ---- its limits

-- a call has as many items and bytes as another
record IsAsLarge (items : List Item) (call other : CallLine) : Type 0 where
  pub items_are : items_of call ≡ items_of other
  pub size : size_of call ≡ size_of other
  pub text : text_size items call ≡ text_size items other

placed_size : (plan : Plan) (items : List Item) (call : CallLine)
    → IsAsLarge items (at_position plan call) call
placed_size plan items (calls.Export context exporter size) =
    record { items_are = refl; size = refl; text = refl }
placed_size plan items call =
    record { items_are = refl; size = refl; text = refl }

pub looked_items_of : (plan : Plan) (notes : List Entry) (lane number : ℕ) (call : CallLine)
    → items_of (looked_up plan notes lane number call) ≡ items_of call
looked_items_of plan notes lane number call =
    looked_has plan notes lane number (λ c. items_of c ≡ items_of call) call
    (placed_size plan plan.items call).items_are refl

module _ (plan : Plan) (within : IsWithinLimits plan) (live : IsWithinLimits (all_live plan))
    (notes : List Entry) where
  abbrev looked : Plan
  looked = looked_up_plan plan notes

  abbrev IsWithin : CallLine → Type 0
  IsWithin = IsCallWithin (length plan.items) (length plan.pool)

  -- the calls of a lane are within the limits, and so they are on their places
  abbrev AreWithin : List CallLine → Type 0
  AreWithin calls = All (λ call. IsWithin call × IsWithin (at_position plan call)) calls

  lanes_within : All AreWithin plan.lanes
  lanes_within l d low k c few =
      let lane = get_or plan.lanes l d in
      let place = unmapped (map (at_position plan)) (All IsWithin) plan.lanes live.call_lines l d low in (
        within.call_lines l d low k c few,
        unmapped (at_position plan) IsWithin lane place k c few,
      )

  -- a size that a call keeps on its place sums up to no more
  no_more : (f : CallLine → ℕ) → ((call : CallLine) → f (at_position plan call) ≡ f call)
      → sum_by (λ lane. sum_by f lane) looked.lanes ≤ sum_by (λ lane. sum_by f lane) plan.lanes
  no_more f same =
      sum_by-numbered AreWithin (λ lane calls. numbered (looked_up plan notes lane) 0 calls)
      (λ lane. sum_by f lane) (λ lane. sum_by f lane)
      (λ lane calls all. sum_by-numbered (λ call. IsWithin call × IsWithin (at_position plan call))
      (looked_up plan notes lane) f f
      (λ number call is. looked_has plan notes lane number (λ c. f c ≤ f call) call
      (let e = same call in omega arith) (omega arith)) 0 calls all) 0 plan.lanes lanes_within

  pub looked_within : IsWithinLimits looked
  looked_within = record {
    version = within.version;
    pool = within.pool;
    keys = within.keys;
    contexts = within.contexts;
    added = within.added;
    lanes = (let e = length-numbered (λ lane calls. numbered (looked_up plan notes lane) 0 calls) 0
        plan.lanes in let few = within.lanes in omega arith);
    items = (let less = no_more items_of (λ call. (placed_size plan plan.items call).items_are) in
        let few = within.items in omega arith);
    exported = (let less = no_more size_of (λ call. (placed_size plan plan.items call).size) in
        let few = within.exported in omega arith);
    texts = (let less = no_more (text_size plan.items)
        (λ call. (placed_size plan plan.items call).text) in
        let few = within.texts in omega arith);
    key_lines = within.key_lines;
    context_lines = within.context_lines;
    item_count = within.item_count;
    item_list = within.item_list;
    call_lines = All-numbered AreWithin
        (λ lane calls. numbered (looked_up plan notes lane) 0 calls) (All IsWithin)
        (λ lane calls all. All-numbered (λ call. IsWithin call × IsWithin (at_position plan call))
        (looked_up plan notes lane) IsWithin
        (λ number call is. looked_has plan notes lane number IsWithin call is.1 is.0) 0 calls all)
        0 plan.lanes lanes_within;
  }

-- ---- which calls are refused

pub far_refused : (v : LiveView) → AreSharedLive v → (call : CallLine)
    → first_name ≤ context_of call → call_refusal (standing v) call ≡ Some NoContext
far_refused v shared call far =
    let count = shared.shared.of_lines.count in
    let few = shared.within.contexts in
    ap (λ o. refusal_on o call) (get_or_past (standing v) (context_of call) None (omega arith))

pub added_refused : (v : LiveView) (name : ℕ)
    → call_refusal (standing v) (calls.Add name) ≡ Some NoContext
added_refused v = refusals.added_refused (standing v)

pub retired_refused : (v : LiveView) (name : ℕ)
    → call_refusal (standing v) (calls.Retire name) ≡ Some NoContext
retired_refused v = refusals.retired_refused (standing v)

-- ---- what they ask

asked_same : (plan : Plan) (notes : List Entry) (call : CallLine)
    → asked_by (looked_up_plan plan notes) call ≡ asked_by (all_live plan) call
asked_same plan notes (calls.Add name) = refl
asked_same plan notes call = refl

pub asks_are : (plan : Plan) (contexts : List (Option ContextView)) (lane : ℕ)
    → asks_of plan contexts lane ≡ map (ask_of plan contexts) (lane_calls plan lane)
asks_are plan contexts lane =
    lane_asks (record { plan = plan; contexts = contexts; journals = []; guesses = [] }) lane

-- the calls of a lane, each on its place
pub calls_placed : (plan : Plan) (lane : ℕ) → lane < length plan.lanes
    → lane_calls (all_live plan) lane ≡ map (at_position plan) (lane_calls plan lane)
calls_placed plan lane low = get_or-map (map (at_position plan)) plan.lanes lane [] [] low

length-on : (c : ℕ) (xs ys : List Spot)
    → length (on c (xs ++ ys)) ≡ length (on c xs) + length (on c ys)
length-on c xs ys = ap length (on-append c xs ys) ∙ length-append (on c xs) (on c ys)

module _ (v : LiveView) (shared : AreSharedLive v) (notes : List Entry) where
  abbrev served : Plan
  served = looked_up_plan v.plan notes

  -- a call asks what it asks on its place, or nothing
  pub asks_either : (lane number : ℕ) (call : CallLine)
      → (ask_of served (standing v) (looked_up v.plan notes lane number call)
      ≡ ask_of (all_live v.plan) (standing v) (at_position v.plan call))
      ⊎ (ask_of served (standing v) (looked_up v.plan notes lane number call) ≡ Nothing)
  asks_either lane number call = elim (looked_either v.plan notes lane number call) [
    | inl is ↦ inl (ap (ask_of served (standing v)) is
        ∙ ap (ask_unless (call_refusal (standing v) (at_position v.plan call)))
        (asked_same v.plan notes (at_position v.plan call)))
    | inr is ↦ inr (ap (ask_of served (standing v)) is.0
        ∙ ap (λ r. ask_unless r (asked_by served call)) (far_refused v shared call is.1))
  ]

  fewer_places : (c lane number : ℕ) (calls : List CallLine)
      → length (on c (all_asked lane number (map (ask_of served (standing v))
      (numbered (looked_up v.plan notes lane) number calls))))
      ≤ length (on c (all_asked lane number (map (ask_of (all_live v.plan) (standing v))
      (map (at_position v.plan) calls))))
  fewer_places c lane number [] = omega arith
  fewer_places c lane number (call ∷ calls) =
      let here = ask_of served (standing v) (looked_up v.plan notes lane number call) in
      let there = ask_of (all_live v.plan) (standing v) (at_position v.plan call) in
      let first : length (on c (asked lane number here)) ≤ length (on c (asked lane number there)) =
      elim (asks_either lane number call) [
        | inl is ↦ (let e = ap (λ a. length (on c (asked lane number a))) is in omega arith)
        | inr is ↦ (let e = ap (λ a. length (on c (asked lane number a))) is in omega arith)
      ] in
      let rest = fewer_places c lane (number + 1) calls in
      omega (
        arith,
        first,
        rest,
        length-on c (asked lane number here) (all_asked lane (number + 1)
            (map (ask_of served (standing v))
            (numbered (looked_up v.plan notes lane) (number + 1) calls))),
        length-on c (asked lane number there) (all_asked lane (number + 1)
            (map (ask_of (all_live v.plan) (standing v)) (map (at_position v.plan) calls))),
      )

  -- of each context a lane asks for no more places than where all its calls find theirs
  fewer : (c lane : ℕ) → lane < length v.plan.lanes
      → length (lane_places c lane (asks_of served (standing v) lane))
      ≤ length (lane_places c lane (asks_of (all_live v.plan) (standing v) lane))
  fewer c lane low =
      let less = fewer_places c lane 0 (lane_calls v.plan lane) in
      let here = ap (λ asks. length (lane_places c lane asks)) (asks_are served (standing v) lane
      ∙ ap (map (ask_of served (standing v))) (calls_looked v.plan notes lane)) in
      let there = ap (λ asks. length (lane_places c lane asks))
      (asks_are (all_live v.plan) (standing v) lane
      ∙ ap (map (ask_of (all_live v.plan) (standing v))) (calls_placed v.plan lane low)) in
      omega arith

pub looked_shared : (v : LiveView) → AreSharedLive v → (notes : List Entry)
    → AreShared (looked_up_plan v.plan notes) v.contexts v.counter
looked_shared v shared notes =
    let looked : length (looked_up_plan v.plan notes).lanes ≡ length v.plan.lanes =
    length-numbered (λ lane calls. numbered (looked_up v.plan notes lane) 0 calls) 0 v.plan.lanes in
    let placed : length (all_live v.plan).lanes ≡ length v.plan.lanes =
    length-map v.plan.lanes (map (at_position v.plan)) in
    record {
      within = looked_within v.plan shared.within shared.shared.within notes;
      of_lines = record {
        count = shared.shared.of_lines.count;
        each = shared.shared.of_lines.each;
      };
      each = λ number s is.
          let t = shared.shared.each number s is in
          record {
            limit = t.limit;
            lanes = t.lanes ∙ placed ∙ sym looked;
            quotas = λ lane low.
                let less = fewer v shared notes number lane (omega arith) in
                let most = t.quotas lane (omega arith) in
                omega arith;
            counted = t.counted;
          };
    }
