-- Calls with the places of their contexts: they are within the limits where the calls are, and need
-- the same room at most.
use Rattle.std.proofs.Common.{◌≡◌, ◌<◌, ℕ, List, [], ◌∷◌, length, map, get_or, refl, ap, subst, sym, arith}
use Rattle.std.specs.List.{sum_by, All}
use Rattle.std.proofs.lemmas.Bool.Decides.{nat_tests}
use Rattle.std.proofs.lemmas.List.{get_or-map, length-map}
use Rattle.std.proofs.lemmas.List.Sums.{sum_by-cons}
use Rattle.std.proofs.lemmas.List.Elements.{All-map, All-head, All-tail}
use Rattle.call_places.specs.declared.spans.Item.{Item}
use Rattle.batch_plans.specs.declared.plan.Plan.{Plan}
use Rattle.batch_plans.specs.declared.plan.CallLine.{CallLine}
use Rattle.batch_plans.specs.declared.plan.CallLine.TheVariants as calls
use Rattle.batch_plans.specs.Limits.{first_name, items_of, all_items, size_of}
use Rattle.batch_plans.specs.Within.{text_size, IsNumber, IsCallWithin, IsWithinLimits, IsPlainCall, IsPlain}
use Rattle.batch_plans.specs.Names.{position, at_position, all_live}
use Rattle.batch_plans.specs.Room.{most_room, IsLaneWithin}
use Rattle.batch_plans.proofs.Rooms.{lane_within}

-- a place among few contexts is a number
position_is_number : (plan : Plan) (number : ℕ) → IsWithinLimits plan → IsNumber number
    → IsNumber (position plan number)
position_is_number plan number within is =
    let few = within.contexts in
    let added = within.added in
    grind (arith, nat_tests)

placed_within : (plan : Plan) (items pool : ℕ) (call : CallLine) → IsWithinLimits plan
    → IsCallWithin items pool call → IsCallWithin items pool (at_position plan call)
placed_within plan items pool (calls.Seal context item) within (is, rest) =
    (position_is_number plan context within is, rest)
placed_within plan items pool (calls.Unseal context item) within (is, rest) =
    (position_is_number plan context within is, rest)
placed_within plan items pool (calls.UnsealAll context first count) within (is, some, few, there) =
    (position_is_number plan context within is, some, few, there)
placed_within plan items pool (calls.Export context exporter size) within (is, bytes, short) =
    (position_is_number plan context within is, bytes, short)
placed_within plan items pool call within is = is

placed_most : (plan : Plan) (items : List Item) (call : CallLine)
    → most_room items (at_position plan call) ≡ most_room items call
placed_most plan items (calls.Add name) = refl
placed_most plan items call = refl

-- a count of each call that stays at its place
module _ (plan : Plan) (f : CallLine → ℕ) (same : (call : CallLine) → f (at_position plan call) ≡ f call) where
  placed_sum : (calls : List CallLine)
      → sum_by f (map (at_position plan) calls) ≡ sum_by f calls
  placed_sum [] = refl
  placed_sum (call ∷ calls) =
      omega (
        arith,
        sum_by-cons f (at_position plan call) (map (at_position plan) calls),
        sum_by-cons f call calls,
        same call,
        placed_sum calls,
      )

  all_placed_sum : (lanes : List (List CallLine))
      → sum_by (λ lane. sum_by f lane) (map (map (at_position plan)) lanes)
      ≡ sum_by (λ lane. sum_by f lane) lanes
  all_placed_sum [] = refl
  all_placed_sum (lane ∷ lanes) =
      let of_lane = λ (lane : List CallLine). sum_by f lane in
      omega (
        arith,
        sum_by-cons of_lane (map (at_position plan) lane) (map (map (at_position plan)) lanes),
        sum_by-cons of_lane lane lanes,
        placed_sum lane,
        all_placed_sum lanes,
      )

placed_lane_within : (plan : Plan) (calls : List CallLine) → IsWithinLimits plan
    → IsLaneWithin plan calls → IsLaneWithin plan (map (at_position plan) calls)
placed_lane_within plan calls within lane =
    let is = IsCallWithin (length plan.items) (length plan.pool) in
    record {
      lines = All-map is (at_position plan) calls
          (λ k d lt. placed_within plan (length plan.items) (length plan.pool) (get_or calls k d) within
          (lane.lines k d lt));
      small = omega (
        arith,
        lane.small,
        placed_sum plan (most_room plan.items) (placed_most plan plan.items) calls,
      );
    }

-- each lane of calls with their places is within the limits
pub live_lane_within : (plan : Plan) → IsWithinLimits plan → (i : ℕ) (d : List CallLine)
    → i < length plan.lanes → IsLaneWithin plan (get_or (all_live plan).lanes i d)
live_lane_within plan within i d lt =
    let at = get_or-map (map (at_position plan)) plan.lanes i d d lt in
    subst (IsLaneWithin plan) (sym at)
    (placed_lane_within plan (get_or plan.lanes i d) within (lane_within plan within i d lt))

-- ---- their items

placed_items : (plan : Plan) (call : CallLine) → items_of (at_position plan call) ≡ items_of call
placed_items plan (calls.Add name) = refl
placed_items plan call = refl

-- lanes of calls with their places have as many items
pub all_placed_items : (plan : Plan) (lanes : List (List CallLine))
    → all_items (map (map (at_position plan)) lanes) ≡ all_items lanes
all_placed_items plan lanes = all_placed_sum plan items_of (placed_items plan) lanes

placed_size : (plan : Plan) (call : CallLine) → size_of (at_position plan call) ≡ size_of call
placed_size plan (calls.Add name) = refl
placed_size plan call = refl

placed_text : (plan : Plan) (items : List Item) (call : CallLine)
    → text_size items (at_position plan call) ≡ text_size items call
placed_text plan items (calls.Add name) = refl
placed_text plan items call = refl

-- the plan whose calls have their places is within the limits
pub all_live_within : (plan : Plan) → IsWithinLimits plan → IsWithinLimits (all_live plan)
all_live_within plan within = record {
  version = within.version;
  pool = within.pool;
  keys = within.keys;
  contexts = within.contexts;
  added = within.added;
  lanes = omega (arith, length-map plan.lanes (map (at_position plan)), within.lanes);
  items = omega (arith, all_placed_items plan plan.lanes, within.items);
  exported = omega (
    arith,
    all_placed_sum plan size_of (placed_size plan) plan.lanes,
    within.exported,
  );
  texts = omega (
    arith,
    all_placed_sum plan (text_size plan.items) (placed_text plan plan.items) plan.lanes,
    within.texts,
  );
  key_lines = within.key_lines;
  context_lines = within.context_lines;
  item_count = within.item_count;
  item_list = within.item_list;
  call_lines =
      let is = IsCallWithin (length plan.items) (length plan.pool) in
      All-map (All is) (map (at_position plan)) plan.lanes (λ i d lt.
      All-map is (at_position plan) (get_or plan.lanes i d) (λ k call low.
      placed_within plan (length plan.items) (length plan.pool)
      (get_or (get_or plan.lanes i d) k call) within (within.call_lines i d lt k call low)));
}

-- ---- plans whose contexts stay

plain_position : (plan : Plan) (number : ℕ) → plan.added ≡ 0 → number < first_name
    → position plan number ≡ number
plain_position plan number none low = grind (arith, nat_tests)

plain_call : (plan : Plan) (call : CallLine) → plan.added ≡ 0 → IsPlainCall call
    → at_position plan call ≡ call
plain_call plan (calls.Seal context item) none plain =
    ap (λ at. calls.Seal at item) (plain_position plan context none plain)
plain_call plan (calls.Unseal context item) none plain =
    ap (λ at. calls.Unseal at item) (plain_position plan context none plain)
plain_call plan (calls.UnsealAll context first count) none plain =
    ap (λ at. calls.UnsealAll at first count) (plain_position plan context none plain)
plain_call plan (calls.Export context exporter size) none plain =
    ap (λ at. calls.Export at exporter size) (plain_position plan context none plain)
plain_call plan call none plain = absurd plain

-- a list of which each element stays under f
map_stays : {X : Type 0} (f : X → X) (xs : List X) → All (λ x. f x ≡ x) xs → map f xs ≡ xs
map_stays f [] all = refl
map_stays f (x ∷ xs) all = λ i.
    All-head (λ x. f x ≡ x) x xs all i ∷ map_stays f xs (All-tail (λ x. f x ≡ x) x xs all) i

-- where no context comes or goes, the calls name their contexts by their places
pub all_live_plain : (plan : Plan) → IsPlain plan → all_live plan ≡ plan
all_live_plain plan plain =
    let stays = map_stays (map (at_position plan)) plan.lanes
    (λ i lane lt. map_stays (at_position plan) (get_or plan.lanes i lane)
    (λ k call low. plain_call plan (get_or (get_or plan.lanes i lane) k call) plain.added
    (plain.calls i lane lt k call low))) in
    ap (λ lanes. record plan { lanes = lanes }) stays
