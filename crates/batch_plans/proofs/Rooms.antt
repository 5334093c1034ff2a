-- Sums of rooms, one more call at a time.
use Rattle.std.proofs.Common.{◌≡◌, ◌≤◌, ◌<◌, ◌+◌, ◌*◌, ◌^◌, ℕ, List, [], ◌∷◌, length, take, get_or, Option, Some, None, refl, arith}
use Rattle.std.specs.List.{sum_by, All}
use Rattle.std.proofs.lemmas.List.Sums.{sum_by-cons, sum_by_more_le, sum_by-le-sum_by, get_or-le-sum_by}
use Rattle.std.proofs.lemmas.List.Elements.{All-head, All-tail}
use Rattle.call_places.specs.declared.spans.Item.{Item}
use Rattle.batch_plans.specs.declared.plan.Plan.{Plan}
use Rattle.batch_plans.specs.declared.plan.CallLine.{CallLine}
use Rattle.batch_plans.specs.declared.plan.CallLine.TheVariants as calls
use Rattle.batch_plans.specs.declared.replies.CallRefusal.{CallRefusal}
use Rattle.batch_plans.specs.Limits.{items_of, items_from, size_of, all_items, all_sizes}
use Rattle.batch_plans.specs.Within.{text_size, all_texts, IsCallWithin, IsWithinLimits}
use Rattle.batch_plans.specs.Calls.{refusal}
use Rattle.batch_plans.specs.Room.{opened_room, served_room, served_batches, served_or, call_room, call_replies, call_batches, most_room, all_most_room, IsLaneWithin}

-- ---- one call

-- the replies to a call that is served: no more bytes than its texts with a tag each, and its LEN
pub served_room-le : (items : List Item) (call : CallLine)
    → served_room items call ≤ most_room items call
served_room-le items (calls.UnsealAll context first count) =
    let named = items_from items first count in
    omega (arith, sum_by-le-sum_by opened_room (λ item. item.text.len) named (λ item. omega arith))
served_room-le items call = omega arith

-- a call within the limits has an item
pub has_item : (items pool : ℕ) (call : CallLine) → IsCallWithin items pool call
    → 1 ≤ items_of call
has_item items pool (calls.Add name) within = omega arith
has_item items pool call within = omega arith

served_batches-le : (call : CallLine) → served_batches call ≤ 1
served_batches-le (calls.Add name) = omega arith
served_batches-le call = omega arith

-- a choice is within what bounds both
served_or-le : (refused : Option CallRefusal) (a b most : ℕ) → a ≤ most → b ≤ most
    → served_or refused a b ≤ most
served_or-le None a b most left right = left
served_or-le (Some refusal) a b most left right = right

-- what a call needs of each list is within its most room
pub record IsSmall (plan : Plan) (limits : List ℕ) (call : CallLine) : Type 0 where
  pub room : call_room plan limits call ≤ most_room plan.items call
  pub replies : call_replies plan limits call ≤ most_room plan.items call
  pub batches : call_batches plan limits call ≤ most_room plan.items call

pub is_small : (plan : Plan) (limits : List ℕ) (call : CallLine)
    → IsCallWithin (length plan.items) (length plan.pool) call → IsSmall plan limits call
is_small plan limits call within =
    let refused = refusal plan.contexts limits call in
    let room = served_room plan.items call in
    let batches = served_batches call in
    let most = most_room plan.items call in
    let one = has_item (length plan.items) (length plan.pool) call within in
    let few = served_batches-le call in
    record {
      room = served_or-le refused room 0 most (served_room-le plan.items call) (omega arith);
      replies = served_or-le refused (items_of call) 1 most (omega arith) (omega (arith, one));
      batches = served_or-le refused batches 0 most (omega (arith, one, few)) (omega arith);
    }

-- ---- the calls of a lane

-- a sum of larger terms is larger
sum_by-le-of_all : {X : Type 0} (f g : X → ℕ) (xs : List X) → All (λ x. f x ≤ g x) xs
    → sum_by f xs ≤ sum_by g xs
sum_by-le-of_all f g [] all = omega arith
sum_by-le-of_all f g (x ∷ xs) all =
    let head = All-head (λ x. f x ≤ g x) x xs all in
    let rest = sum_by-le-of_all f g xs (All-tail (λ x. f x ≤ g x) x xs all) in
    omega (arith, sum_by-cons f x xs, sum_by-cons g x xs, head, rest)

-- the sum so far and the next term are within a sum of larger terms
sum_fits : {X : Type 0} (f g : X → ℕ) (xs : List X) (i : ℕ) (d : X) → i < length xs
    → All (λ x. f x ≤ g x) xs → sum_by f (take i xs) + f (get_or xs i d) ≤ sum_by g xs
sum_fits f g xs i d lt all =
    omega (arith, sum_by_more_le f xs i d lt, sum_by-le-of_all f g xs all)

-- what the calls of a lane need is within the most room, one by one and list by list
pub record AreSmall (plan : Plan) (limits : List ℕ) (calls : List CallLine) : Type 0 where
  pub room : All (λ call. call_room plan limits call ≤ most_room plan.items call) calls
  pub replies : All (λ call. call_replies plan limits call ≤ most_room plan.items call) calls
  pub batches : All (λ call. call_batches plan limits call ≤ most_room plan.items call) calls

are_small : (plan : Plan) (limits : List ℕ) (calls : List CallLine) → IsLaneWithin plan calls
    → AreSmall plan limits calls
are_small plan limits calls within =
    record {
      room = λ k d lt. (is_small plan limits (get_or calls k d) (within.lines k d lt)).room;
      replies = λ k d lt. (is_small plan limits (get_or calls k d) (within.lines k d lt)).replies;
      batches = λ k d lt. (is_small plan limits (get_or calls k d) (within.lines k d lt)).batches;
    }

-- the room so far and the next call's are small
pub room_fits : (plan : Plan) (limits : List ℕ) (calls : List CallLine) (i : ℕ) (d : CallLine)
    → i < length calls → IsLaneWithin plan calls
    → sum_by (call_room plan limits) (take i calls) + call_room plan limits (get_or calls i d)
    < 2 ^ 32
room_fits plan limits calls i d lt within =
    let small = (are_small plan limits calls within).room in
    let most = most_room plan.items in
    omega (arith, within.small, sum_fits (call_room plan limits) most calls i d lt small)

-- the same, of the replies
pub replies_fit : (plan : Plan) (limits : List ℕ) (calls : List CallLine) (i : ℕ) (d : CallLine)
    → i < length calls → IsLaneWithin plan calls
    → sum_by (call_replies plan limits) (take i calls) + call_replies plan limits (get_or calls i d)
    < 2 ^ 32
replies_fit plan limits calls i d lt within =
    let small = (are_small plan limits calls within).replies in
    let most = most_room plan.items in
    omega (arith, within.small, sum_fits (call_replies plan limits) most calls i d lt small)

-- the same, of the guesses
pub batches_fit : (plan : Plan) (limits : List ℕ) (calls : List CallLine) (i : ℕ) (d : CallLine)
    → i < length calls → IsLaneWithin plan calls
    → sum_by (call_batches plan limits) (take i calls) + call_batches plan limits (get_or calls i d)
    < 2 ^ 32
batches_fit plan limits calls i d lt within =
    let small = (are_small plan limits calls within).batches in
    let most = most_room plan.items in
    omega (arith, within.small, sum_fits (call_batches plan limits) most calls i d lt small)

-- ---- the lanes of a plan

-- the most of a lane is its texts, a tag for each item, and its LEN
most_of_lane : (items : List Item) (lane : List CallLine)
    → sum_by (most_room items) lane
    ≡ sum_by (text_size items) lane + 16 * sum_by items_of lane + sum_by size_of lane
most_of_lane items [] = refl
most_of_lane items (call ∷ lane) =
    omega (
      arith,
      sum_by-cons (most_room items) call lane,
      sum_by-cons (text_size items) call lane,
      sum_by-cons items_of call lane,
      sum_by-cons size_of call lane,
      most_of_lane items lane,
    )

-- the same, of all lanes
most_of_lanes : (items : List Item) (lanes : List (List CallLine))
    → all_most_room items lanes ≡ all_texts items lanes + 16 * all_items lanes + all_sizes lanes
most_of_lanes items [] = refl
most_of_lanes items (lane ∷ lanes) =
    omega (
      arith,
      sum_by-cons (λ lane. sum_by (most_room items) lane) lane lanes,
      sum_by-cons (λ lane. sum_by (text_size items) lane) lane lanes,
      sum_by-cons (λ lane. sum_by items_of lane) lane lanes,
      sum_by-cons (λ lane. sum_by size_of lane) lane lanes,
      most_of_lane items lane,
      most_of_lanes items lanes,
    )

-- the replies of a plan are small
plan_room_fits : (plan : Plan) → IsWithinLimits plan
    → all_most_room plan.items plan.lanes < 2 ^ 32
plan_room_fits plan within =
    let most = most_of_lanes plan.items plan.lanes in
    omega (arith, most, within.pool, within.items, within.exported, within.texts)

-- each lane of a plan is within the limits
pub lane_within : (plan : Plan) → IsWithinLimits plan → (i : ℕ) (d : List CallLine)
    → i < length plan.lanes → IsLaneWithin plan (get_or plan.lanes i d)
lane_within plan within i d lt =
    let rooms = λ (lane : List CallLine). sum_by (most_room plan.items) lane in
    record {
      lines = within.call_lines i d lt;
      small = omega (
        arith,
        plan_room_fits plan within,
        get_or-le-sum_by rooms plan.lanes i d lt,
      );
    }

-- all that a lane needs is small
pub record IsSmallLane (plan : Plan) (limits : List ℕ) (calls : List CallLine) : Type 0 where
  pub room : sum_by (call_room plan limits) calls < 2 ^ 32
  pub replies : sum_by (call_replies plan limits) calls < 2 ^ 32
  pub batches : sum_by (call_batches plan limits) calls < 2 ^ 32

pub lane_is_small : (plan : Plan) (limits : List ℕ) (calls : List CallLine)
    → IsLaneWithin plan calls → IsSmallLane plan limits calls
lane_is_small plan limits calls within =
    let all = are_small plan limits calls within in
    let most = most_room plan.items in
    let room = sum_by-le-of_all (call_room plan limits) most calls all.room in
    let replies = sum_by-le-of_all (call_replies plan limits) most calls all.replies in
    let batches = sum_by-le-of_all (call_batches plan limits) most calls all.batches in
    record {
      room = omega (arith, within.small, room);
      replies = omega (arith, within.small, replies);
      batches = omega (arith, within.small, batches);
    }
