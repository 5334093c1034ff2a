-- The plan whose calls are as they were served is within the limits where the plan is.
use Rattle.std.proofs.Common.{◌≡◌, ◌||◌, ℕ, ◌+◌, Bool, true, false, List, [], ◌∷◌, length, refl, sym, ◌∙◌, arith, if◌then◌else◌}
use Rattle.std.specs.Prelude.{nat_lt}
use Rattle.std.specs.List.{sum_by, All}
use Rattle.std.proofs.lemmas.Bool.Decides.{nat_tests}
use Rattle.std.proofs.lemmas.List.Sums.{sum_by-cons}
use Rattle.std.proofs.lemmas.List.Elements.{All-nil, All-cons, All-head, All-tail}
use Rattle.call_places.specs.declared.entries.Entry.{Entry}
use Rattle.call_places.specs.declared.spans.Item.{Item}
use Rattle.context_books.specs.Batches.{place}
use Rattle.batch_plans.specs.declared.plan.Plan.{Plan}
use Rattle.batch_plans.specs.declared.plan.CallLine.{CallLine}
use Rattle.batch_plans.specs.declared.plan.CallLine.TheVariants as calls
use Rattle.batch_plans.specs.Calls.{context_of}
use Rattle.batch_plans.specs.Limits.{first_name, items_of, size_of}
use Rattle.batch_plans.specs.Within.{text_size, IsNumber, IsCallWithin, IsWithinLimits}
use Rattle.batch_plans.specs.Names.{position, at_position}
use Rattle.batch_plans.specs.ReplyText.{numbered}
use Rattle.batch_plans.proofs.Numbering.{length-numbered}
use Rattle.context_books.specs.Live.{was_live, looked_up, looked_up_plan}

-- ---- one call

position_is_number : (plan : Plan) (number : ℕ) → IsWithinLimits plan → IsNumber number → IsNumber (position plan number)
position_is_number plan number within is =
    let few = within.contexts in
    let added = within.added in
    grind (arith, nat_tests)

placed_within : (plan : Plan) (items pool : ℕ) (call : CallLine) → IsWithinLimits plan → IsCallWithin items pool call → IsCallWithin items pool (at_position plan call)
placed_within plan items pool (calls.Seal context item) within (is, rest) = (position_is_number plan context within is, rest)
placed_within plan items pool (calls.Unseal context item) within (is, rest) = (position_is_number plan context within is, rest)
placed_within plan items pool (calls.UnsealAll context first count) within (is, some, few, there) = (position_is_number plan context within is, some, few, there)
placed_within plan items pool (calls.Export context exporter size) within (is, bytes, short) = (position_is_number plan context within is, bytes, short)
placed_within plan items pool (calls.Add name) within is = is
placed_within plan items pool (calls.Retire name) within is = is

either_within : (plan : Plan) (items pool : ℕ) (call : CallLine) (b : Bool) → IsWithinLimits plan → IsCallWithin items pool call
    → IsCallWithin items pool (if b then at_position plan call else call)
either_within plan items pool call true within is = placed_within plan items pool call within is
either_within plan items pool call false within is = is

placed_items : (plan : Plan) (call : CallLine) → items_of (at_position plan call) ≡ items_of call
placed_items plan (calls.Seal context item) = refl
placed_items plan (calls.Unseal context item) = refl
placed_items plan (calls.UnsealAll context first count) = refl
placed_items plan (calls.Export context exporter size) = refl
placed_items plan (calls.Add name) = refl
placed_items plan (calls.Retire name) = refl

placed_size : (plan : Plan) (call : CallLine) → size_of (at_position plan call) ≡ size_of call
placed_size plan (calls.Seal context item) = refl
placed_size plan (calls.Unseal context item) = refl
placed_size plan (calls.UnsealAll context first count) = refl
placed_size plan (calls.Export context exporter size) = refl
placed_size plan (calls.Add name) = refl
placed_size plan (calls.Retire name) = refl

placed_text : (plan : Plan) (items : List Item) (call : CallLine) → text_size items (at_position plan call) ≡ text_size items call
placed_text plan items (calls.Seal context item) = refl
placed_text plan items (calls.Unseal context item) = refl
placed_text plan items (calls.UnsealAll context first count) = refl
placed_text plan items (calls.Export context exporter size) = refl
placed_text plan items (calls.Add name) = refl
placed_text plan items (calls.Retire name) = refl

-- ---- all calls

module _ (plan : Plan) (notes : List Entry) where
  -- the calls of a lane as they were served, from this number on
  abbrev pub own : ℕ → ℕ → List CallLine → List CallLine
  own lane number lines = numbered (looked_up plan notes lane) number lines

  module _ (f : CallLine → ℕ) (same : (call : CallLine) → f (at_position plan call) ≡ f call) where
    either_same : (call : CallLine) (b : Bool) → f (if b then at_position plan call else call) ≡ f call
    either_same call true = same call
    either_same call false = refl

    own_sum : (lane number : ℕ) (lines : List CallLine) → sum_by f (own lane number lines) ≡ sum_by f lines
    own_sum lane number [] = refl
    own_sum lane number (call ∷ lines) =
        sum_by-cons f (looked_up plan notes lane number call) (own lane (number + 1) lines)
        ∙ (λ i. either_same call (nat_lt (context_of call) first_name || was_live notes (place lane number 0)) i + own_sum lane (number + 1) lines i)
        ∙ sym (sum_by-cons f call lines)

    all_sum : (lane : ℕ) (lanes : List (List CallLine)) → sum_by (λ lines. sum_by f lines) (numbered (λ l lines. own l 0 lines) lane lanes) ≡ sum_by (λ lines. sum_by f lines) lanes
    all_sum lane [] = refl
    all_sum lane (lines ∷ lanes) =
        sum_by-cons (λ ls. sum_by f ls) (own lane 0 lines) (numbered (λ l ls. own l 0 ls) (lane + 1) lanes)
        ∙ (λ i. own_sum lane 0 lines i + all_sum (lane + 1) lanes i)
        ∙ sym (sum_by-cons (λ ls. sum_by f ls) lines lanes)

  module _ (within : IsWithinLimits plan) where
    abbrev Is : CallLine → Type 0
    Is call = IsCallWithin (length plan.items) (length plan.pool) call

    own_within : (lane number : ℕ) (lines : List CallLine) → All Is lines → All Is (own lane number lines)
    own_within lane number [] all = All-nil Is
    own_within lane number (call ∷ lines) all =
        All-cons Is (looked_up plan notes lane number call) (own lane (number + 1) lines)
        (either_within plan (length plan.items) (length plan.pool) call (nat_lt (context_of call) first_name || was_live notes (place lane number 0)) within (All-head Is call lines all))
        (own_within lane (number + 1) lines (All-tail Is call lines all))

    lanes_within : (lane : ℕ) (lanes : List (List CallLine)) → All (All Is) lanes → All (All Is) (numbered (λ l lines. own l 0 lines) lane lanes)
    lanes_within lane [] all = All-nil (All Is)
    lanes_within lane (lines ∷ lanes) all =
        All-cons (All Is) (own lane 0 lines) (numbered (λ l ls. own l 0 ls) (lane + 1) lanes)
        (own_within lane 0 lines (All-head (All Is) lines lanes all))
        (lanes_within (lane + 1) lanes (All-tail (All Is) lines lanes all))

    -- as many lanes
    pub looked_lanes : length (looked_up_plan plan notes).lanes ≡ length plan.lanes
    looked_lanes = length-numbered (λ l lines. own l 0 lines) 0 plan.lanes

    pub looked_within : IsWithinLimits (looked_up_plan plan notes)
    looked_within = record {
      version = within.version;
      pool = within.pool;
      keys = within.keys;
      contexts = within.contexts;
      added = within.added;
      lanes = omega (arith, looked_lanes, within.lanes);
      items = omega (arith, all_sum items_of (placed_items plan) 0 plan.lanes, within.items);
      exported = omega (arith, all_sum size_of (placed_size plan) 0 plan.lanes, within.exported);
      texts = omega (arith, all_sum (text_size plan.items) (placed_text plan plan.items) 0 plan.lanes, within.texts);
      key_lines = within.key_lines;
      context_lines = within.context_lines;
      item_count = within.item_count;
      item_list = within.item_list;
      call_lines = lanes_within 0 plan.lanes within.call_lines;
    }
