-- The calls of a lane, and the items that an opening names.
use Rattle.std.specs.Prelude.{ℕ, List, [], ◌∷◌, slice_index_or}
use Rattle.call_places.specs.declared.spans.Item.{Item}
use Rattle.batch_plans.specs.declared.plan.Plan.{Plan}
use Rattle.batch_plans.specs.declared.plan.CallLine.{CallLine}
use Rattle.batch_plans.specs.declared.plan.CallLine.TheVariants as calls
use Rattle.batch_plans.specs.Limits.{items_from}

abbrev pub lane_calls : Plan → ℕ → List CallLine
lane_calls plan lane = slice_index_or plan.lanes lane []

-- the items that an opening names
abbrev pub opening_items : Plan → CallLine → List Item
opening_items plan (calls.Unseal context item) = item ∷ []
opening_items plan (calls.UnsealAll context first count) = items_from plan.items first count
opening_items plan call = []

abbrev pub IsOpening : CallLine → Type 0
IsOpening (calls.Unseal context item) = Unit {0}
IsOpening (calls.UnsealAll context first count) = Unit {0}
IsOpening call = ⊥
