-- ---- for the proofs: the plan of the lines so far, as the code holds it
use Rattle.std.specs.Prelude.{◌≡◌, ℕ, ◌+◌, ◌≤◌, false, List, [], ◌∷◌, ◌++◌, length, vec_len, Result, Ok, if◌then◌else◌}
use Rattle.field_text.specs.declared.reasons.Reason.{Reason}
use Rattle.field_text.specs.Fields.{◌>>=◌}
use Rattle.batch_plans.specs.declared.plan.Plan.{Plan}
use Rattle.batch_plans.specs.declared.plan.CallLine.{CallLine}
use Rattle.request_frames.specs.KeyForms.{at_most}
use Rattle.request_frames.specs.declared.open_lanes.OpenLanes.{OpenLanes}
use Rattle.request_frames.specs.declared.draft.BatchDraft.{BatchDraft}
use Rattle.request_frames.specs.Batch.{add_call}
use Rattle.batch_plans.specs.Limits.{most_input, most_lanes, most_opening, most_items, most_exported, items_of, size_of, all_items, all_sizes}

-- ---- the lanes

-- the lanes, of which the last one is open
abbrev pub lanes_in : OpenLanes → List (List CallLine)
lanes_in l = if l.is_open then l.closed.items ++ l.calls.items ∷ [] else []

-- the counts that are kept are those of the lanes, and within their limits
pub record AreCounted (l : OpenLanes) : Type 0 where
  pub item_count : l.item_count ≡ all_items (lanes_in l)
  pub size_sum : l.size_sum ≡ all_sizes (lanes_in l)
  pub most_counted : l.item_count ≤ most_items
  pub most_sum : l.size_sum ≤ most_exported
  pub no_lane : l.is_open ≡ false → l.closed.items ≡ []
  pub no_call : l.is_open ≡ false → l.calls.items ≡ []

-- the lanes with a call more, as `counted` of Batch.antt has them
abbrev pub call_more : List (List CallLine) → CallLine → Result (List (List CallLine)) Reason
call_more lanes call = do
  items ← at_most most_opening (items_of call)
  items ← at_most most_items (all_items lanes + items_of call)
  sizes ← at_most most_exported (all_sizes lanes + size_of call)
  Ok (add_call lanes call)

-- the lanes with a lane more, as `with_lane` of Batch.antt has them
abbrev pub lane_more : List (List CallLine) → Result (List (List CallLine)) Reason
lane_more lanes = do
  count ← at_most most_lanes (length lanes + 1)
  Ok (lanes ++ [] ∷ [])

-- ---- the plan

abbrev pub plan_of : BatchDraft → Plan
plan_of d =
    record {
      version = d.version;
      seed = d.seed;
      pool = d.pool.items;
      keys = d.keys.items;
      contexts = d.contexts.items;
      items = d.items.items;
      lanes = lanes_in d.lanes;
      added = d.added;
    }

-- the bytes of its bytes fields
abbrev pub pool_size : BatchDraft → ℕ
pool_size d = vec_len d.pool

-- the counts that the draft keeps are those of its lanes, and within their limits, as its pool is
pub record IsKept (d : BatchDraft) : Type 0 where
  pub pool : vec_len d.pool ≤ most_input
  pub added : d.added ≤ vec_len d.contexts
  pub lanes : AreCounted d.lanes
  pub opened : vec_len d.items ≤ d.lanes.item_count
