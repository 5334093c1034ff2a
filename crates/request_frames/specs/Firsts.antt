-- ---- for the proofs: an `unsealall` line of which no more items are kept than are counted
use Rattle.std.specs.Prelude.{ℕ, ◌+◌, Bool, List, [], ◌++◌, length, take, Result, Ok, Err}
use Rattle.call_places.specs.declared.spans.Item.{Item}
use Rattle.field_text.specs.declared.reasons.Reason.{Reason}
use Rattle.field_text.specs.Fields.{◌>>=◌, next}
use Rattle.batch_plans.specs.declared.plan.Plan.{Plan}
use Rattle.batch_plans.specs.declared.plan.CallLine.TheVariants as calls
use Rattle.batch_plans.specs.Limits.{most_opening}
use Rattle.request_frames.specs.Batch.{counted}
use Rattle.request_frames.specs.Forms.{ctx, pairs, one_and_pairs}

-- one item more than an opening may have, or all
abbrev pub first_items : Result (List Item × List ℕ) Reason → Result (List Item × List ℕ) Reason
first_items (Ok read) = Ok (take (most_opening + 1) read.0, read.1)
first_items (Err reason) = Err reason

-- `unsealall ..`, with its first items alone
unfoldable pub unseal_first : Bool
    → List ℕ → List (List ℕ) → Result (ℕ × List Item × List ℕ) Reason
unseal_first names pool pieces = do
  pieces ← one_and_pairs pieces
  (context, pieces) ← next (ctx names) pieces
  (items, pool) ← first_items (pairs pool [] pieces)
  Ok (context, items, pool)

-- the plan with that line
unfoldable pub with_first : Bool → Plan → List (List ℕ) → Result Plan Reason
with_first names plan pieces = do
  (context, items, pool) ← unseal_first names plan.pool pieces
  counted (record plan { pool = pool; items = plan.items ++ items })
      (calls.UnsealAll context (length plan.items) (length items))
