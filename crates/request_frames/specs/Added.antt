-- What lines add that add and retire contexts while lanes are served. No line of a batch does; they
-- are for a grammar that has them besides, and whose calls name such contexts.
use Rattle.std.specs.Prelude.{ℕ, ◌+◌, List, [], ◌∷◌, ◌++◌, length, Result}
use Rattle.field_text.specs.declared.reasons.Reason.{Reason}
use Rattle.field_text.specs.Fields.{◌>>=◌, next, exactly}
use Rattle.batch_plans.specs.declared.plan.Plan.{Plan}
use Rattle.batch_plans.specs.declared.plan.CallLine.TheVariants.{Add, Retire}
use Rattle.batch_plans.specs.Limits.{most_contexts}
use Rattle.request_frames.specs.KeyForms.{at_most}
use Rattle.request_frames.specs.Forms.{share, name}
use Rattle.request_frames.specs.Batch.{counted}

-- `add` and the fields of `share`: a context behind all others. Its name is the next number
unfoldable pub with_added : Plan → List (List ℕ) → Result Plan Reason
with_added plan pieces = do
  (context, pool) ← share plan.pool pieces
  count ← at_most most_contexts (length plan.contexts + 1)
  counted
      (record plan {
        pool = pool;
        contexts = plan.contexts ++ context ∷ [];
        added = plan.added + 1;
      })
      (Add plan.added)

-- `retire +K`
unfoldable pub with_retired : Plan → List (List ℕ) → Result Plan Reason
with_retired plan pieces = do
  pieces ← exactly 1 pieces
  (name, pieces) ← next name pieces
  counted plan (Retire name)
