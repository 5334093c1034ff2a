-- How many entries the lanes may add to the books of the contexts.
use Rattle.std.specs.Prelude.{ℕ, List, length, map, sum_by, Option}
use Rattle.std.specs.List.{range_with_len}
use Rattle.hpke_context.specs.Contexts.{ContextView}
use Rattle.batch_plans.specs.declared.plan.Plan.{Plan}
use Rattle.batch_plans.specs.declared.plan.ContextLine.{ContextLine}
use Rattle.batch_plans.specs.declared.plan.CallLine.{CallLine}
use Rattle.batch_plans.specs.Room.{items_on}
use Rattle.context_books.specs.ContextLines.{export_limits}

-- how many items these calls of a lane ask of the context of this number
abbrev pub lane_quota : Plan → List (Option ContextView) → ℕ → List CallLine → ℕ
lane_quota plan contexts number calls =
    sum_by (items_on plan.contexts (export_limits contexts) number) calls

-- the quota of each lane on a context
abbrev pub quotas_on : Plan → List (Option ContextView) → ℕ → List ℕ
quotas_on plan contexts number = map (lane_quota plan contexts number) plan.lanes

-- and those on each context
abbrev pub all_quotas : Plan → List (Option ContextView) → List (List ℕ)
all_quotas plan contexts = map (quotas_on plan contexts) (range_with_len 0 (length contexts))

-- ---- for the proofs

-- how many items these calls ask of each context
abbrev pub counts_of : List ContextLine → List (Option ContextView) → List CallLine → List ℕ
counts_of lines contexts calls =
    map (λ number. sum_by (items_on lines (export_limits contexts) number) calls)
    (range_with_len 0 (length contexts))
