-- How many notes each lane may make in the table of names.
use Rattle.std.specs.Prelude.{ℕ, List, map, sum_by, Option, Some, None}
use Rattle.hpke_context.specs.Contexts.{ContextView}
use Rattle.batch_plans.specs.declared.plan.Plan.{Plan}
use Rattle.batch_plans.specs.declared.plan.CallLine.{CallLine}
use Rattle.context_books.specs.Live.{Noting, noting}

abbrev pub note_count : Option Noting → ℕ
note_count None = 0
note_count (Some noting) = 1

-- a call makes one note, or none
abbrev pub notes_of : Plan → List (Option ContextView) → CallLine → ℕ
notes_of plan contexts call = note_count (noting plan contexts call)

-- a lane makes those of its calls
abbrev pub note_quota : Plan → List (Option ContextView) → List CallLine → ℕ
note_quota plan contexts calls = sum_by (notes_of plan contexts) calls

abbrev pub note_quotas : Plan → List (Option ContextView) → List ℕ
note_quotas plan contexts = map (note_quota plan contexts) plan.lanes
