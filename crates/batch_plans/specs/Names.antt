-- Contexts that lanes add and retire while they are served. In a plan they stand behind those of the
-- context lines; a call names that of `add` line K by a number of its own.
use Rattle.std.specs.Prelude.{ℕ, ◌+◌, ◌-◌, nat_lt, length, map, if◌then◌else◌}
use Rattle.batch_plans.specs.declared.plan.Plan.{Plan}
use Rattle.batch_plans.specs.declared.plan.CallLine.{CallLine}
use Rattle.batch_plans.specs.declared.plan.CallLine.TheVariants.{Seal, Unseal, UnsealAll, Export}
use Rattle.batch_plans.specs.Limits.{first_name}

-- the context lines of a plan: all contexts but those that are added
abbrev pub line_count : Plan → ℕ
line_count plan = length plan.contexts - plan.added

-- Where the context that a call names stands among the plan's contexts: that of a context line at its
-- number, that of an `add` line behind all context lines. Where there is none, behind all contexts.
abbrev pub position : Plan → ℕ → ℕ
position plan number =
    if nat_lt number (line_count plan) then number
    else if nat_lt number first_name then number + plan.added
    else line_count plan + (number - first_name)

-- the call, with the place of its context as CTX
abbrev pub at_position : Plan → CallLine → CallLine
at_position plan (Seal context item) = Seal (position plan context) item
at_position plan (Unseal context item) = Unseal (position plan context) item
at_position plan (UnsealAll context first count) = UnsealAll (position plan context) first count
at_position plan (Export context exporter size) = Export (position plan context) exporter size
at_position plan call = call

-- the plan where each context that is named may be called
abbrev pub all_live : Plan → Plan
all_live plan = record plan { lanes = map (map (at_position plan)) plan.lanes }
