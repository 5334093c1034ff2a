-- What a plan keeps whose lanes add and retire contexts.
use Rattle.std.specs.Prelude.{◌≡◌, ℕ, List, [], ◌∷◌, drop, All}
use Rattle.std.specs.List.{flat_map, range_with_len}
use Rattle.batch_plans.specs.declared.plan.Plan.{Plan}
use Rattle.batch_plans.specs.declared.plan.ContextKind.{ContextKind}
use Rattle.batch_plans.specs.declared.plan.ContextKind.TheVariants as kinds
use Rattle.batch_plans.specs.declared.plan.ContextLine.{ContextLine}
use Rattle.batch_plans.specs.declared.plan.CallLine.{CallLine}
use Rattle.batch_plans.specs.declared.plan.CallLine.TheVariants.{Add}
use Rattle.batch_plans.specs.Names.{line_count}

-- the contexts that are added
abbrev pub added_contexts : Plan → List ContextLine
added_contexts plan = drop (line_count plan) plan.contexts

abbrev pub IsShare : ContextKind → Type 0
IsShare (kinds.Share role kem secret) = Unit {0}
IsShare (kinds.Send key) = ⊥
IsShare (kinds.Recv key enc) = ⊥

-- the name that a call adds, if it adds one
abbrev pub name_added : CallLine → List ℕ
name_added (Add name) = name ∷ []
name_added call = []

-- the names that the calls of all lanes add, in the order of the text
abbrev pub names_added : List (List CallLine) → List ℕ
names_added lanes = flat_map (flat_map name_added) lanes

-- each context that is added has its secret in its line, and one line adds it: the names are the
-- numbers from 0 on, in the order of the text
pub record IsLive (plan : Plan) : Type 0 where
  pub version : plan.version ≡ 2
  pub shared : All (λ context. IsShare context.kind) (added_contexts plan)
  pub named : names_added plan.lanes ≡ range_with_len 0 plan.added
