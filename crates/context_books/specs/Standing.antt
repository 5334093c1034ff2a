-- The contexts of a plan's context lines, in their order: of each line its context, or None where
-- it was refused.
use Rattle.std.specs.Prelude.{ℕ, List, slice_index_or, Option, Some, None}
use Rattle.hpke_context.specs.Contexts.{ContextView, export_limit}
use Rattle.batch_plans.specs.Calls.{context_of, refusal_by}
use Rattle.batch_plans.specs.declared.plan.CallLine.{CallLine}
use Rattle.batch_plans.specs.declared.replies.CallRefusal.{CallRefusal}
use Rattle.batch_plans.specs.declared.replies.CallRefusal.TheVariants.{NoContext}

-- the context of this number, where there is one and it stands
abbrev pub standing_at : List (Option ContextView) → ℕ → Option ContextView
standing_at contexts number = slice_index_or contexts number None

-- ---- which calls are served

-- why a call on this context is refused, or that it is served
abbrev pub refusal_on : Option ContextView → CallLine → Option CallRefusal
refusal_on None call = Some NoContext
refusal_on (Some context) call =
    refusal_by context.role context.suite.aead (export_limit context) call

abbrev pub call_refusal : List (Option ContextView) → CallLine → Option CallRefusal
call_refusal contexts call = refusal_on (standing_at contexts (context_of call)) call
