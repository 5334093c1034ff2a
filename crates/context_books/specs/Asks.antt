-- What the calls of a plan ask of the contexts that stand (RFC 9180, 5.2). A call that is refused
-- asks nothing, nor does one that adds or retires a context, nor an export, which changes none.
use Rattle.std.specs.Prelude.{ℕ, List, [], map, false, Option, Some, None}
use Rattle.call_places.specs.Spans.{span_bytes}
use Rattle.call_places.specs.Messages.{sealed_messages}
use Rattle.hpke_context.specs.Answers.{Cipher}
use Rattle.hpke_context.specs.Contexts.{ContextView, cipher_of}
use Rattle.context_books.specs.Batches.{Ask, Nothing, ToSeal, ToOpen, ToOpenAll, Batch}
use Rattle.batch_plans.specs.declared.plan.Plan.{Plan}
use Rattle.batch_plans.specs.declared.plan.CallLine.{CallLine}
use Rattle.batch_plans.specs.declared.plan.CallLine.TheVariants.{Seal, Unseal, UnsealAll}
use Rattle.batch_plans.specs.declared.replies.CallRefusal.{CallRefusal}
use Rattle.batch_plans.specs.Limits.{items_from}
use Rattle.context_books.specs.Standing.{standing_at, call_refusal}

-- what a call asks that is served; its spans name bytes of the pool
abbrev pub asked_by : Plan → CallLine → Ask
asked_by plan (Seal context item) =
    ToSeal context (span_bytes plan.pool item.aad) (span_bytes plan.pool item.text)
asked_by plan (Unseal context item) =
    ToOpen context (span_bytes plan.pool item.aad) (span_bytes plan.pool item.text)
asked_by plan (UnsealAll context first count) =
    ToOpenAll context (sealed_messages plan.pool (items_from plan.items first count))
asked_by plan call = Nothing

abbrev pub ask_unless : Option CallRefusal → Ask → Ask
ask_unless None ask = ask
ask_unless (Some refusal) ask = Nothing

abbrev pub ask_of : Plan → List (Option ContextView) → CallLine → Ask
ask_of plan contexts call = ask_unless (call_refusal contexts call) (asked_by plan call)

-- what all calls of a plan ask
abbrev pub batch_of : Plan → List (Option ContextView) → Batch
batch_of plan contexts = map (map (ask_of plan contexts)) plan.lanes

-- ---- what the contexts can do

-- what no context can do: no place of a legal journal asks it
abbrev pub no_cipher : Cipher
no_cipher =
    record {
      limit = 0;
      sealed = λ n aad text. [];
      holds = λ n aad ct. false;
      clear = λ n aad ct. [];
    }

abbrev pub cipher_in : Option ContextView → Cipher
cipher_in None = no_cipher
cipher_in (Some context) = cipher_of context

-- what the context of this number can do
abbrev pub cipher_at : List (Option ContextView) → ℕ → Cipher
cipher_at contexts number = cipher_in (standing_at contexts number)
