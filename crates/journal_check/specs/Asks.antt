-- ---- for the proofs: what the calls of a plan ask, without the bytes
use Rattle.std.specs.Prelude.{ℕ, ◌+◌, ◌==◌, ◌<◌, ◌^◌, nat_lt, Bool, false, List, [], ◌∷◌, ◌++◌, length, map, replicate, slice_get, slice_index_or, Option, Some, None, if◌then◌else◌}
use Rattle.call_places.specs.declared.entries.Place.{Place}
use Rattle.call_places.specs.Messages.{SealedMessage}
use Rattle.hpke_context.specs.Contexts.{ContextView}
use Rattle.context_books.specs.Batches.{Ask, ToOpenAll, Batch, block, items_in, context_in}
use Rattle.batch_plans.specs.declared.plan.CallLine.{CallLine}
use Rattle.batch_plans.specs.declared.plan.CallLine.TheVariants as calls
use Rattle.batch_plans.specs.declared.replies.CallRefusal.{CallRefusal}
use Rattle.context_books.specs.Standing.{call_refusal}
use Rattle.journal_check.specs.declared.asks.Asked.{Asked}

-- the context that a call asks for an item or more, and for how many
abbrev pub items_asked : CallLine → Option (ℕ × ℕ)
items_asked (calls.Seal context item) = Some (context, 1)
items_asked (calls.Unseal context item) = Some (context, 1)
items_asked (calls.UnsealAll context first count) = Some (context, count)
items_asked (calls.Export context exporter size) = None
items_asked (calls.Add name) = None
items_asked (calls.Retire name) = None

-- a call that is refused asks nothing
abbrev pub asked_unless : Option CallRefusal → Option (ℕ × ℕ) → Option (ℕ × ℕ)
asked_unless None asked = asked
asked_unless (Some refusal) asked = None

abbrev pub asked_in : List (Option ContextView) → CallLine → Option (ℕ × ℕ)
asked_in contexts call = asked_unless (call_refusal contexts call) (items_asked call)

-- the places of a call on a context
abbrev pub places_asked : ℕ → ℕ → ℕ → Option (ℕ × ℕ) → List Place
places_asked context lane number None = []
places_asked context lane number (Some asked) =
    if asked.0 == context then block lane number 0 asked.1 else []

-- those of calls, from this number on
abbrev pub places_from : List (Option ContextView) → ℕ → ℕ → ℕ → List CallLine → List Place
places_from contexts context lane number [] = []
places_from contexts context lane number (call ∷ more) =
    places_asked context lane number (asked_in contexts call)
    ++ places_from contexts context lane (number + 1) more

-- ---- by how many items

-- how many items are asked of which context; where none are, the context says nothing
abbrev pub sized : Option (ℕ × ℕ) → Asked
sized None = record { context = 0; count = 0 }
sized (Some asked) = record { context = asked.0; count = asked.1 }

abbrev pub size_in : List (Option ContextView) → CallLine → Asked
size_in contexts call = sized (asked_in contexts call)

abbrev pub size_of : Ask → Asked
size_of ask = record { context = context_in ask; count = length (items_in ask) }

abbrev pub sizes_of : Batch → List (List Asked)
sizes_of batch = map (map size_of) batch

-- a message, whatever it is
abbrev pub no_message : SealedMessage
no_message = record { aad = []; ct = [] }

-- an ask of so many items, whatever they are
abbrev pub ask_from : Asked → Ask
ask_from asked = ToOpenAll asked.context (replicate asked.count no_message)

abbrev pub batch_from : List (List Asked) → Batch
batch_from sizes = map (map ask_from) sizes

-- an item of this number is followed by another one
abbrev pub more_by : Option Asked → ℕ → Bool
more_by None i = false
more_by (Some asked) i = nat_lt (i + 1) asked.count

abbrev pub goes_on_by : List (List Asked) → Place → Bool
goes_on_by sizes p = more_by (slice_get (slice_index_or sizes p.lane []) p.call) p.item

-- lanes and calls have numbers of 32 bits
pub record AreFew (sizes : List (List Asked)) : Type 0 where
  pub lanes : length sizes < 2 ^ 32
  pub calls : (lane : ℕ) → length (slice_index_or sizes lane []) < 2 ^ 32
