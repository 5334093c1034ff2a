-- ---- for the proofs: a journal that is run through its context
use Rattle.std.specs.Prelude.{ℕ, ◌≡◌, ◌≤◌, ◌+◌, List, [], ◌∷◌, map, slice_get, slice_index_or, Option, Some, None}
use Rattle.call_places.specs.declared.entries.Place.{Place}
use Rattle.call_places.specs.declared.spans.Item.{Item}
use Rattle.call_places.specs.Spans.{span_bytes}
use Rattle.call_places.specs.declared.entries.Mark.{Mark}
use Rattle.hpke_context.specs.Answers as hpke
use Rattle.hpke_context.specs.Answers.{run}
use Rattle.hpke_context.specs.Contexts.{ContextView, cipher_of}
use Rattle.hpke_context.specs.Calls.{CanSeal, CanOpen}
use Rattle.context_books.specs.Entries.{numbers_from}
use Rattle.context_books.specs.Histories.{places, marks_at}
use Rattle.context_books.specs.Lists.{In}
use Rattle.batch_plans.specs.declared.plan.Plan.{Plan}
use Rattle.batch_plans.specs.declared.plan.CallLine.{CallLine}
use Rattle.batch_plans.specs.declared.plan.CallLine.TheVariants as calls
use Rattle.batch_plans.specs.Limits.{items_from, most_ciphertext}
use Rattle.batch_plans.specs.Within.{IsItemWithin}
use Rattle.context_books.specs.Standing.{standing_at}
use Rattle.context_books.specs.Runs.{answer_line}
use Rattle.journal_check.specs.declared.items.Asked.{Asked}
use Rattle.journal_check.specs.declared.runs.JournalRun.{JournalRun}
use Rattle.journal_check.specs.declared.items.Asked.TheVariants.{Seal, Open}

-- what a call asks, item by item
abbrev pub asks_in : List Item → CallLine → List Asked
asks_in items (calls.Seal context item) = Seal item ∷ []
asks_in items (calls.Unseal context item) = Open item ∷ []
asks_in items (calls.UnsealAll context first count) =
    map (λ (item : Item). Open item) (items_from items first count)
asks_in items (calls.Export context exporter size) = []
asks_in items (calls.Add name) = []
asks_in items (calls.Retire name) = []

abbrev pub asked_in_call : List Item → Option CallLine → ℕ → Option Asked
asked_in_call items None i = None
asked_in_call items (Some call) i = slice_get (asks_in items call) i

-- what a place asks
abbrev pub asked_at : Plan → Place → Option Asked
asked_at plan p =
    asked_in_call plan.items (slice_get (slice_index_or plan.lanes p.lane []) p.call) p.item

-- the same with the bytes
abbrev pub item_view : List ℕ → Asked → hpke.Item
item_view pool (Seal item) = hpke.Seal (span_bytes pool item.aad) (span_bytes pool item.text)
item_view pool (Open item) = hpke.Unseal (span_bytes pool item.aad) (span_bytes pool item.text)

abbrev pub asked_and : List ℕ → Option Asked → List hpke.Item → List hpke.Item
asked_and pool None items = items
asked_and pool (Some asked) items = item_view pool asked ∷ items

-- what places ask, in order
abbrev pub items_at : Plan → List Place → List hpke.Item
items_at plan [] = []
items_at plan (p ∷ ps) = asked_and plan.pool (asked_at plan p) (items_at plan ps)

-- the context's role and cipher are for this
abbrev pub CanDo : ContextView → Asked → Type 0
CanDo context (Seal item) = CanSeal context
CanDo context (Open item) = CanOpen context

-- what is asked lies in a pool of so many bytes
abbrev pub IsAskedIn : ℕ → Asked → Type 0
IsAskedIn size (Seal item) = IsItemWithin most_ciphertext size item
IsAskedIn size (Open item) = IsItemWithin most_ciphertext size item

-- a place asks something that the context can do
pub record IsFor (plan : Plan) (context : ContextView) (p : Place) : Type 0 where
  pub asked : Asked
  pub at : asked_at plan p ≡ Some asked
  pub can : CanDo context asked

-- the items that a call names are there
abbrev pub OpensWithin : ℕ → CallLine → Type 0
OpensWithin size (calls.Seal context item) = Unit {0}
OpensWithin size (calls.Unseal context item) = Unit {0}
OpensWithin size (calls.UnsealAll context first count) = first + count ≤ size
OpensWithin size (calls.Export context exporter size_of) = Unit {0}
OpensWithin size (calls.Add name) = Unit {0}
OpensWithin size (calls.Retire name) = Unit {0}

-- a journal was run through its context: the lines of its replies, and the numbers that were due
pub record IsRunOf (plan : Plan) (context : ContextView) (marks : List Mark) (done : JournalRun)
    : Type 0 where
  pub lines : done.lines.items
      ≡ map answer_line (run (cipher_of context) 0 (items_at plan (places marks)))
  pub numbers : done.numbers.items
      ≡ numbers_from (cipher_of context) 0 (items_at plan (places marks))

-- the same for each context that stands
abbrev pub AreRuns : Plan → List (Option ContextView) → List (List Mark) → List JournalRun → Type 0
AreRuns plan contexts journals runs =
    (number : ℕ) (context : ContextView) (done : JournalRun)
    → standing_at contexts number ≡ Some context → slice_get runs number ≡ Some done
    → IsRunOf plan context (marks_at journals number) done

-- each place of a journal asks something that its context can do
abbrev pub AreFor : Plan → List (Option ContextView) → List (List Mark) → Type 0
AreFor plan contexts journals =
    (number : ℕ) (context : ContextView) (m : Mark) → standing_at contexts number ≡ Some context
    → In m (marks_at journals number) → IsFor plan context m.place
