-- ---- for the proofs: how the numbers that were due along a lane are found beside the journals
use Rattle.std.specs.Prelude.{ℕ, ◌≡◌, ◌<◌, ◌==◌, ◌&&◌, nat_le, Bool, true, false, List, length, map, take, slice_get, slice_index, Option, Some, None}
use Rattle.call_places.specs.declared.entries.Mark.{Mark}
use Rattle.call_places.specs.declared.entries.Place.{Place}
use Rattle.hpke_context.specs.Contexts.{ContextView}
use Rattle.context_books.specs.Guesses.{missed, through}
use Rattle.context_books.specs.Histories.{marks_at, places}
use Rattle.context_books.specs.Legal.{Legal, number_of}
use Rattle.batch_plans.specs.declared.plan.CallLine.{CallLine}
use Rattle.batch_plans.specs.declared.plan.CallLine.TheVariants as calls
use Rattle.batch_plans.specs.declared.replies.Batch.{Batch}
use Rattle.batch_plans.specs.declared.replies.CallRefusal.{CallRefusal}
use Rattle.context_books.specs.Standing.{standing_at, call_refusal}
use Rattle.context_books.specs.Asks.{cipher_at}
use Rattle.context_books.specs.Runs.{Run, asks_of, journal_of}
use Rattle.journal_check.specs.declared.runs.JournalRun.{JournalRun}

-- a guess lies from this number to the first of those that were due, and missed so many of them
abbrev pub is_right_by : Batch → ℕ → List ℕ → Bool
is_right_by told least numbers =
    (nat_le least told.guess && nat_le told.guess (slice_index numbers 0))
    && (told.missed == missed told.guess 0 numbers)

-- a cursor into a journal stands just behind a place of the lane, or at the start
abbrev pub Reaches : ℕ → List Mark → ℕ → Type 0
Reaches lane marks cursor =
    through lane (take cursor (places marks)) ≡ take cursor (places marks)

-- the same for each context
abbrev pub AllReach : ℕ → List (List Mark) → List ℕ → Type 0
AllReach lane journals cursors = (c : ℕ) → c < length journals
    → Reaches lane (marks_at journals c) (slice_index cursors c)

-- the number that is due at a place of a context's journal
abbrev pub due_at : Run → ℕ → Place → ℕ
due_at run c = number_of (asks_of run) (cipher_at run.contexts c) (journal_of run c)

-- the numbers of each journal that was run are those that were due at its places
abbrev pub AreNumbersOf : Run → List JournalRun → Type 0
AreNumbersOf run runs = (c : ℕ) (context : ContextView) (done : JournalRun)
    → standing_at run.contexts c ≡ Some context → slice_get runs c ≡ Some done
    → done.numbers.items ≡ map (due_at run c) (journal_of run c)

-- the journal of each context that stands is legal
abbrev pub AreLegal : Run → Type 0
AreLegal run = (c : ℕ) (context : ContextView) → standing_at run.contexts c ≡ Some context
    → Legal (asks_of run) c (journal_of run c)

-- an opening of several messages that is served
abbrev pub opens_all : CallLine → Bool
opens_all (calls.Seal context item) = false
opens_all (calls.Unseal context item) = false
opens_all (calls.UnsealAll context first count) = true
opens_all (calls.Export context exporter size) = false
opens_all (calls.Add name) = false
opens_all (calls.Retire name) = false

abbrev pub opens_unless : Option CallRefusal → CallLine → Bool
opens_unless None call = opens_all call
opens_unless (Some refusal) call = false

abbrev pub is_opening : List (Option ContextView) → CallLine → Bool
is_opening contexts call = opens_unless (call_refusal contexts call) call
