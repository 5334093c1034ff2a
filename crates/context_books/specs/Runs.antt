-- The reply that a plan is due: the lines of its calls, each item answered at its place in the
-- journal of its context as the sequential context answers there (RFC 9180, 5.2), and the journals.
use Rattle.std.specs.Prelude.{ℕ, ◌≡◌, ◌<◌, Bool, true, false, List, [], ◌∷◌, ◌++◌, length, map, Option, Some, None, slice_index_or, codes}
use Rattle.std.specs.List.{concat}
use Rattle.call_places.specs.Spans.{span_bytes}
use Rattle.call_places.specs.declared.entries.Mark.{Mark}
use Rattle.call_places.specs.declared.entries.Place.{Place}
use Rattle.hpke_context.specs.Answers.{Answer, Sealed_at, Opened_at, Failed_at, At_limit}
use Rattle.hpke_context.specs.Contexts.{ContextView, exported_by}
use Rattle.context_books.specs.Batches.{Batch, lane_of, block, place}
use Rattle.context_books.specs.Legal.{Legal, reply_of}
use Rattle.context_books.specs.Guesses.{AllGuessed, guess_at, missed_in}
use Rattle.context_books.specs.Histories.{LegalHistory, marks_at, places}
use Rattle.batch_plans.specs.declared.plan.Plan.{Plan}
use Rattle.batch_plans.specs.declared.plan.CallLine.{CallLine}
use Rattle.batch_plans.specs.declared.plan.CallLine.TheVariants as calls
use Rattle.batch_plans.specs.declared.replies.KeyReply.{KeyReply}
use Rattle.batch_plans.specs.declared.replies.ContextReply.{ContextReply}
use Rattle.batch_plans.specs.declared.replies.CallRefusal.{CallRefusal}
use Rattle.batch_plans.specs.Lines.{served_line, failed_line, limit_line, exported_line, refused_line, batch_line}
use Rattle.batch_plans.specs.ReplyText.{all_lines, numbered, reply_lines, has_stamps}
use Rattle.context_books.specs.Standing.{standing_at, call_refusal}
use Rattle.context_books.specs.Asks.{batch_of, cipher_at}

-- what a reply depends on: the plan with the contexts that stand, their journals, and the guesses
-- that each lane kept, one for each of its openings of several messages that was served
pub record Run : Type 0 where
  pub plan : Plan
  pub contexts : List (Option ContextView)
  pub journals : List (List Mark)
  pub guesses : List (List ℕ)

-- the run of a plan along these journals, with these guesses
abbrev pub run_along : Plan → List (Option ContextView) → List (List Mark) → List (List ℕ) → Run
run_along plan contexts journals guesses =
    record { plan = plan; contexts = contexts; journals = journals; guesses = guesses }

-- what its calls ask
abbrev pub asks_of : Run → Batch
asks_of run = batch_of run.plan run.contexts

-- the places of a context's journal
abbrev pub journal_of : Run → ℕ → List Place
journal_of run context = places (marks_at run.journals context)

abbrev pub guesses_of : Run → ℕ → List ℕ
guesses_of run lane = slice_index_or run.guesses lane []

-- ---- the lines of a call

abbrev pub answer_line : Answer → List ℕ
answer_line (Sealed_at number ct) = served_line (codes "sealed ") number ct
answer_line (Opened_at number text) = served_line (codes "opened ") number text
answer_line (Failed_at number) = failed_line number
answer_line At_limit = limit_line

-- a place that stands in no journal has no reply
abbrev pub answer_line_of : Option Answer → List ℕ
answer_line_of None = []
answer_line_of (Some a) = answer_line a

-- the line of a place: its reply in the journal of its context
abbrev pub place_line : Run → ℕ → Place → List ℕ
place_line run context p =
    answer_line_of
    (reply_of (asks_of run) (cipher_at run.contexts context) (journal_of run context) p)

-- what the opening of n messages guessed, and how many of them it missed
abbrev pub guessed_line : Run → ℕ → ℕ → ℕ → ℕ → List ℕ
guessed_line run lane number context n =
    let guess = guess_at (lane_of (asks_of run) lane) (guesses_of run lane) number in
    batch_line guess (missed_in (asks_of run) (cipher_at run.contexts context)
    (journal_of run context) lane number n guess)

-- the line of an export (RFC 9180, 5.3)
abbrev pub export_line : Option ContextView → List ℕ → ℕ → List ℕ
export_line None exporter_context size = []
export_line (Some context) exporter_context size =
    exported_line (exported_by context exporter_context size)

-- the lines of a call's items, by its lane and its number there, where `line` gives that of a place on
-- a context
abbrev pub lines_of_items : (ℕ → Place → List ℕ) → Plan → List (Option ContextView) → ℕ → ℕ
    → CallLine → List (List ℕ)
lines_of_items line plan contexts lane number (calls.Seal context item) =
    line context (place lane number 0) ∷ []
lines_of_items line plan contexts lane number (calls.Unseal context item) =
    line context (place lane number 0) ∷ []
lines_of_items line plan contexts lane number (calls.UnsealAll context first count) =
    map (line context) (block lane number 0 count)
lines_of_items line plan contexts lane number (calls.Export context exporter size) =
    export_line (standing_at contexts context) (span_bytes plan.pool exporter) size ∷ []
lines_of_items line plan contexts lane number call = []

-- those that are due
abbrev pub item_lines : Run → ℕ → ℕ → CallLine → List (List ℕ)
item_lines run = lines_of_items (place_line run) run.plan run.contexts

-- an opening of several messages has the line of its guess behind them
abbrev pub guess_lines : (ℕ → ℕ → ℕ → ℕ → List ℕ) → ℕ → ℕ → CallLine → List (List ℕ)
guess_lines line lane number (calls.UnsealAll context first count) =
    line lane number context count ∷ []
guess_lines line lane number call = []

-- the lines of a call that is served
abbrev pub served_lines : Run → ℕ → ℕ → CallLine → List (List ℕ)
served_lines run lane number call =
    item_lines run lane number call ++ guess_lines (guessed_line run) lane number call

-- a call that is refused has one line
abbrev pub lines_unless : Option CallRefusal → List (List ℕ) → List (List ℕ)
lines_unless None lines = lines
lines_unless (Some refusal) lines = refused_line refusal ∷ []

abbrev pub call_lines : Run → ℕ → ℕ → CallLine → List (List ℕ)
call_lines run lane number call =
    lines_unless (call_refusal run.contexts call) (served_lines run lane number call)

-- those of all calls of a lane
abbrev pub lane_call_lines : Run → ℕ → List CallLine → List (List ℕ)
lane_call_lines run lane calls = all_lines (numbered (call_lines run lane) 0 calls)

-- ---- the whole reply

-- the lines of the reply, where these are the replies to the key lines and the context lines
abbrev pub run_lines : List KeyReply → List ContextReply → Run → List (List ℕ)
run_lines keys contexts run =
    reply_lines run.plan.version keys contexts (numbered (lane_call_lines run) 0 run.plan.lanes)
    run.journals

abbrev pub run_text : List KeyReply → List ContextReply → Run → List ℕ
run_text keys contexts run = concat (run_lines keys contexts run)

-- ---- which journals and guesses there may be

-- in version 2 the stamps make one history of all journals; in version 1 each journal is by itself
abbrev pub LegalFor : Bool → Batch → List (List Mark) → Type 0
LegalFor true batch journals = LegalHistory batch journals
LegalFor false batch journals =
    (context : ℕ) → Legal batch context (places (marks_at journals context))

-- each context has its journal, each lane its guesses; the journals are legal, and each guess may
-- have been made
pub record IsAllowed (run : Run) : Type 0 where
  pub journals : length run.journals ≡ length run.plan.contexts
  pub lanes : length run.guesses ≡ length run.plan.lanes
  pub legal : LegalFor (has_stamps run.plan.version) (asks_of run) run.journals
  pub guessed : (lane : ℕ) → lane < length run.plan.lanes
      → AllGuessed (asks_of run) (cipher_at run.contexts) (journal_of run) lane
      (guesses_of run lane)
