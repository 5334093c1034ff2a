-- What stands once a lane is served: what it has seen of each context, its replies, and its guesses.
use Rattle.std.specs.Prelude.{ℕ, ◌≡◌, List, [], ◌++◌, Option, Some, None, slice_index_or}
use Rattle.call_places.specs.declared.entries.Entry.{Entry}
use Rattle.call_places.specs.declared.entries.Place.{Place}
use Rattle.turn_lock.specs.Passes.{PassView}
use Rattle.hpke_context.specs.Answers.{Answer}
use Rattle.hpke_context.specs.Contexts.{ContextView}
use Rattle.context_books.specs.Batches.{lane_of}
use Rattle.context_books.specs.Guesses.{guess_at}
use Rattle.lane_workers.specs.Showing.{LaneShows, OpeningsShow, StampsInOrder}
use Rattle.batch_plans.specs.declared.plan.Plan.{Plan}
use Rattle.batch_plans.specs.declared.plan.CallLine.{CallLine}
use Rattle.batch_plans.specs.declared.replies.LaneAnswers.{LaneAnswers}
use Rattle.batch_plans.specs.Replies.{IsPrintable}
use Rattle.batch_plans.specs.Lines.{batch_line}
use Rattle.batch_plans.specs.ReplyText.{numbered, all_lines}
use Rattle.batch_plans.specs.AnswersText.{answered_lines}
use Rattle.context_books.specs.Standing.{call_refusal}
use Rattle.context_books.specs.Asks.{batch_of, cipher_at}
use Rattle.context_books.specs.Runs.{answer_line, lines_of_items, guess_lines, lines_unless}

-- ---- what a lane says of its calls

-- the replies to its served items, and of each opening of several messages that is served the guess
-- and how many items it missed
pub record Told : Type 0 where
  pub replies : Place → Answer
  pub guesses : List ℕ
  pub misses : List ℕ

-- the line of the guess that an opening of several messages tells
abbrev pub told_guess : Plan → List (Option ContextView) → Told → ℕ → ℕ → ℕ → ℕ → List ℕ
told_guess plan contexts told lane number context n =
    let asks = lane_of (batch_of plan contexts) lane in
    batch_line (guess_at asks told.guesses number) (guess_at asks told.misses number)

-- the lines of a call that is served, by its lane and its number there
abbrev pub told_served : Plan → List (Option ContextView) → Told → ℕ → ℕ → CallLine → List (List ℕ)
told_served plan contexts told lane number call =
    lines_of_items (λ context p. answer_line (told.replies p)) plan contexts lane number call
    ++ guess_lines (told_guess plan contexts told) lane number call

abbrev pub told_lines : Plan → List (Option ContextView) → Told → ℕ → ℕ → CallLine → List (List ℕ)
told_lines plan contexts told lane number call =
    lines_unless (call_refusal contexts call) (told_served plan contexts told lane number call)

-- ---- a lane

-- what a pass has seen; where no context stands there is no pass
abbrev pub seen_by : Option PassView → List Entry
seen_by None = []
seen_by (Some pass) = pass.seen

-- what the lane of these passes has seen of a context
abbrev pub seen_of : List (Option PassView) → ℕ → List Entry
seen_of passes context = seen_by (slice_index_or passes context None)

-- The lane was served: over all contexts it shows what it told, and that is what its answers say.
pub record LaneIsServed (plan : Plan) (contexts : List (Option ContextView)) (lane : ℕ)
    (passes : List (Option PassView)) (answers : LaneAnswers) : Type 0 where
  pub told : Told
  -- its own entries on each context are its served items, in order, each answered at its number
  pub shows : (context : ℕ) → LaneShows (batch_of plan contexts) context (cipher_at contexts context)
      lane told.replies (seen_of passes context)
  -- each opening of several messages stands in one block, and its guess and misses are what they say
  pub openings : OpeningsShow (batch_of plan contexts) (cipher_at contexts) lane (seen_of passes)
      told.guesses told.misses
  -- its stamps rise over all contexts, by call and by item
  pub in_order : StampsInOrder lane (seen_of passes)
  pub lines : answered_lines (slice_index_or plan.lanes lane []) answers
      ≡ all_lines (numbered (told_lines plan contexts told lane) 0 (slice_index_or plan.lanes lane []))
  pub printable : IsPrintable answers
