-- ---- for the proofs: how a lane is walked beside the journals
use Rattle.std.specs.Prelude.{ℕ, ◌≡◌, ◌<◌, List, ◌++◌, length, map, drop, slice_get, slice_index, slice_index_or, [], Option, Some, Result, Ok, Err}
use Rattle.call_places.specs.declared.entries.Mark.{Mark}
use Rattle.call_places.specs.declared.entries.Place.{Place}
use Rattle.hpke_context.specs.Contexts.{ContextView}
use Rattle.context_books.specs.Batches.{own_places}
use Rattle.context_books.specs.Histories.{marks_at, places}
use Rattle.batch_plans.specs.declared.plan.CallLine.{CallLine}
use Rattle.batch_plans.specs.Within.{IsCallWithin, IsWithinLimits}
use Rattle.context_books.specs.Standing.{standing_at}
use Rattle.context_books.specs.Runs.{Run, place_line, journal_of}
use Rattle.result_lines.specs.declared.told.GuessLine.{GuessLine}
use Rattle.result_lines.specs.Told.{ReplyView}
use Rattle.result_lines.specs.declared.stop.Stop.{Stop}
use Rattle.result_lines.specs.declared.stop.Stop.TheVariants.{OutOfMemory, Wrong}
use Rattle.journal_check.specs.declared.lane_walks.CheckedRun.{CheckedRun}
use Rattle.journal_check.specs.declared.lane_walks.Walk.{Walk}
use Rattle.journal_check.specs.declared.runs.JournalRun.{JournalRun}
use Rattle.journal_check.specs.Asks.{places_from}
use Rattle.journal_check.specs.Passing.{AreNumbersOf, AreLegal}
use Rattle.result_lines.specs.Replies.{wrong_reply}

-- replies were held against the lines that are due: they are those, or the first that isn't was found
abbrev pub Holds : List ReplyView → List ReplyView → List (List ℕ) → Result (Unit {0}) Stop
    → Type 0
Holds old new lines (Ok done) =
    (rest : List (List ℕ)) → wrong_reply old (lines ++ rest) ≡ wrong_reply new rest
Holds old new lines (Err OutOfMemory) = Unit {0}
Holds old new lines (Err (Wrong number)) =
    (rest : List (List ℕ)) → wrong_reply old (lines ++ rest) ≡ Some number

-- for each context a cursor into its journal: the lane's places from there on are those that these
-- calls ask for, the first of them its call of this number
abbrev pub Points : List (Option ContextView) → List (List Mark) → ℕ → ℕ → List CallLine
    → List ℕ → Type 0
Points contexts journals lane number calls cursors =
    (c : ℕ) → c < length journals
    → own_places lane (places (drop (slice_index cursors c) (marks_at journals c)))
    ≡ places_from contexts c lane number calls

-- the lines of each journal that was run are the replies of a run to its places
abbrev pub AreRepliesOf : Run → List JournalRun → Type 0
AreRepliesOf run runs = (c : ℕ) (context : ContextView) (done : JournalRun)
    → standing_at run.contexts c ≡ Some context → slice_get runs c ≡ Some done
    → done.lines.items ≡ map (place_line run c) (journal_of run c)

-- the places of each lane in each journal are those that it asks for
abbrev pub HaveLanes : Run → Type 0
HaveLanes run = (lane c : ℕ) → c < length run.journals
    → own_places lane (journal_of run c)
    ≡ places_from run.contexts c lane 0 (slice_index_or run.plan.lanes lane [])

-- each context was run along its journal, which is legal and has the places that the lanes ask for
pub record WasRun (run : Run) (runs : List JournalRun) : Type 0 where
  pub within : IsWithinLimits run.plan
  pub lanes_size : length run.guesses ≡ length run.plan.lanes
  pub contexts_size : length run.contexts ≡ length run.journals
  pub runs_size : length runs ≡ length run.journals
  pub legal : AreLegal run
  pub lines : AreRepliesOf run runs
  pub numbers : AreNumbersOf run runs
  pub own : HaveLanes run

-- ---- a run that is checked

abbrev pub run_in : CheckedRun → Run
run_in checked =
    record {
      plan = checked.plan.now;
      contexts = checked.contexts.now;
      journals = checked.journals.now;
      guesses = map (map (λ (told : GuessLine). told.guess.guess)) checked.guesses.now;
    }

abbrev pub IsRun : CheckedRun → Type 0
IsRun checked = WasRun (run_in checked) checked.runs.now

-- its plan may have this call
abbrev pub MayHave : CheckedRun → CallLine → Type 0
MayHave checked call =
    IsCallWithin (length checked.plan.now.items) (length checked.plan.now.pool) call

-- the context of this number stands
abbrev pub Stands : CheckedRun → ℕ → Type 0
Stands checked c = (context : ContextView) × (standing_at checked.contexts.now c ≡ Some context)

-- ---- a lane that is walked

abbrev pub calls_of : Walk → List CallLine
calls_of walk = slice_index_or walk.checked.plan.now.lanes walk.lane []

-- its places from the cursor of a context on
abbrev pub left_in : Walk → List ℕ → ℕ → List Place
left_in walk cursors c =
    own_places walk.lane (places (drop (slice_index cursors c) (marks_at walk.checked.journals.now c)))

-- where the cursors point
abbrev pub PointsTo : Walk → ℕ → List CallLine → List ℕ → Type 0
PointsTo walk number calls cursors =
    Points walk.checked.contexts.now walk.checked.journals.now walk.lane number calls cursors
