-- What stands once a lane is served of a plan whose lanes add and retire contexts: what it has seen of
-- each context and of the table, its replies, and its guesses. The calls are those of the plan that the
-- lane's own notes make (`looked_up_plan`), so what a lane of a plan shows whose contexts stay is said
-- of that plan.
use Rattle.std.specs.Prelude.{ℕ, ◌≡◌, ◌+◌, ◌<◌, Bool, List, [], ◌∷◌, ◌++◌, Contains, Option, Some, None, slice_get}
use Rattle.std.specs.List.{All}
use Rattle.call_places.specs.declared.entries.Entry.{Entry}
use Rattle.call_places.specs.declared.entries.Place.{Place}
use Rattle.call_places.specs.declared.entries.Step.TheVariants.{Note}
use Rattle.call_places.specs.Entries.{own}
use Rattle.turn_lock.specs.Passes.{PassView}
use Rattle.hpke_context.specs.Contexts.{ContextView}
use Rattle.context_books.specs.Batches.{place}
use Rattle.context_books.specs.Histories.{entry_places}
use Rattle.lane_workers.specs.Showing.{LaneShows, OpeningsShow, StampsInOrder}
use Rattle.batch_plans.specs.declared.plan.Plan.{Plan}
use Rattle.batch_plans.specs.declared.plan.CallLine.{CallLine}
use Rattle.batch_plans.specs.declared.plan.CallLine.TheVariants as calls
use Rattle.batch_plans.specs.declared.replies.ContextReply.{ContextReply}
use Rattle.batch_plans.specs.declared.replies.LaneAnswers.{LaneAnswers}
use Rattle.batch_plans.specs.Names.{line_count}
use Rattle.batch_plans.specs.Replies.{IsPrintable}
use Rattle.batch_plans.specs.ReplyText.{numbered, all_lines}
use Rattle.batch_plans.specs.AnswersText.{given_lines}
use Rattle.context_books.specs.Asks.{batch_of, cipher_at}
use Rattle.context_books.specs.Live.{Noting, noting, IsNoted, was_live, looked_up, looked_up_plan, add_line, retire_line}
use Rattle.context_books.specs.LaneCalls.{lane_calls}
use Rattle.lane_workers.specs.Served.{Told, told_lines, seen_of}

-- ---- the notes of a lane

abbrev pub note_place : ℕ → ℕ → Option Noting → List Place
note_place lane number None = []
note_place lane number (Some noting) = place lane number 0 ∷ []

-- the places of the notes that some calls of a lane make, from this number on
abbrev pub noted_from : Plan → List (Option ContextView) → ℕ → ℕ → List CallLine → List Place
noted_from plan standing lane number [] = []
noted_from plan standing lane number (call ∷ calls) =
    note_place lane number (noting plan standing call)
    ++ noted_from plan standing lane (number + 1) calls

-- the note says what the call at its place does
pub record NotesItsCall (plan : Plan) (standing : List (Option ContextView)) (e : Entry) : Type 0 where
  pub noting : Noting
  pub noted : IsNoted plan standing e.place noting
  pub live : Bool
  pub step : e.step ≡ Note noting.name noting.act live

-- A lane's stamps rise by call over its notes and its places, and a call's note stands before its places.
pub record NotesInOrder (lane : ℕ) (notes : List Entry) (seen : ℕ → List Entry) : Type 0 where
  pub rise : (e f : Entry) → Contains (own lane notes) e → Contains (own lane notes) f
      → e.place.call < f.place.call → e.stamp < f.stamp
  pub after : (c : ℕ) (e f : Entry) → Contains (own lane (seen c)) e → Contains (own lane notes) f
      → e.place.call < f.place.call → e.stamp < f.stamp
  pub before : (c : ℕ) (e f : Entry) → Contains (own lane notes) e → Contains (own lane (seen c)) f
      → e.place.call < f.place.call + 1 → e.stamp < f.stamp

-- ---- what a lane says of its calls

-- the lines of a call, by what its note told
abbrev pub live_told_lines : Plan → List ContextReply → List (Option ContextView) → List Entry → Told
    → ℕ → ℕ → CallLine → List (List ℕ)
live_told_lines plan replies standing notes told lane number (calls.Add name) =
    add_line (slice_get replies (line_count plan + name)) ∷ []
live_told_lines plan replies standing notes told lane number (calls.Retire name) =
    retire_line (was_live notes (place lane number 0)) ∷ []
live_told_lines plan replies standing notes told lane number call =
    told_lines (looked_up_plan plan notes) standing told lane number
    (looked_up plan notes lane number call)

-- ---- a lane

-- The lane was served: over the table and all contexts it shows what it told, and that is what its
-- answers say. `notes` is what it has seen of the table.
pub record LiveLaneIsServed (plan : Plan) (replies : List ContextReply)
    (standing : List (Option ContextView)) (lane : ℕ) (notes : List Entry)
    (passes : List (Option PassView)) (answers : LaneAnswers) : Type 0 where
  pub told : Told
  -- its own notes are those that its calls make, in order
  pub places : entry_places (own lane notes) ≡ noted_from plan standing lane 0 (lane_calls plan lane)
  pub acts : All (NotesItsCall plan standing) (own lane notes)
  -- its own entries on each context are its served items, in order, each answered at its number
  pub shows : (context : ℕ) → LaneShows (batch_of (looked_up_plan plan notes) standing) context
      (cipher_at standing context) lane told.replies (seen_of passes context)
  -- each opening of several messages stands in one block, and its guess and misses are what they say
  pub openings : OpeningsShow (batch_of (looked_up_plan plan notes) standing) (cipher_at standing) lane
      (seen_of passes) told.guesses told.misses
  -- its stamps rise over the table and all contexts, by call and by item
  pub in_order : StampsInOrder lane (seen_of passes)
  pub noted_in_order : NotesInOrder lane notes (seen_of passes)
  pub lines : given_lines (lane_calls plan lane) answers
      ≡ all_lines (numbered (live_told_lines plan replies standing notes told lane) 0
      (lane_calls plan lane))
  pub printable : IsPrintable answers
