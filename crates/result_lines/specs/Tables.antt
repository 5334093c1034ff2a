-- The table of a result whose lanes add and retire contexts, a format of this program's own. Its notes
-- say which calls found their contexts, and so which lines the calls have: they are read before all
-- else.
use Rattle.std.specs.Prelude.{ℕ, ◌==◌, Bool, List, [], ◌∷◌, map, take, Option, Some, None, Result, Ok, Err, codes, slice_get, slice_index_or, if◌then◌else◌}
use Rattle.std.specs.Str.{bytes_eq}
use Rattle.call_places.specs.declared.entries.Act.TheVariants.{Look}
use Rattle.call_places.specs.declared.entries.Entry.{Entry}
use Rattle.call_places.specs.Notes.{note_entry}
use Rattle.hpke_context.specs.Contexts.{ContextView}
use Rattle.field_text.specs.declared.reasons.Reason.{Reason}
use Rattle.field_text.specs.Cuts.{lines_of, pieces_of}
use Rattle.field_text.specs.Fields.{◌>>=◌, next, exactly, number}
use Rattle.context_books.specs.Batches.{place}
use Rattle.batch_plans.specs.declared.plan.Plan.{Plan}
use Rattle.context_books.specs.Live.{Noting, noting_in}
use Rattle.result_lines.specs.declared.stamps.Stamps.TheVariants.{PlacesAndNotes}
use Rattle.result_lines.specs.declared.tables.NoteLine.{NoteLine}
use Rattle.result_lines.specs.Forms.{coordinate, stamp_in}

-- ---- the line of a note

-- BIT: 1 where the name was live
abbrev pub live_in : List (List ℕ) → Result (Bool × List (List ℕ)) Reason
live_in pieces = do
  (bit, pieces) ← next (number 0 1) pieces
  Ok (bit == 1, pieces)

-- `LANE CALL BIT STAMP`
unfoldable pub note_in : List (List ℕ) → Result NoteLine Reason
note_in pieces = do
  pieces ← exactly 4 pieces
  (lane, pieces) ← coordinate pieces
  (call, pieces) ← coordinate pieces
  (live, pieces) ← live_in pieces
  (stamp, pieces) ← stamp_in PlacesAndNotes pieces
  Ok (record { lane = lane; call = call; live = live; stamp = stamp })

abbrev pub note_of_line : List ℕ → Result NoteLine Reason
note_of_line line = note_in (pieces_of line)

-- ---- the lines of a table

-- the parts of a text behind its first line `table`
abbrev pub behind_table : List (List ℕ) → List (List ℕ)
behind_table [] = []
behind_table (line ∷ more) = if bytes_eq line (codes "table") then more else behind_table more

-- a note, and what follows it; another line ends the table
abbrev pub note_before : Result NoteLine Reason → List NoteLine → List NoteLine
note_before (Err reason) more = []
note_before (Ok note) more = note ∷ more

-- as many lines as have the form of a note; what follows the last line feed is no line
abbrev pub notes_from : List (List ℕ) → List NoteLine
notes_from [] = []
notes_from (part ∷ []) = []
notes_from (line ∷ next ∷ more) = note_before (note_of_line line) (notes_from (next ∷ more))

abbrev pub notes_behind : List ℕ → List NoteLine
notes_behind text = notes_from (behind_table (lines_of text))

-- there are no more notes than stamps
abbrev pub most_notes : ℕ
most_notes = 131072

-- the notes of a text, or the first of them where there are too many
abbrev pub notes_told : List ℕ → List NoteLine
notes_told text = take most_notes (notes_behind text)

-- ---- what is noted

-- The note of a call: the line gives the place, the stamp and whether the name was live, the call the
-- name and what it does there. A call that has no note is told as a look for name 0.
abbrev pub entry_by : Option Noting → NoteLine → Entry
entry_by (Some n) note =
    note_entry (place note.lane note.call 0) note.stamp n.name n.act note.live
entry_by None note = note_entry (place note.lane note.call 0) note.stamp 0 Look note.live

-- what a call of the plan has a note for
abbrev pub noting_at : Plan → List (Option ContextView) → ℕ → ℕ → Option Noting
noting_at plan standing lane call =
    noting_in plan standing (slice_get (slice_index_or plan.lanes lane []) call)

abbrev pub entry_of : Plan → List (Option ContextView) → NoteLine → Entry
entry_of plan standing note = entry_by (noting_at plan standing note.lane note.call) note

-- the table that a text tells as a result of the plan, over these contexts that stand
abbrev pub table_told : Plan → List (Option ContextView) → List ℕ → List Entry
table_told plan standing text = map (entry_of plan standing) (notes_told text)
