-- How far a text of lines is read. It is cut at each line feed, and its lines are numbered from 1;
-- what follows the last line feed is no line. A step that needs a line of some form gives what the
-- line says, or else the number of the first line that is missing or of another form.
use Rattle.std.specs.Prelude.{ℕ, ◌+◌, List, [], ◌∷◌, ◌++◌, codes, Result, Ok, Err, if◌then◌else◌}
use Rattle.std.specs.Str.{bytes_eq}
use Rattle.call_places.specs.declared.entries.Mark.{Mark}
use Rattle.field_text.specs.declared.reasons.Reason.{Reason}
use Rattle.field_text.specs.Cuts.{lines_of}
use Rattle.batch_plans.specs.declared.replies.Batch.{Batch}
use Rattle.result_lines.specs.declared.stamps.Stamps.{Stamps}
use Rattle.result_lines.specs.Forms.{guess_of_line, mark_of_line}

-- one step after another, up to the first that finds a wrong line
infixl 10 ◌>>=◌
abbrev pub ◌>>=◌ : {A B : Type 0} → Result A ℕ → (A → Result B ℕ) → Result B ℕ
(Ok x) >>= next = next x
(Err line) >>= next = Err line

-- the number of the next line, and the parts of the text from it on: lines, and what is no line
pub record LinesView : Type 0 where
  pub number : ℕ
  pub parts : List (List ℕ)

abbrev pub all_of : List ℕ → LinesView
all_of text = record { number = 1; parts = lines_of text }

-- the next line, without its line feed, and the lines behind it
abbrev pub line_from : ℕ → List (List ℕ) → Result (List ℕ × LinesView) ℕ
line_from number [] = Err number
line_from number (part ∷ []) = Err number
line_from number (line ∷ next ∷ more) =
    Ok (line, record { number = number + 1; parts = next ∷ more })

abbrev pub next_line : LinesView → Result (List ℕ × LinesView) ℕ
next_line lines = line_from lines.number lines.parts

-- a line with its line feed
abbrev pub with_feed : List ℕ → List ℕ
with_feed line = line ++ codes "\n"

-- no line, and no byte
abbrev pub nothing_from : ℕ → List (List ℕ) → Result ℕ ℕ
nothing_from number [] = Ok number
nothing_from number ([] ∷ []) = Ok number
nothing_from number ((byte ∷ more) ∷ []) = Err number
nothing_from number (part ∷ next ∷ more) = Err number

abbrev pub ended : LinesView → Result ℕ ℕ
ended lines = nothing_from lines.number lines.parts

-- ---- lines of a form

-- just this line, which is given with its line feed
unfoldable pub line_due : List ℕ → LinesView → Result LinesView ℕ
line_due due lines = do
  (line, more) ← next_line lines
  if bytes_eq (with_feed line) due then Ok more else Err lines.number

abbrev pub with_lines : {A : Type 0} → ℕ → LinesView → Result A Reason → Result (A × LinesView) ℕ
with_lines number more (Err reason) = Err number
with_lines number more (Ok told) = Ok (told, more)

-- `batch G M`
unfoldable pub guess_from : LinesView → Result (Batch × LinesView) ℕ
guess_from lines = do
  (line, more) ← next_line lines
  with_lines lines.number more (guess_of_line line)

-- ---- the places of a journal

-- the places that were found, and the lines behind them
pub record MarksFound : Type 0 where
  pub marks : List Mark
  pub lines : LinesView

-- a line of a place, and what follows it; another line ends the journal
abbrev pub mark_before : Result Mark Reason → LinesView → MarksFound → MarksFound
mark_before (Err reason) lines more = record { marks = []; lines = lines }
mark_before (Ok mark) lines more = record more { marks = mark ∷ more.marks }

-- as many lines as have the form of a place
abbrev pub marks_from : Stamps → ℕ → List (List ℕ) → MarksFound
marks_from stamps number [] =
    record { marks = []; lines = record { number = number; parts = [] } }
marks_from stamps number (part ∷ []) =
    record { marks = []; lines = record { number = number; parts = part ∷ [] } }
marks_from stamps number (line ∷ next ∷ more) =
    mark_before (mark_of_line stamps line)
    (record { number = number; parts = line ∷ next ∷ more })
    (marks_from stamps (number + 1) (next ∷ more))

abbrev pub marks_of : Stamps → LinesView → MarksFound
marks_of stamps lines = marks_from stamps lines.number lines.parts
