-- A text of lines: what it spells, or which line is the first bad one, with its first reason.
--
-- The text is cut at each line feed, and the lines are numbered from 1. The first line says what kind
-- of text it is. Each further finished line is judged after what the lines before it spell: its
-- word, its place, its form, its counts. The first line that has a reason decides. The text ends
-- with the line `end`.
use Rattle.std.specs.Prelude.{ℕ, ◌+◌, ◌==◌, nat_lt, Bool, true, false, List, [], ◌∷◌, length, Option, Some, None, codes, Result, Ok, Err, if◌then◌else◌}
use Rattle.std.specs.Str.{bytes_eq}
use Rattle.field_text.specs.declared.reasons.Reason.{Reason}
use Rattle.field_text.specs.declared.reasons.Reason.TheVariants as reasons
use Rattle.field_text.specs.declared.faults.BadBatch.{BadBatch}
use Rattle.field_text.specs.declared.lines.Next.{Next}
use Rattle.field_text.specs.declared.lines.Next.TheVariants.{More, Last}
use Rattle.field_text.specs.Cuts.{lines_of, pieces_of}
use Rattle.field_text.specs.Fields.{◌>>=◌, next, exactly}

-- The lines of a text, where P is what lines spell and W the first word of a line: what the first
-- line spells; which word a piece is, other than `end`, behind the lines so far; where a line of a
-- word may stand; what the line of a word and its further pieces adds.
pub record Grammar (P W : Type 0) : Type 0 where
  pub header : List ℕ → Result P Reason
  pub word : P → List ℕ → Result W Reason
  pub may_stand : W → P → Bool
  pub with_line : P → W → List (List ℕ) → Result P Reason

-- ---- one line

-- the first word of a line; none for `end`
abbrev pub line_word : {P W : Type 0} → Grammar P W → P → List ℕ → Result (Option W) Reason
line_word grammar plan piece =
    if bytes_eq piece (codes "end") then Ok None
    else (grammar.word plan piece >>= (λ word. Ok (Some word)))

-- lines may follow
abbrev pub more : {P : Type 0} → Result P Reason → Result (Next × P) Reason
more read = do
  plan ← read
  Ok (More, plan)

-- the plan with the line of this word, and whether lines may follow
abbrev pub with_word : {P W : Type 0}
    → Grammar P W → P → List (List ℕ) → Option W → Result (Next × P) Reason
with_word grammar plan pieces None = do
  pieces ← exactly 0 pieces
  Ok (Last, plan)
with_word grammar plan pieces (Some word) =
    if grammar.may_stand word plan then more (grammar.with_line plan word pieces)
    else Err reasons.Order

-- A finished line is judged by its word, its place and its form, in this order.
unfoldable pub line_after : {P W : Type 0}
    → Grammar P W → P → List ℕ → Result (Next × P) Reason
line_after grammar plan line = do
  (word, pieces) ← next (line_word grammar plan) (pieces_of line)
  with_word grammar plan pieces word

-- ---- all lines up to `end`

abbrev pub bad : {A : Type 0} → ℕ → Reason → Result A BadBatch
bad line reason = Err (record { line = line; reason = reason })

-- what the lines up to `end` spell, how many these are, and the lines behind them, of which the last is
-- unfinished
pub record FrontText (P : Type 0) : Type 0 where
  pub plan : P
  pub lines : ℕ
  pub rest : List (List ℕ)

-- after line n, which may have a reason: further lines, or the lines behind `end`
abbrev pub followed : {P : Type 0}
    → ℕ → List (List ℕ) → Result (Next × P) Reason → (P → Result (FrontText P) BadBatch)
    → Result (FrontText P) BadBatch
followed n rest (Err reason) further = bad n reason
followed n rest (Ok (More, plan)) further = further plan
followed n rest (Ok (Last, plan)) further =
    Ok (record { plan = plan; lines = n; rest = rest })

-- The lines from line n on, after a plan. The last part of a text is an unfinished line.
unfoldable pub judged : {P W : Type 0}
    → Grammar P W → ℕ → P → List (List ℕ) → Result (FrontText P) BadBatch
judged grammar n plan [] = bad n reasons.NoEnd
judged grammar n plan (line ∷ []) = bad n reasons.NoEnd
judged grammar n plan (line ∷ next ∷ more) =
    followed n (next ∷ more) (line_after grammar plan line)
    (λ plan. judged grammar (n + 1) plan (next ∷ more))

-- the lines behind the first one
abbrev pub started : {P W : Type 0}
    → Grammar P W → List (List ℕ) → Result P Reason → Result (FrontText P) BadBatch
started grammar more (Err reason) = bad 1 reason
started grammar more (Ok plan) = judged grammar 2 plan more

-- all lines
unfoldable pub headed : {P W : Type 0}
    → Grammar P W → List (List ℕ) → Result (FrontText P) BadBatch
headed grammar [] = bad 1 reasons.Header
headed grammar (line ∷ []) = bad 1 reasons.Header
headed grammar (line ∷ next ∷ more) = started grammar (next ∷ more) (grammar.header line)

-- a text of so many bytes at most, up to its line `end`
unfoldable pub front : {P W : Type 0}
    → Grammar P W → ℕ → List ℕ → Result (FrontText P) BadBatch
front grammar most text =
    if nat_lt most (length text) then bad 0 reasons.Size else headed grammar (lines_of text)

-- ---- the whole text

-- no byte: an unfinished line with nothing in it
abbrev pub is_nothing : List (List ℕ) → Bool
is_nothing [] = true
is_nothing (line ∷ []) = length line == 0
is_nothing (line ∷ next ∷ more) = false

-- behind the line `end` no byte may stand
abbrev pub whole : {P : Type 0} → Result (FrontText P) BadBatch → Result P BadBatch
whole (Err fault) = Err fault
whole (Ok front) =
    if is_nothing front.rest then Ok front.plan else bad (front.lines + 1) reasons.Trailing
