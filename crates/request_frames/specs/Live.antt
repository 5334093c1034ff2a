-- The text of a batch whose lanes add, retire and call contexts while they are served. It has the
-- lines of a batch of version 2, whose calls may name contexts that lines add, and lines `add` and
-- `retire` besides. What each line adds to a plan is said in `Batch.antt` and `Added.antt`.
use Rattle.std.specs.Prelude.{◌≡◌, ℕ, nat_lt, Bool, true, List, length, codes, Result, Ok, Err, if◌then◌else◌}
use Rattle.std.specs.Str.{bytes_eq}
use Rattle.field_text.specs.declared.reasons.Reason.{Reason}
use Rattle.field_text.specs.declared.reasons.Reason.TheVariants as reasons
use Rattle.field_text.specs.declared.faults.BadBatch.{BadBatch}
use Rattle.field_text.specs.Fields.{◌>>=◌}
use Rattle.field_text.specs.Lines.{Grammar, bad, front, whole}
use Rattle.batch_plans.specs.declared.plan.Plan.{Plan}
use Rattle.batch_plans.specs.Limits.{most_input}
use Rattle.request_frames.specs.Words.{line_word}
use Rattle.request_frames.specs.Added.{with_added, with_retired}
use Rattle.request_frames.specs.Batch as batch
use Rattle.request_frames.specs.Batch.{empty_plan, ended}
use Rattle.request_frames.specs.declared.live_words.LiveWord.{LiveWord}
use Rattle.request_frames.specs.declared.live_words.LiveWord.TheVariants.{Batch, Add, Retire}

-- the first line
abbrev pub header : List ℕ → Result Plan Reason
header line =
    if bytes_eq line (codes "hpkebatch 2") then Ok (empty_plan 2) else Err reasons.Header

-- a word of a batch
abbrev pub batch_word : List ℕ → Result LiveWord Reason
batch_word piece = do
  word ← line_word 2 piece
  Ok (Batch word)

-- the word of a line
abbrev pub word : List ℕ → Result LiveWord Reason
word piece =
    if bytes_eq piece (codes "add") then Ok Add
    else if bytes_eq piece (codes "retire") then Ok Retire
    else batch_word piece

-- a line that adds or retires a context stands in a lane
abbrev pub may_stand : LiveWord → Plan → Bool
may_stand (Batch word) plan = batch.may_stand word plan
may_stand Add plan = nat_lt 0 (length plan.lanes)
may_stand Retire plan = nat_lt 0 (length plan.lanes)

-- a line of each word
abbrev pub with_line : Plan → LiveWord → List (List ℕ) → Result Plan Reason
with_line plan (Batch word) pieces = batch.with_line true plan word pieces
with_line plan Add pieces = with_added plan pieces
with_line plan Retire pieces = with_retired plan pieces

abbrev pub live_lines : Grammar Plan LiveWord
live_lines =
    record {
      header = header;
      word = λ plan piece. word piece;
      may_stand = may_stand;
      with_line = with_line;
    }

-- the plan of a text, or its first bad line and first reason
unfoldable pub live : List ℕ → Result Plan BadBatch
live text = whole (front live_lines most_input text)

-- the bytes are in the grammar, and this is their plan
abbrev pub Spells : List ℕ → Plan → Type 0
Spells text plan = live text ≡ Ok plan

-- the first bad line and its first reason
abbrev pub BadAt : List ℕ → ℕ → Reason → Type 0
BadAt text line reason = live text ≡ bad line reason

-- ---- such a batch at the front of a text

-- the plan at the front of a text and where it ends, or the first bad line and first reason
unfoldable pub front_live : List ℕ → Result (Plan × ℕ) BadBatch
front_live text = ended text (front live_lines most_input text)

-- the text begins with this many bytes in the grammar, and this is their plan
abbrev pub BeginsWith : List ℕ → Plan → ℕ → Type 0
BeginsWith text plan end = front_live text ≡ Ok (plan, end)

-- the first bad line up to `end`, and its first reason
abbrev pub FrontBadAt : List ℕ → ℕ → Reason → Type 0
FrontBadAt text line reason = front_live text ≡ bad line reason
