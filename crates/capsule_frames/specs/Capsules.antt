-- A batch of capsules: which bytes spell which plan, and which line of all other bytes is the first
-- bad one, with its first reason. How a text of lines is judged says `Lines.antt` of field_text;
-- here stands which lines there are, and what each adds to the plan of the lines before it.
use Rattle.std.specs.Prelude.{◌≡◌, ℕ, ◌+◌, ◌==◌, ◌&&◌, ◌||◌, not, Bool, true, false, List, [], ◌∷◌, ◌++◌, length, count_by, Some, is_some, codes, Result, Ok, Err, if◌then◌else◌}
use Rattle.std.specs.Str.{bytes_eq}
use Rattle.field_text.specs.declared.reasons.Reason.{Reason}
use Rattle.field_text.specs.declared.reasons.Reason.TheVariants as reasons
use Rattle.field_text.specs.Fields.{◌>>=◌}
use Rattle.field_text.specs.Lines.{Grammar, bad, front, whole}
use Rattle.field_text.specs.declared.faults.BadBatch.{BadBatch}
use Rattle.batch_plans.specs.Limits.{most_input, most_keys}
use Rattle.request_frames.specs.declared.key_words.KeyWord.{KeyWord}
use Rattle.request_frames.specs.KeyForms.{rand, key, at_most}
use Rattle.request_frames.specs.Batch.{empty_plan}
use Rattle.capsule_frames.specs.declared.words.LineWord.{LineWord}
use Rattle.capsule_frames.specs.declared.words.LineWord.TheVariants.{Rand, Key, Capsule}
use Rattle.capsule_frames.specs.declared.words.CapsuleWord.{CapsuleWord}
use Rattle.capsule_frames.specs.declared.words.CapsuleWord.TheVariants as words
use Rattle.capsule_frames.specs.declared.lines.CapsuleLine.{CapsuleLine}
use Rattle.capsule_frames.specs.declared.lines.CapsuleLine.TheVariants as lines
use Rattle.capsule_frames.specs.declared.lines.CapsulePlan.{CapsulePlan}
use Rattle.capsule_frames.specs.Words.{line_word, draws}
use Rattle.capsule_frames.specs.Forms.{capsule}

-- ---- order

-- a plan of the first line alone
abbrev pub is_bare : CapsulePlan → Bool
is_bare p =
    not (is_some p.plan.seed) && (length p.plan.keys == 0) && (length p.lines == 0)

-- where a line has its place: `rand` behind the first line, keys before the first capsule line
abbrev pub has_place : LineWord → CapsulePlan → Bool
has_place Rand p = is_bare p
has_place (Key word) p = length p.lines == 0
has_place (Capsule word) p = true

-- a line that draws from the seed stands only where there is one
abbrev pub may_stand : LineWord → CapsulePlan → Bool
may_stand word p = has_place word p && (not (draws word) || is_some p.plan.seed)

-- ---- what a line adds to the plan of the lines before it

-- the lines of each kind
abbrev pub most_lines : ℕ
most_lines = 256

-- the lines of one kind
abbrev pub is_of : CapsuleWord → CapsuleLine → Bool
is_of words.Ask (lines.Ask key id kdf aead text) = true
is_of words.Answer (lines.Answer key id request nonce text) = true
is_of words.Take (lines.Take ask response) = true
is_of word other = false

abbrev pub count_of : CapsuleWord → List CapsuleLine → ℕ
count_of word ls = count_by (is_of word) ls

-- `rand ..`
unfoldable pub with_rand : CapsulePlan → List (List ℕ) → Result CapsulePlan Reason
with_rand p pieces = do
  seed ← rand pieces
  Ok (record p { plan = record p.plan { seed = Some seed } })

-- a key line
unfoldable pub with_key : CapsulePlan → KeyWord → List (List ℕ) → Result CapsulePlan Reason
with_key p word pieces = do
  (key, pool) ← key word p.plan.pool pieces
  count ← at_most most_keys (length p.plan.keys + 1)
  Ok (record p { plan = record p.plan { pool = pool; keys = p.plan.keys ++ key ∷ [] } })

-- a capsule line. Each kind is counted by itself
unfoldable pub with_capsule : CapsulePlan → CapsuleWord → List (List ℕ) → Result CapsulePlan Reason
with_capsule p word pieces = do
  (line, pool) ← capsule word p.plan.pool pieces
  count ← at_most most_lines (count_of word p.lines + 1)
  Ok (record { plan = record p.plan { pool = pool }; lines = p.lines ++ line ∷ [] })

-- a line of each word
abbrev pub with_line : CapsulePlan → LineWord → List (List ℕ) → Result CapsulePlan Reason
with_line p Rand pieces = with_rand p pieces
with_line p (Key word) pieces = with_key p word pieces
with_line p (Capsule word) pieces = with_capsule p word pieces

-- ---- the whole text

-- the plan of the first line alone: without contexts, items and lanes
abbrev pub empty : CapsulePlan
empty = record { plan = empty_plan 2; lines = [] }

-- the first line
abbrev pub header : List ℕ → Result CapsulePlan Reason
header line = if bytes_eq line (codes "hpkebatch 2") then Ok empty else Err reasons.Header

-- the lines of a batch of capsules
abbrev pub capsule_lines : Grammar CapsulePlan LineWord
capsule_lines =
    record {
      header = header;
      word = λ p piece. line_word piece;
      may_stand = may_stand;
      with_line = with_line;
    }

-- the plan of a text, or its first bad line and first reason
unfoldable pub capsules : List ℕ → Result CapsulePlan BadBatch
capsules text = whole (front capsule_lines most_input text)

-- the bytes are in the grammar, and this is their plan
abbrev pub Spells : List ℕ → CapsulePlan → Type 0
Spells text p = capsules text ≡ Ok p

-- the first bad line and its first reason
abbrev pub BadAt : List ℕ → ℕ → Reason → Type 0
BadAt text line reason = capsules text ≡ bad line reason
