-- The batch text: which bytes spell which plan, and which line of all other bytes is the first bad
-- one, with its first reason. How a text of lines is judged says `Lines.antt` of field_text; here
-- stands which lines there are, and what each adds to the plan of the lines before it.
use Rattle.std.specs.Prelude.{◌≡◌, ℕ, ◌+◌, ◌-◌, ◌==◌, ◌&&◌, ◌||◌, not, nat_lt, Bool, false, true, List, [], ◌∷◌, ◌++◌, length, Some, None, is_some, codes, Result, Ok, Err, if◌then◌else◌}
use Rattle.std.specs.List.{join_with_byte}
use Rattle.std.specs.Str.{bytes_eq}
use Rattle.field_text.specs.declared.reasons.Reason.{Reason}
use Rattle.field_text.specs.declared.reasons.Reason.TheVariants as reasons
use Rattle.field_text.specs.Cuts.{line_feed}
use Rattle.field_text.specs.Fields.{◌>>=◌, exactly}
use Rattle.field_text.specs.Lines.{Grammar, FrontText, bad, front, whole}
use Rattle.field_text.specs.declared.faults.BadBatch.{BadBatch}
use Rattle.field_text.specs.declared.faults.ReadBatchFault.{ReadBatchFault}
use Rattle.field_text.specs.declared.faults.ReadBatchFault.TheVariants as faults
use Rattle.batch_plans.specs.declared.plan.Plan.{Plan}
use Rattle.batch_plans.specs.declared.plan.CallLine.{CallLine}
use Rattle.batch_plans.specs.declared.plan.CallLine.TheVariants as calls
use Rattle.request_frames.specs.declared.key_words.KeyWord.{KeyWord}
use Rattle.request_frames.specs.KeyForms.{rand, key, at_most}
use Rattle.request_frames.specs.declared.words.LineWord.{LineWord}
use Rattle.request_frames.specs.declared.words.LineWord.TheVariants.{Rand, Key, Context, Lane, Call}
use Rattle.request_frames.specs.declared.words.ContextWord.{ContextWord}
use Rattle.request_frames.specs.declared.words.CallWord.{CallWord}
use Rattle.request_frames.specs.declared.words.CallWord.TheVariants.{Seal, Unseal, UnsealAll, Export}
use Rattle.request_frames.specs.Words.{line_word, draws}
use Rattle.request_frames.specs.Forms.{context, seal, unseal, unseal_all, export}
use Rattle.batch_plans.specs.Limits.{most_input, most_keys, most_contexts, most_lanes, most_opening, most_items, most_exported, items_of, size_of, all_items, all_sizes}

-- ---- order

-- a plan without a context line and a lane
abbrev pub takes_keys : Plan → Bool
takes_keys plan = (length plan.contexts == 0) && (length plan.lanes == 0)

-- a plan of the first line alone
abbrev pub is_bare : Plan → Bool
is_bare plan = not (is_some plan.seed) && (length plan.keys == 0) && takes_keys plan

-- where a line has its place: `rand` behind the first line, keys before the first context line and
-- the first lane, contexts before the first lane, calls in a lane
abbrev pub has_place : LineWord → Plan → Bool
has_place Rand plan = is_bare plan
has_place (Key word) plan = takes_keys plan
has_place (Context word) plan = length plan.lanes == 0
has_place Lane plan = true
has_place (Call word) plan = nat_lt 0 (length plan.lanes)

-- a line that draws from the seed stands only where there is one
abbrev pub may_stand : LineWord → Plan → Bool
may_stand word plan = has_place word plan && (not (draws word) || is_some plan.seed)

-- ---- what a line adds to the plan of the lines before it

-- a call at the end of the last lane
abbrev pub add_call : List (List CallLine) → CallLine → List (List CallLine)
add_call [] call = []
add_call (lane ∷ []) call = (lane ++ call ∷ []) ∷ []
add_call (lane ∷ next ∷ more) call = lane ∷ add_call (next ∷ more) call

-- any call, where the counts are within their limits with it
unfoldable pub counted : Plan → CallLine → Result Plan Reason
counted plan call = do
  items ← at_most most_opening (items_of call)
  items ← at_most most_items (all_items plan.lanes + items_of call)
  sizes ← at_most most_exported (all_sizes plan.lanes + size_of call)
  Ok (record plan { lanes = add_call plan.lanes call })

-- `rand ..`
unfoldable pub with_rand : Plan → List (List ℕ) → Result Plan Reason
with_rand plan pieces = do
  seed ← rand pieces
  Ok (record plan { seed = Some seed })

-- a key line
unfoldable pub with_key : Plan → KeyWord → List (List ℕ) → Result Plan Reason
with_key plan word pieces = do
  (key, pool) ← key word plan.pool pieces
  count ← at_most most_keys (length plan.keys + 1)
  Ok (record plan { pool = pool; keys = plan.keys ++ key ∷ [] })

-- a context line
unfoldable pub with_context : Plan → ContextWord → List (List ℕ) → Result Plan Reason
with_context plan word pieces = do
  (context, pool) ← context word plan.pool pieces
  count ← at_most most_contexts (length plan.contexts + 1)
  Ok (record plan { pool = pool; contexts = plan.contexts ++ context ∷ [] })

-- `lane`
unfoldable pub with_lane : Plan → List (List ℕ) → Result Plan Reason
with_lane plan pieces = do
  pieces ← exactly 0 pieces
  count ← at_most most_lanes (length plan.lanes + 1)
  Ok (record plan { lanes = plan.lanes ++ [] ∷ [] })

-- `seal ..`, `unseal ..`, `export ..`, or the like
unfoldable pub with_one : Plan → Result (CallLine × List ℕ) Reason → Result Plan Reason
with_one plan read = do
  (call, pool) ← read
  counted (record plan { pool = pool }) call

-- `unsealall ..`
unfoldable pub with_several : Bool → Plan → List (List ℕ) → Result Plan Reason
with_several names plan pieces = do
  (context, items, pool) ← unseal_all names plan.pool pieces
  counted (record plan { pool = pool; items = plan.items ++ items })
      (calls.UnsealAll context (length plan.items) (length items))

-- a call line
abbrev pub with_call : Bool → Plan → CallWord → List (List ℕ) → Result Plan Reason
with_call names plan Seal pieces = with_one plan (seal names plan.pool pieces)
with_call names plan Unseal pieces = with_one plan (unseal names plan.pool pieces)
with_call names plan UnsealAll pieces = with_several names plan pieces
with_call names plan Export pieces = with_one plan (export names plan.pool pieces)

-- a line of each word, in a text whose lanes add contexts or in one whose contexts stay
abbrev pub with_line : Bool → Plan → LineWord → List (List ℕ) → Result Plan Reason
with_line names plan Rand pieces = with_rand plan pieces
with_line names plan (Key word) pieces = with_key plan word pieces
with_line names plan (Context word) pieces = with_context plan word pieces
with_line names plan Lane pieces = with_lane plan pieces
with_line names plan (Call word) pieces = with_call names plan word pieces

-- ---- the whole text

-- the plan of the first line alone
abbrev pub empty_plan : ℕ → Plan
empty_plan version =
    record {
      version = version;
      seed = None;
      pool = [];
      keys = [];
      contexts = [];
      items = [];
      lanes = [];
      added = 0;
    }

-- the first line
abbrev pub header : List ℕ → Result Plan Reason
header line =
    if bytes_eq line (codes "hpkebatch 1") then Ok (empty_plan 1)
    else if bytes_eq line (codes "hpkebatch 2") then Ok (empty_plan 2)
    else Err reasons.Header

-- the lines of a batch, whose contexts stay
abbrev pub batch_lines : Grammar Plan LineWord
batch_lines =
    record {
      header = header;
      word = λ plan piece. line_word plan.version piece;
      may_stand = may_stand;
      with_line = with_line false;
    }

-- the plan of a text, or its first bad line and first reason
unfoldable pub batch : List ℕ → Result Plan BadBatch
batch text = whole (front batch_lines most_input text)

-- the bytes are in the grammar, and this is their plan
abbrev pub Spells : List ℕ → Plan → Type 0
Spells text plan = batch text ≡ Ok plan

-- the first bad line and its first reason
abbrev pub BadAt : List ℕ → ℕ → Reason → Type 0
BadAt text line reason = batch text ≡ bad line reason

-- ---- a batch at the front of a text

-- the plan of the lines up to `end`, and how many bytes these are
abbrev pub ended : List ℕ → Result (FrontText Plan) BadBatch → Result (Plan × ℕ) BadBatch
ended text (Err fault) = Err fault
ended text (Ok front) =
    Ok (front.plan, length text - length (join_with_byte line_feed front.rest))

-- the plan at the front of a text and where it ends, or the first bad line and first reason
unfoldable pub front_batch : List ℕ → Result (Plan × ℕ) BadBatch
front_batch text = ended text (front batch_lines most_input text)

-- the text begins with this many bytes in the grammar, and this is their plan
abbrev pub BeginsWith : List ℕ → Plan → ℕ → Type 0
BeginsWith text plan end = front_batch text ≡ Ok (plan, end)

-- the first bad line up to `end`, and its first reason
abbrev pub FrontBadAt : List ℕ → ℕ → Reason → Type 0
FrontBadAt text line reason = front_batch text ≡ bad line reason

-- ---- how `read_batch` and `read_front` answer

-- nothing, for the reason that this line has
abbrev pub refusal : {A : Type 0} → ℕ → Reason → Result A ReadBatchFault
refusal line reason = Err (faults.Bad (record { line = line; reason = reason }))

-- nothing, for want of memory
abbrev pub no_memory : {A : Type 0} → Result A ReadBatchFault
no_memory = Err faults.OutOfMemory
