-- The text of a plan, line by line in the order of the format. A line's pieces are parted by single
-- spaces, and a line feed ends it. Numbers are decimal without leading zeros, bytes are lower-case
-- hex digits, `-` for none. A span names bytes of the plan's pool.
use Rattle.std.specs.Prelude.{ℕ, ◌-◌, nat_lt, if◌then◌else◌, List, [], ◌∷◌, ◌++◌, take, slice_get, Option, Some, None, codes, decimal}
use Rattle.std.specs.List.{flat_map}
use Rattle.call_places.specs.declared.spans.Item.{Item}
use Rattle.hkdf_labelled.specs.Suites.{kdf_id, aead_id}
use Rattle.key_schedule.specs.declared.modes.Role.{Role}
use Rattle.key_schedule.specs.declared.modes.Role.TheVariants.{Sender, Recipient}
use Rattle.key_schedule.specs.declared.modes.Mode.{Mode}
use Rattle.key_schedule.specs.declared.modes.Mode.TheVariants.{Base, Psk}
use Rattle.field_text.specs.Cuts.{line_text}
use Rattle.batch_plans.specs.declared.plan.ContextKind.{ContextKind}
use Rattle.batch_plans.specs.declared.plan.ContextKind.TheVariants.{Share, Send, Recv}
use Rattle.batch_plans.specs.declared.plan.ContextLine.{ContextLine}
use Rattle.batch_plans.specs.declared.plan.CallLine.{CallLine}
use Rattle.batch_plans.specs.declared.plan.CallLine.TheVariants.{Seal, Unseal, UnsealAll, Export, Add, Retire}
use Rattle.batch_plans.specs.declared.plan.Plan.{Plan}
use Rattle.batch_plans.specs.Limits.{first_name, items_from}
use Rattle.batch_plans.specs.Names.{line_count}
use Rattle.request_frames.specs.KeyText.{span_text, enc_text, seed_text, key_text}
use Rattle.request_frames.specs.LivePlans.{added_contexts}

-- ---- pieces

-- ROLE
abbrev pub role_word : Role → List ℕ
role_word Sender = codes "send"
role_word Recipient = codes "recv"

-- MODE
abbrev pub mode_word : Mode → List ℕ
mode_word Base = codes "base"
mode_word Psk = codes "psk"

-- `MODE INFO PSK PSKID LIMIT`
abbrev pub schedule_pieces : List ℕ → ContextLine → List (List ℕ)
schedule_pieces pool context =
    mode_word context.mode
    ∷ span_text pool context.info
    ∷ span_text pool context.psk
    ∷ span_text pool context.psk_id
    ∷ decimal context.limit
    ∷ []

-- of a context line of each kind, behind its word
abbrev pub context_fields : List ℕ → ContextLine → ContextKind → List (List ℕ)
context_fields pool context (Share role kem secret) =
    role_word role
    ∷ decimal kem
    ∷ decimal (kdf_id context.kdf)
    ∷ decimal (aead_id context.aead)
    ∷ span_text pool secret
    ∷ schedule_pieces pool context
context_fields pool context (Send key) =
    decimal (kdf_id context.kdf)
    ∷ decimal (aead_id context.aead)
    ∷ decimal key
    ∷ schedule_pieces pool context
context_fields pool context (Recv key enc) =
    decimal (kdf_id context.kdf)
    ∷ decimal (aead_id context.aead)
    ∷ decimal key
    ∷ enc_text pool enc
    ∷ schedule_pieces pool context

-- its word
abbrev pub kind_word : ContextKind → List ℕ
kind_word (Share role kem secret) = codes "share"
kind_word (Send key) = codes "send"
kind_word (Recv key enc) = codes "recv"

abbrev pub context_pieces : List ℕ → ContextLine → ContextKind → List (List ℕ)
context_pieces pool context kind = kind_word kind ∷ context_fields pool context kind

-- of the line that adds a context, `add` and the fields of `share`, where there is the context
abbrev pub added_pieces : List ℕ → Option ContextLine → List (List ℕ)
added_pieces pool None = []
added_pieces pool (Some context) = codes "add" ∷ context_fields pool context context.kind

-- CTX: the number of a context line, or `+` and that of an `add` line
abbrev pub ctx_text : ℕ → List ℕ
ctx_text context =
    if nat_lt context first_name then decimal context
    else codes "+" ++ decimal (context - first_name)

-- `AAD TEXT`
abbrev pub item_pieces : List ℕ → Item → List (List ℕ)
item_pieces pool item = span_text pool item.aad ∷ span_text pool item.text ∷ []

-- of a call line, in a plan with these items and these added contexts: `seal CTX AAD PT`,
-- `unseal CTX AAD CT`, `unsealall CTX AAD CT ..`, `export CTX BYTES LEN`, `add ..`, `retire +K`
abbrev pub call_pieces : List ℕ → List Item → List ContextLine → CallLine → List (List ℕ)
call_pieces pool items added (Seal context item) =
    codes "seal" ∷ ctx_text context ∷ item_pieces pool item
call_pieces pool items added (Unseal context item) =
    codes "unseal" ∷ ctx_text context ∷ item_pieces pool item
call_pieces pool items added (UnsealAll context first count) =
    codes "unsealall"
    ∷ ctx_text context
    ∷ flat_map (item_pieces pool) (items_from items first count)
call_pieces pool items added (Export context exporter size) =
    codes "export" ∷ ctx_text context ∷ span_text pool exporter ∷ decimal size ∷ []
call_pieces pool items added (Add name) = added_pieces pool (slice_get added name)
call_pieces pool items added (Retire name) = codes "retire" ∷ (codes "+" ++ decimal name) ∷ []

-- ---- lines

-- a context line
abbrev pub context_text : List ℕ → ContextLine → List ℕ
context_text pool context = line_text (context_pieces pool context context.kind)

-- a call line
abbrev pub call_text : List ℕ → List Item → List ContextLine → CallLine → List ℕ
call_text pool items added call = line_text (call_pieces pool items added call)

-- `lane` and the lines of its calls
abbrev pub lane_text : List ℕ → List Item → List ContextLine → List CallLine → List ℕ
lane_text pool items added calls =
    codes "lane\n" ++ flat_map (call_text pool items added) calls

-- The whole text. Contexts that are added have no context line; a batch adds none.
abbrev pub text_of : Plan → List ℕ
text_of plan =
    codes "hpkebatch "
    ++ decimal plan.version
    ++ codes "\n"
    ++ seed_text plan.seed
    ++ flat_map (key_text plan.pool) plan.keys
    ++ flat_map (context_text plan.pool) (take (line_count plan) plan.contexts)
    ++ flat_map (lane_text plan.pool plan.items (added_contexts plan)) plan.lanes
    ++ codes "end\n"
