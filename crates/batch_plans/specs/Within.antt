-- What every plan that is read keeps: its counts, and the numbers and spans of its lines. Sizes are in
-- bytes.
use Rattle.std.specs.Prelude.{ℕ, ◌≡◌, ◌⊎◌, ◌+◌, ◌*◌, ◌<◌, ◌≤◌, ◌^◌, List, length, sum_by, All, Option, IsSome}
use Rattle.call_places.specs.declared.spans.Span.{Span}
use Rattle.call_places.specs.declared.spans.Item.{Item}
use Rattle.call_places.specs.Spans.{IsInPool}
use Rattle.batch_plans.specs.declared.plan.Plan.{Plan}
use Rattle.batch_plans.specs.declared.plan.KeyLine.{KeyLine}
use Rattle.batch_plans.specs.declared.plan.KeySource.{KeySource}
use Rattle.batch_plans.specs.declared.plan.KeySource.TheVariants as sources
use Rattle.batch_plans.specs.KeyLines.{source_of}
use Rattle.batch_plans.specs.declared.plan.EncField.{EncField}
use Rattle.batch_plans.specs.declared.plan.EncField.TheVariants as encs
use Rattle.batch_plans.specs.declared.plan.ContextKind.{ContextKind}
use Rattle.batch_plans.specs.declared.plan.ContextKind.TheVariants as kinds
use Rattle.batch_plans.specs.declared.plan.ContextLine.{ContextLine}
use Rattle.batch_plans.specs.declared.plan.CallLine.{CallLine}
use Rattle.batch_plans.specs.declared.plan.CallLine.TheVariants as calls
use Rattle.batch_plans.specs.Calls.{context_of}
use Rattle.batch_plans.specs.Limits.{all_items, all_sizes, first_name, items_from, most_ciphertext, most_contexts, most_exported, most_field, most_input, most_items, most_keys, most_lanes, most_opening, most_plaintext}

-- ---- sizes of texts

-- the size of a call's PT or CT; of an opening of several messages, of all its CT
abbrev pub text_size : List Item → CallLine → ℕ
text_size items (calls.Seal context item) = item.text.len
text_size items (calls.Unseal context item) = item.text.len
text_size items (calls.UnsealAll context first count) =
    sum_by (λ item. item.text.len) (items_from items first count)
text_size items call = 0

-- the sizes of the PT and CT of all lanes
abbrev pub all_texts : List Item → List (List CallLine) → ℕ
all_texts items lanes = sum_by (λ lane. sum_by (text_size items) lane) lanes

-- ---- what every plan keeps

-- a bytes field of a line: bytes of a pool of this length, and no more than its limit
pub record IsField (most pool : ℕ) (span : Span) : Type 0 where
  pub in_pool : IsInPool pool span
  pub size : span.len ≤ most

-- AAD, and a text with a limit of its own
pub record IsItemWithin (most pool : ℕ) (item : Item) : Type 0 where
  pub aad : IsField most_field pool item.aad
  pub text : IsField most pool item.text

-- where a key comes from, over a pool of this length; a pair is made from a seed
abbrev pub IsSourceWithin : Option (List ℕ) → ℕ → KeySource → Type 0
IsSourceWithin seed pool sources.Generate = IsSome seed
IsSourceWithin seed pool (sources.Secret bytes) = IsField most_field pool bytes
IsSourceWithin seed pool (sources.Peer bytes) = IsField most_field pool bytes

-- a key line over a pool of this length
abbrev pub IsKeyWithin : Option (List ℕ) → ℕ → KeyLine → Type 0
IsKeyWithin seed pool line = IsSourceWithin seed pool (source_of line)

-- ENC over a pool of this length
abbrev pub IsEncWithin : ℕ → EncField → Type 0
IsEncWithin pool (encs.Bytes bytes) = IsField most_field pool bytes
IsEncWithin pool (encs.Of number) = number ≤ 65535

-- each kind of context, over a pool of this length; an encapsulation is made from a seed
abbrev pub IsKindWithin : Option (List ℕ) → ℕ → ContextKind → Type 0
IsKindWithin seed pool (kinds.Share role kem secret) =
    (kem < 2 ^ 16) × IsField most_field pool secret
IsKindWithin seed pool (kinds.Send key) = (key ≤ 65535) × IsSome seed
IsKindWithin seed pool (kinds.Recv key enc) = (key ≤ 65535) × IsEncWithin pool enc

-- a context line over a pool of this length
pub record IsContextWithin (seed : Option (List ℕ)) (pool : ℕ) (line : ContextLine) : Type 0 where
  pub kind : IsKindWithin seed pool line.kind
  pub info : IsField most_field pool line.info
  pub psk : IsField most_field pool line.psk
  pub psk_id : IsField most_field pool line.psk_id
  pub limit_least : 1 ≤ line.limit
  pub limit_most : line.limit < 2 ^ 64

-- CTX, or `+K`
abbrev pub IsNumber : ℕ → Type 0
IsNumber context = context < 2 * first_name

-- a call line over so many items and a pool of this length; the K of one that adds or retires a
-- context
abbrev pub IsCallWithin : ℕ → ℕ → CallLine → Type 0
IsCallWithin items pool (calls.Seal context item) =
    IsNumber context × IsItemWithin most_plaintext pool item
IsCallWithin items pool (calls.Unseal context item) =
    IsNumber context × IsItemWithin most_ciphertext pool item
IsCallWithin items pool (calls.UnsealAll context first count) =
    IsNumber context × (1 ≤ count) × (count ≤ most_opening) × (first + count ≤ items)
IsCallWithin items pool (calls.Export context exporter size) =
    IsNumber context × IsField most_field pool exporter × (size ≤ 65535)
IsCallWithin items pool call = context_of call < first_name

-- the counts of a plan, and each of its lines. The texts of its calls share no byte of the pool
pub record IsWithinLimits (plan : Plan) : Type 0 where
  pub version : (plan.version ≡ 1) ⊎ (plan.version ≡ 2)
  pub pool : length plan.pool ≤ most_input
  pub keys : length plan.keys ≤ most_keys
  pub contexts : length plan.contexts ≤ most_contexts
  pub added : plan.added ≤ length plan.contexts
  pub lanes : length plan.lanes ≤ most_lanes
  pub items : all_items plan.lanes ≤ most_items
  pub exported : all_sizes plan.lanes ≤ most_exported
  pub texts : all_texts plan.items plan.lanes ≤ length plan.pool
  pub key_lines : All (IsKeyWithin plan.seed (length plan.pool)) plan.keys
  pub context_lines : All (IsContextWithin plan.seed (length plan.pool)) plan.contexts
  pub item_count : length plan.items ≤ most_items
  pub item_list : All (IsItemWithin most_ciphertext (length plan.pool)) plan.items
  pub call_lines : All (All (IsCallWithin (length plan.items) (length plan.pool))) plan.lanes

-- ---- what a plan keeps whose contexts stay

-- a call on the context of a context line
abbrev pub IsPlainCall : CallLine → Type 0
IsPlainCall (calls.Add name) = ⊥
IsPlainCall (calls.Retire name) = ⊥
IsPlainCall call = context_of call < first_name

-- no line adds or retires a context, and no call names one that is added
pub record IsPlain (plan : Plan) : Type 0 where
  pub added : plan.added ≡ 0
  pub calls : All (All IsPlainCall) plan.lanes
