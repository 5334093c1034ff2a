-- A plan stays within its limits as lines are added to it.
use Rattle.std.proofs.Common.{◌≡◌, ℕ, ◌⊎◌, ◌+◌, ◌<◌, ◌≤◌, List, [], ◌∷◌, ◌++◌, length, get_or, take, drop, sum_by, Option, Some, refl, ap, ◌∙◌, arith}
use Rattle.std.specs.List.{All}
use Rattle.std.proofs.lemmas.List.{length-append, take-append-le, drop-append-le, length-drop, drop_at, take_all}
use Rattle.std.proofs.lemmas.List.Elements.{All-nil, All-cons, All-head, All-tail, All-push, All-append}
use Rattle.std.proofs.lemmas.List.Sums.{sum_by-cons, sum_by_push}
use Rattle.call_places.specs.declared.spans.Item.{Item}
use Rattle.batch_plans.specs.declared.plan.Plan.{Plan}
use Rattle.batch_plans.specs.declared.plan.KeyLine.{KeyLine}
use Rattle.batch_plans.specs.declared.plan.KeySource.{KeySource}
use Rattle.batch_plans.specs.declared.plan.KeySource.TheVariants as sources
use Rattle.batch_plans.specs.KeyLines.{source_of}
use Rattle.batch_plans.specs.declared.plan.ContextKind.{ContextKind}
use Rattle.batch_plans.specs.declared.plan.ContextKind.TheVariants as kinds
use Rattle.batch_plans.specs.declared.plan.ContextLine.{ContextLine}
use Rattle.batch_plans.specs.declared.plan.CallLine.{CallLine}
use Rattle.batch_plans.specs.declared.plan.CallLine.TheVariants as calls
use Rattle.batch_plans.specs.Limits.{most_input, most_keys, most_contexts, most_lanes, most_items, most_exported, most_field, most_ciphertext, items_of, size_of, items_from, all_items, all_sizes}
use Rattle.batch_plans.specs.Within.{text_size, all_texts, IsItemWithin, IsSourceWithin, IsKeyWithin, IsKindWithin, IsContextWithin, IsCallWithin, IsWithinLimits, IsPlainCall, IsPlain}
use Rattle.request_frames.proofs.MoreLines.{field_grown, message_grown}
use Rattle.request_frames.specs.Batch.{add_call, empty_plan}

-- ---- one line, over a pool that is as long and items that are as many

item_grown : (most n m : ℕ) (item : Item) → n ≤ m → IsItemWithin most n item → IsItemWithin most m item
item_grown most n m item long h = record { aad = field_grown most_field n m item.aad long h.aad; text = field_grown most n m item.text long h.text }

source_grown : (seed : Option (List ℕ)) (n m : ℕ) (source : KeySource) → n ≤ m
    → IsSourceWithin seed n source → IsSourceWithin seed m source
source_grown seed n m sources.Generate long h = h
source_grown seed n m (sources.Secret bytes) long h = field_grown most_field n m bytes long h
source_grown seed n m (sources.Peer bytes) long h = field_grown most_field n m bytes long h

key_grown : (seed : Option (List ℕ)) (n m : ℕ) (key : KeyLine) → n ≤ m → IsKeyWithin seed n key → IsKeyWithin seed m key
key_grown seed n m key = source_grown seed n m (source_of key)

kind_grown : (seed : Option (List ℕ)) (n m : ℕ) (kind : ContextKind) → n ≤ m → IsKindWithin seed n kind → IsKindWithin seed m kind
kind_grown seed n m (kinds.Share role kem secret) long h = (h.0, field_grown most_field n m secret long h.1)
kind_grown seed n m (kinds.Send key) long h = h
kind_grown seed n m (kinds.Recv key enc) long h = (h.0, message_grown most_field n m enc long h.1)

context_grown : (seed : Option (List ℕ)) (n m : ℕ) (line : ContextLine) → n ≤ m → IsContextWithin seed n line → IsContextWithin seed m line
context_grown seed n m line long h = record {
  kind = kind_grown seed n m line.kind long h.kind;
  info = field_grown most_field n m line.info long h.info;
  psk = field_grown most_field n m line.psk long h.psk;
  psk_id = field_grown most_field n m line.psk_id long h.psk_id;
  limit_least = h.limit_least;
  limit_most = h.limit_most;
}

call_grown : (items more n m : ℕ) (call : CallLine) → items ≤ more → n ≤ m → IsCallWithin items n call → IsCallWithin more m call
call_grown items more n m (calls.Seal context item) many long h = (h.0, item_grown _ n m item long h.1)
call_grown items more n m (calls.Unseal context item) many long h = (h.0, item_grown _ n m item long h.1)
call_grown items more n m (calls.UnsealAll context first count) many long h = (h.0, h.1, h.2, omega (arith, h.3))
call_grown items more n m (calls.Export context exporter size) many long h = (h.0, field_grown most_field n m exporter long h.1, h.2)
call_grown items more n m call many long h = h

-- ---- sums over lanes

-- a call more in the last lane
pub sums_more : (f : CallLine → ℕ) (lanes : List (List CallLine)) (call : CallLine) → 0 < length lanes
    → sum_by (λ lane. sum_by f lane) (add_call lanes call) ≡ sum_by (λ lane. sum_by f lane) lanes + f call
sums_more f [] call some = absurd (omega arith)
sums_more f (lane ∷ []) call some =
    let all : List CallLine → ℕ = λ lane. sum_by f lane in
    omega (arith, sum_by-cons all (lane ++ call ∷ []) [], sum_by-cons all lane [], sum_by_push f lane call)
sums_more f (lane ∷ next ∷ more) call some =
    let all : List CallLine → ℕ = λ lane. sum_by f lane in
    omega (arith, sum_by-cons all lane (add_call (next ∷ more) call), sum_by-cons all lane (next ∷ more), sums_more f (next ∷ more) call (omega arith))

pub lanes_more : (lanes : List (List CallLine)) (call : CallLine) → length (add_call lanes call) ≡ length lanes
lanes_more [] call = refl
lanes_more (lane ∷ []) call = refl
lanes_more (lane ∷ next ∷ more) call = omega (arith, lanes_more (next ∷ more) call)

all_more : (P : CallLine → Type 0) (lanes : List (List CallLine)) (call : CallLine) → All (All P) lanes → P call → All (All P) (add_call lanes call)
all_more P [] call all here = all
all_more P (lane ∷ []) call all here = All-cons (All P) (lane ++ call ∷ []) [] (All-push P lane call (All-head (All P) lane [] all) here) (All-nil (All P))
all_more P (lane ∷ next ∷ more) call all here =
    All-cons (All P) lane (add_call (next ∷ more) call) (All-head (All P) lane (next ∷ more) all) (all_more P (next ∷ more) call (All-tail (All P) lane (next ∷ more) all) here)

sums_same : {A : Type 0} (P : A → Type 0) (f g : A → ℕ) (xs : List A) → All P xs → ((x : A) → P x → f x ≡ g x) → sum_by f xs ≡ sum_by g xs
sums_same P f g [] all same = refl
sums_same P f g (x ∷ xs) all same =
    omega (arith, sum_by-cons f x xs, sum_by-cons g x xs, same x (All-head P x xs all), sums_same P f g xs (All-tail P x xs all) same)

-- ---- items behind those of a plan

-- the items of earlier calls stay
pub items_stay : (items more : List Item) (first count : ℕ) → first + count ≤ length items → items_from (items ++ more) first count ≡ items_from items first count
items_stay items more first count within =
    ap (take count) (drop-append-le first items more (omega arith)) ∙ take-append-le count (drop first items) more (omega (arith, length-drop first items))

-- the items that a call adds are its own
pub items_own : (items more rest : List Item) → items_from ((items ++ more) ++ rest) (length items) (length more) ≡ more
items_own items more rest =
    items_stay (items ++ more) rest (length items) (length more) (omega (arith, length-append items more))
    ∙ ap (take (length more)) (drop_at items more (length items) refl)
    ∙ take_all (length more) more (omega arith)

text_same : (items more : List Item) (pool : ℕ) (call : CallLine) → IsCallWithin (length items) pool call → text_size (items ++ more) call ≡ text_size items call
text_same items more pool (calls.UnsealAll context first count) h = ap (sum_by (λ (item : Item). item.text.len)) (items_stay items more first count h.3)
text_same items more pool call h = refl

texts_same : (items more : List Item) (pool : ℕ) (lanes : List (List CallLine)) → All (All (IsCallWithin (length items) pool)) lanes
    → all_texts (items ++ more) lanes ≡ all_texts items lanes
texts_same items more pool lanes all =
    let fits : CallLine → Type 0 = IsCallWithin (length items) pool in
    sums_same (All fits) (λ lane. sum_by (text_size (items ++ more)) lane) (λ lane. sum_by (text_size items) lane) lanes all
    (λ lane here. sums_same fits (text_size (items ++ more)) (text_size items) lane here (text_same items more pool))

-- ---- plans

-- a plan within its limits, each of whose items is one of a call
pub record IsBuilt (plan : Plan) : Type 0 where
  pub limits : IsWithinLimits plan
  pub opened : length plan.items ≤ all_items plan.lanes

-- the plan of the first line alone
pub empty : (version : ℕ) → (version ≡ 1) ⊎ (version ≡ 2) → IsBuilt (empty_plan version)
empty version is = record {
  limits = record {
    version = is;
    pool = omega arith;
    keys = omega arith;
    contexts = omega arith;
    added = omega arith;
    lanes = omega arith;
    items = omega arith;
    exported = omega arith;
    texts = omega arith;
    key_lines = All-nil _;
    context_lines = All-nil _;
    item_count = omega arith;
    item_list = All-nil _;
    call_lines = All-nil _;
  };
  opened = omega arith;
}

-- with a longer pool
pub with_pool : (plan : Plan) (pool : List ℕ) → length plan.pool ≤ length pool → length pool ≤ most_input → IsBuilt plan → IsBuilt (record plan { pool = pool })
with_pool plan pool long small h = record {
  limits = record {
    version = h.limits.version;
    pool = small;
    keys = h.limits.keys;
    contexts = h.limits.contexts;
    added = h.limits.added;
    lanes = h.limits.lanes;
    items = h.limits.items;
    exported = h.limits.exported;
    texts = omega (arith, h.limits.texts);
    key_lines = λ k d lt. key_grown plan.seed (length plan.pool) (length pool) (get_or plan.keys k d) long (h.limits.key_lines k d lt);
    context_lines = λ k d lt. context_grown plan.seed (length plan.pool) (length pool) (get_or plan.contexts k d) long (h.limits.context_lines k d lt);
    item_count = h.limits.item_count;
    item_list = λ k d lt. item_grown most_ciphertext (length plan.pool) (length pool) (get_or plan.items k d) long (h.limits.item_list k d lt);
    call_lines = λ k d lt j e below.
        call_grown (length plan.items) (length plan.items) (length plan.pool) (length pool) (get_or (get_or plan.lanes k d) j e) (omega arith) long (h.limits.call_lines k d lt j e below);
  };
  opened = h.opened;
}

-- with this seed, these keys and these contexts, of which so many are added
with_set_up : (plan : Plan) (seed : Option (List ℕ)) (keys : List KeyLine) (contexts : List ContextLine) (added : ℕ) → length keys ≤ most_keys
    → length contexts ≤ most_contexts → added ≤ length contexts
    → All (IsKeyWithin seed (length plan.pool)) keys → All (IsContextWithin seed (length plan.pool)) contexts → IsBuilt plan
    → IsBuilt (record plan { seed = seed; keys = keys; contexts = contexts; added = added })
with_set_up plan seed keys contexts added few_keys few_contexts few_added key_lines context_lines h = record {
  limits = record {
    version = h.limits.version;
    pool = h.limits.pool;
    keys = few_keys;
    contexts = few_contexts;
    added = few_added;
    lanes = h.limits.lanes;
    items = h.limits.items;
    exported = h.limits.exported;
    texts = h.limits.texts;
    key_lines = key_lines;
    context_lines = context_lines;
    item_count = h.limits.item_count;
    item_list = h.limits.item_list;
    call_lines = h.limits.call_lines;
  };
  opened = h.opened;
}

-- with a seed, before the first key line and the first context line
pub with_seed : (plan : Plan) (seed : List ℕ) → length plan.keys ≡ 0 → length plan.contexts ≡ 0 → IsBuilt plan → IsBuilt (record plan { seed = Some seed })
with_seed plan seed no_key no_context h =
    with_set_up plan (Some seed) plan.keys plan.contexts plan.added h.limits.keys h.limits.contexts h.limits.added
    (λ k d lt. absurd (omega (arith, lt, no_key))) (λ k d lt. absurd (omega (arith, lt, no_context))) h

-- a key more
pub with_key : (plan : Plan) (key : KeyLine) → length plan.keys + 1 ≤ most_keys → IsKeyWithin plan.seed (length plan.pool) key → IsBuilt plan
    → IsBuilt (record plan { keys = plan.keys ++ key ∷ [] })
with_key plan key few within h =
    let keys = plan.keys ++ key ∷ [] in
    let lines : All (IsKeyWithin plan.seed (length plan.pool)) keys = All-push (IsKeyWithin plan.seed (length plan.pool)) plan.keys key h.limits.key_lines within in
    with_set_up plan plan.seed keys plan.contexts plan.added (omega (arith, few, length-append plan.keys (key ∷ []))) h.limits.contexts h.limits.added lines h.limits.context_lines h

-- a context more, so that so many are added
more_contexts : (plan : Plan) (line : ContextLine) (added : ℕ) → length plan.contexts + 1 ≤ most_contexts → added ≤ length plan.contexts + 1
    → IsContextWithin plan.seed (length plan.pool) line → IsBuilt plan → IsBuilt (record plan { contexts = plan.contexts ++ line ∷ []; added = added })
more_contexts plan line added few few_added within h =
    let contexts = plan.contexts ++ line ∷ [] in
    let count : length contexts ≡ length plan.contexts + 1 = omega (arith, length-append plan.contexts (line ∷ [])) in
    let lines : All (IsContextWithin plan.seed (length plan.pool)) contexts = All-push (IsContextWithin plan.seed (length plan.pool)) plan.contexts line h.limits.context_lines within in
    with_set_up plan plan.seed plan.keys contexts added h.limits.keys (omega (arith, few, count)) (omega (arith, few_added, count)) h.limits.key_lines lines h

-- a context line more
pub with_context : (plan : Plan) (line : ContextLine) → length plan.contexts + 1 ≤ most_contexts → IsContextWithin plan.seed (length plan.pool) line → IsBuilt plan
    → IsBuilt (record plan { contexts = plan.contexts ++ line ∷ [] })
with_context plan line few within h = more_contexts plan line plan.added few (omega (arith, h.limits.added)) within h

-- an added context more
pub with_added : (plan : Plan) (line : ContextLine) → length plan.contexts + 1 ≤ most_contexts → IsContextWithin plan.seed (length plan.pool) line → IsBuilt plan
    → IsBuilt (record plan { contexts = plan.contexts ++ line ∷ []; added = plan.added + 1 })
with_added plan line few within h = more_contexts plan line (plan.added + 1) few (omega (arith, h.limits.added)) within h

-- a lane more
pub with_lane : (plan : Plan) → length plan.lanes + 1 ≤ most_lanes → IsBuilt plan → IsBuilt (record plan { lanes = plan.lanes ++ [] ∷ [] })
with_lane plan few h =
    let sums : (f : CallLine → ℕ) → sum_by (λ lane. sum_by f lane) (plan.lanes ++ [] ∷ []) ≡ sum_by (λ lane. sum_by f lane) plan.lanes =
    λ f. omega (arith, sum_by_push (λ (lane : List CallLine). sum_by f lane) plan.lanes []) in
    let fits : CallLine → Type 0 = IsCallWithin (length plan.items) (length plan.pool) in
    record {
      limits = record {
        version = h.limits.version;
        pool = h.limits.pool;
        keys = h.limits.keys;
        contexts = h.limits.contexts;
        added = h.limits.added;
        lanes = omega (arith, few, length-append plan.lanes ([] ∷ []));
        items = omega (arith, sums items_of, h.limits.items);
        exported = omega (arith, sums size_of, h.limits.exported);
        texts = omega (arith, sums (text_size plan.items), h.limits.texts);
        key_lines = h.limits.key_lines;
        context_lines = h.limits.context_lines;
        item_count = h.limits.item_count;
        item_list = h.limits.item_list;
        call_lines = All-push (All fits) plan.lanes [] h.limits.call_lines (All-nil fits);
      };
      opened = omega (arith, sums items_of, h.opened);
    }

-- a call more, with these items
pub with_call : (plan : Plan) (more : List Item) (call : CallLine) → 0 < length plan.lanes → all_items plan.lanes + items_of call ≤ most_items
    → all_sizes plan.lanes + size_of call ≤ most_exported → all_texts plan.items plan.lanes + text_size (plan.items ++ more) call ≤ length plan.pool
    → length more ≤ items_of call → All (IsItemWithin most_ciphertext (length plan.pool)) more
    → IsCallWithin (length (plan.items ++ more)) (length plan.pool) call → IsBuilt plan
    → IsBuilt (record plan { items = plan.items ++ more; lanes = add_call plan.lanes call })
with_call plan more call some items sizes texts few new within h =
    let all = plan.items ++ more in
    let fits : CallLine → Type 0 = IsCallWithin (length all) (length plan.pool) in
    let longer : length plan.items ≤ length all = omega (arith, length-append plan.items more) in
    let before : All (All fits) plan.lanes =
    λ k d lt j e below.
    call_grown (length plan.items) (length all) (length plan.pool) (length plan.pool) (get_or (get_or plan.lanes k d) j e) longer (omega arith) (h.limits.call_lines k d lt j e below) in
    record {
      limits = record {
        version = h.limits.version;
        pool = h.limits.pool;
        keys = h.limits.keys;
        contexts = h.limits.contexts;
        added = h.limits.added;
        lanes = omega (arith, lanes_more plan.lanes call, h.limits.lanes);
        items = omega (arith, sums_more items_of plan.lanes call some, items);
        exported = omega (arith, sums_more size_of plan.lanes call some, sizes);
        texts = omega (arith, sums_more (text_size all) plan.lanes call some, texts_same plan.items more (length plan.pool) plan.lanes h.limits.call_lines, texts);
        key_lines = h.limits.key_lines;
        context_lines = h.limits.context_lines;
        item_count = omega (arith, h.opened, length-append plan.items more, few, items);
        item_list = All-append (IsItemWithin most_ciphertext (length plan.pool)) plan.items more h.limits.item_list new;
        call_lines = all_more fits plan.lanes call before within;
      };
      opened = omega (arith, sums_more items_of plan.lanes call some, h.opened, length-append plan.items more, few);
    }

-- ---- plans whose contexts stay

pub plain_empty : (version : ℕ) → IsPlain (empty_plan version)
plain_empty version = record { added = refl; calls = All-nil _ }

-- a lane more
pub plain_lane : (plan : Plan) → IsPlain plan → IsPlain (record plan { lanes = plan.lanes ++ [] ∷ [] })
plain_lane plan h = record { added = h.added; calls = All-push (All IsPlainCall) plan.lanes [] h.calls (All-nil IsPlainCall) }

-- a call more
pub plain_call : (plan : Plan) (pool : List ℕ) (items : List Item) (call : CallLine) → IsPlainCall call → IsPlain plan
    → IsPlain (record plan { pool = pool; items = items; lanes = add_call plan.lanes call })
plain_call plan pool items call is h = record { added = h.added; calls = all_more IsPlainCall plan.lanes call h.calls is }
