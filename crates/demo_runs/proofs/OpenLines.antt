-- Lines that open ciphertexts.
use Rattle.std.proofs.Common.{◌≡◌, ℕ, suc, ◌+◌, ◌*◌, ◌%◌, ◌<◌, ◌≤◌, nat_le, nat_lt, true, false, List, [], ◌∷◌, ◌++◌, length, map, codes, Ok, refl, sym, ap, ◌∙◌, append_assoc, append-nil, length-append, arith}
use Rattle.std.specs.Prelude.{sum_by}
use Rattle.std.proofs.lemmas.List.Sums.{sum_by-cons}
use Rattle.std.specs.List.{flat_map}
use Rattle.std.proofs.lemmas.List.{drop_at, take_at}
use Rattle.std.proofs.lemmas.Bool.{le-leb, lt-ltb}
use Rattle.hex.specs.Hex.{encode_lower}
use Rattle.call_places.specs.declared.spans.Item.{Item}
use Rattle.call_places.specs.Spans.{span_bytes}
use Rattle.call_places.specs.Messages.{sealed_messages}
use Rattle.field_text.specs.Printing.{hex_text}
use Rattle.field_text.specs.Cuts.{lines_of, pieces_of}
use Rattle.field_text.specs.Fields.{next}
use Rattle.field_text.proofs.Spellings.{IsFront, IsFront-same, IsFront-then}
use Rattle.batch_plans.specs.declared.plan.Plan.{Plan}
use Rattle.batch_plans.specs.declared.plan.CallLine.{CallLine}
use Rattle.batch_plans.specs.declared.plan.CallLine.TheVariants.{UnsealAll}
use Rattle.batch_plans.specs.Limits.{most_ciphertext, items_of, size_of, items_from, all_items, all_sizes}
use Rattle.request_frames.specs.declared.words.LineWord.TheVariants.{Call}
use Rattle.request_frames.specs.declared.words.CallWord.TheVariants as words
use Rattle.request_frames.specs.Batch.{with_line, with_several, counted, add_call}
use Rattle.request_frames.specs.Forms.{item, pairs, unseal_all}
use Rattle.request_frames.proofs.Growth.{sums_more, items_own, items_stay}
use Rattle.demo_runs.specs.Texts.{item_text, opening_line}
use Rattle.demo_runs.specs.Plans.{BeginsAs, message, OpensThese, OpenAll, none, and_more}
use Rattle.demo_runs.specs.SetUp.{infos, span}
use Rattle.demo_runs.specs.Ciphertexts.{IsCiphertext, AreCiphertexts}
use Rattle.demo_runs.proofs.HexFields.{no_feed, no_space, cut_on, cut_behind, hex_is, field}
use Rattle.demo_runs.proofs.Steps.{Reads, reads_nothing, reads_on, reads_line, line_is}

-- ---- ciphertexts

digits : (ct : List ℕ) → IsCiphertext ct → hex_text ct ≡ encode_lower ct
digits ct is = hex_is ct (let e = is.size in omega arith)

-- ---- the cuts of a line

abbrev pair_of : List ℕ → List (List ℕ)
pair_of ct = codes "-" ∷ hex_text ct ∷ []

item_pieces : (cts : List (List ℕ)) → AreCiphertexts cts
    → pieces_of (flat_map item_text cts) ≡ [] ∷ flat_map pair_of cts
item_pieces [] are = refl
item_pieces (ct ∷ cts) are =
    let rest : List ℕ = flat_map item_text cts in
    let behind : pieces_of (hex_text ct ++ rest) ≡ hex_text ct ∷ flat_map pair_of cts =
    rw (digits ct are.0) (cut_behind 32 no_space ct rest (flat_map pair_of cts) (item_pieces cts are.1)) in
    rw behind refl

line_pieces : (cts : List (List ℕ)) → AreCiphertexts cts
    → pieces_of (codes "unsealall 1" ++ flat_map item_text cts) ≡ codes "unsealall" ∷ codes "1" ∷ flat_map pair_of cts
line_pieces cts are = rw (item_pieces cts are) refl

feed_behind : (cts : List (List ℕ)) (after : List ℕ) → AreCiphertexts cts
    → lines_of (flat_map item_text cts ++ (codes "\n" ++ after)) ≡ flat_map item_text cts ∷ lines_of after
feed_behind [] after are = refl
feed_behind (ct ∷ cts) after are =
    let rest : List ℕ = flat_map item_text cts in
    let end : List ℕ = codes "\n" ++ after in
    let behind : lines_of (hex_text ct ++ (rest ++ end)) ≡ (hex_text ct ++ rest) ∷ lines_of after =
    rw (digits ct are.0) (cut_on 10 no_feed ct (rest ++ end) rest (lines_of after) (feed_behind cts after are.1)) in
    rw (append_assoc (hex_text ct) rest end, behind) refl

line_cut : (cts : List (List ℕ)) (after : List ℕ) → AreCiphertexts cts
    → lines_of (opening_line cts ++ after) ≡ (codes "unsealall 1" ++ flat_map item_text cts) ∷ lines_of after
line_cut cts after are = rw (append_assoc (flat_map item_text cts) (codes "\n") after, feed_behind cts after are) refl

-- ---- the items of a line

abbrev made : List ℕ → List (List ℕ) → List Item
made pool [] = []
made pool (ct ∷ cts) =
    record { aad = span (length pool) 0; text = span (length pool) (length ct) } ∷ made (pool ++ ct) cts

abbrev grown : List ℕ → List (List ℕ) → List ℕ
grown pool [] = pool
grown pool (ct ∷ cts) = grown (pool ++ ct) cts

item_long : (pool ct : List ℕ) → IsCiphertext ct → item most_ciphertext pool (codes "-" ∷ hex_text ct ∷ [])
    ≡ Ok ((record { aad = span (length pool) 0; text = span (length (pool ++ [])) (length ct) }, (pool ++ []) ++ ct), [])
unfolding item next
item_long pool ct is =
    let size = is.size in
    let read = field most_ciphertext (pool ++ []) ct is.are (omega arith) (omega arith) in
    rw read refl

item_same : (pool ct : List ℕ) → IsCiphertext ct → item most_ciphertext pool (codes "-" ∷ hex_text ct ∷ [])
    ≡ Ok ((record { aad = span (length pool) 0; text = span (length pool) (length ct) }, pool ++ ct), [])
item_same pool ct is =
    item_long pool ct is
    ∙ ap (λ (p : List ℕ). Ok ((record { aad = span (length pool) 0; text = span (length p) (length ct) }, p ++ ct), [])) (append-nil pool)

pairs_read : (pool : List ℕ) (items : List Item) (cts : List (List ℕ)) → AreCiphertexts cts
    → pairs pool items (flat_map pair_of cts) ≡ Ok (items ++ made pool cts, grown pool cts)
unfolding pairs
pairs_read pool items [] are = rw (append-nil items) refl
pairs_read pool items (ct ∷ cts) are =
    let one : Item = record { aad = span (length pool) 0; text = span (length pool) (length ct) } in
    rw (item_same pool ct are.0) (pairs_read (pool ++ ct) (items ++ one ∷ []) cts are.1
    ∙ ap (λ (all : List Item). Ok (all, grown (pool ++ ct) cts)) (append_assoc items (one ∷ []) (made (pool ++ ct) cts)))

length-made : (pool : List ℕ) (cts : List (List ℕ)) → length (made pool cts) ≡ length cts
length-made pool [] = refl
length-made pool (ct ∷ cts) = ap suc (length-made (pool ++ ct) cts)

length-pairs : (cts : List (List ℕ)) → length (flat_map pair_of cts) ≡ 2 * length cts
length-pairs [] = refl
length-pairs (ct ∷ cts) = omega (arith, length-pairs cts)

form_read : (pool : List ℕ) (cts : List (List ℕ)) → AreCiphertexts cts → 0 < length cts
    → unseal_all false pool (codes "1" ∷ flat_map pair_of cts) ≡ Ok (1, made pool cts, grown pool cts)
unfolding unseal_all next
form_read pool cts are some =
    let size = length-pairs cts in
    let odd : suc (length (flat_map pair_of cts)) % 2 ≡ 1 = omega arith in
    let several : nat_lt 1 (suc (length (flat_map pair_of cts))) ≡ true = lt-ltb _ _ (omega arith) in
    rw (several, odd, pairs_read pool [] cts are) refl

grown_front : (pool : List ℕ) (cts : List (List ℕ)) → IsFront pool (grown pool cts)
grown_front pool [] = IsFront-same pool
grown_front pool (ct ∷ cts) =
    IsFront-then pool (pool ++ ct) (grown (pool ++ ct) cts) (record { rest = ct; parts = refl }) (grown_front (pool ++ ct) cts)

named_here : (pool ct whole : List ℕ) → IsFront (pool ++ ct) whole → span_bytes whole (span (length pool) (length ct)) ≡ ct
named_here pool ct whole front =
    let parts : whole ≡ pool ++ (ct ++ front.rest) = front.parts ∙ append_assoc pool ct front.rest in
    rw (parts, drop_at pool (ct ++ front.rest) (length pool) refl) (take_at ct front.rest (length ct) refl)

messages_are : (pool whole : List ℕ) (cts : List (List ℕ)) → IsFront (grown pool cts) whole
    → sealed_messages whole (made pool cts) ≡ map message cts
messages_are pool whole [] front = refl
messages_are pool whole (ct ∷ cts) front =
    let here = named_here pool ct whole (IsFront-then (pool ++ ct) (grown (pool ++ ct) cts) whole (grown_front (pool ++ ct) cts) front) in
    rw (here, messages_are (pool ++ ct) whole cts front) refl

-- ---- one line

abbrev with_opening : Plan → List (List ℕ) → Plan
with_opening plan cts =
    record plan {
      pool = grown plan.pool cts;
      items = plan.items ++ made plan.pool cts;
      lanes = add_call plan.lanes (UnsealAll 1 (length plan.items) (length cts));
    }

opening_read : (plan : Plan) (cts : List (List ℕ)) → AreCiphertexts cts → 0 < length cts → length cts ≤ 256
    → all_items plan.lanes + length cts ≤ 65536 → all_sizes plan.lanes ≡ 0
    → with_line false plan (Call words.UnsealAll) (codes "1" ∷ flat_map pair_of cts) ≡ Ok (with_opening plan cts)
unfolding with_several counted
opening_read plan cts are some few items sizes =
    let count = length-made plan.pool cts in
    let each : nat_le (length cts) 4096 ≡ true = le-leb _ _ (omega arith) in
    let all : nat_le (all_items plan.lanes + length cts) 65536 ≡ true = le-leb _ _ items in
    let exported : nat_le (all_sizes plan.lanes + 0) 16777216 ≡ true = le-leb _ _ (omega arith) in
    rw (form_read plan.pool cts are some) (rw (count, each, all, exported) refl)

-- ---- plans between lines

-- the call opens these, whatever pool and items begin as these
pub record Opens (pool : List ℕ) (items : List Item) (cts : List (List ℕ)) (call : CallLine) : Type 0 where
  pub first : ℕ
  pub call_is : call ≡ UnsealAll 1 first (length cts)
  pub within : first + length cts ≤ length items
  pub named : (whole : List ℕ) → IsFront pool whole → sealed_messages whole (items_from items first (length cts)) ≡ map message cts

pub data AllOpen (pool : List ℕ) (items : List Item) : List CallLine → List (List (List ℕ)) → Type 0 where
  nothing : AllOpen pool items [] []
  one_more : {call : CallLine} {cts : List (List ℕ)} {calls : List CallLine} {more : List (List (List ℕ))}
      → Opens pool items cts call → AllOpen pool items calls more → AllOpen pool items (call ∷ calls) (cts ∷ more)

opens_more : (pool whole : List ℕ) (items more : List Item) (cts : List (List ℕ)) (call : CallLine) → IsFront pool whole
    → Opens pool items cts call → Opens whole (items ++ more) cts call
opens_more pool whole items more cts call front o = record {
  first = o.first;
  call_is = o.call_is;
  within = (let w = o.within in omega (arith, length-append items more));
  named = λ all f. ap (sealed_messages all) (items_stay items more o.first (length cts) o.within) ∙ o.named all (IsFront-then pool whole all front f);
}

all_more : (pool whole : List ℕ) (items more : List Item) (calls : List CallLine) (parts : List (List (List ℕ))) → IsFront pool whole
    → AllOpen pool items calls parts → AllOpen whole (items ++ more) calls parts
all_more pool whole items more _ _ front nothing = nothing
all_more pool whole items more _ _ front (one_more {call = call} {cts = cts} {calls = calls} {more = parts} here rest) =
    one_more (opens_more pool whole items more cts call front here) (all_more pool whole items more calls parts front rest)

all_push : (pool : List ℕ) (items : List Item) (calls : List CallLine) (parts : List (List (List ℕ))) (call : CallLine) (cts : List (List ℕ))
    → AllOpen pool items calls parts → Opens pool items cts call → AllOpen pool items (calls ++ call ∷ []) (parts ++ cts ∷ [])
all_push pool items _ _ call cts nothing here = one_more here nothing
all_push pool items _ _ call cts (one_more {calls = calls} {more = parts} first rest) here =
    one_more first (all_push pool items calls parts call cts rest here)

-- one lane that opens these parts, and so many items in all
pub record Opening (seed : ℕ) (parts : List (List (List ℕ))) (total : ℕ) (plan : Plan) : Type 0 where
  pub begins : BeginsAs seed plan
  pub lane : List CallLine
  pub lanes : plan.lanes ≡ lane ∷ []
  pub opens : AllOpen plan.pool plan.items lane parts
  pub items : all_items plan.lanes ≡ total
  pub sizes : all_sizes plan.lanes ≡ 0

begins_more : (seed : ℕ) (plan : Plan) (pool : List ℕ) (items : List Item) (lanes : List (List CallLine)) → BeginsAs seed plan
    → IsFront plan.pool pool → BeginsAs seed (record plan { pool = pool; items = items; lanes = lanes })
begins_more seed plan pool items lanes b front = record {
  version = b.version;
  seed_is = b.seed_is;
  keys = b.keys;
  contexts = b.contexts;
  rest = b.rest ++ front.rest;
  pool = front.parts ∙ ap (λ (pool : List ℕ). pool ++ front.rest) b.pool ∙ append_assoc infos b.rest front.rest;
}

one_line : (seed : ℕ) (parts : List (List (List ℕ))) (total : ℕ) (plan : Plan) (cts : List (List ℕ)) → Opening seed parts total plan
    → AreCiphertexts cts → 0 < length cts → length cts ≤ 256 → total + length cts ≤ 65536
    → Reads plan (opening_line cts) (with_opening plan cts) × Opening seed (parts ++ cts ∷ []) (total + length cts) (with_opening plan cts)
one_line seed parts total plan cts o are some few items =
    let line : List ℕ = codes "unsealall 1" ++ flat_map item_text cts in
    let call : CallLine = UnsealAll 1 (length plan.items) (length cts) in
    let new : List Item = made plan.pool cts in
    let pool : List ℕ = grown plan.pool cts in
    let size = length-made plan.pool cts in
    let there : 0 < length plan.lanes = rw o.lanes (omega arith) in
    let own : items_from (plan.items ++ new) (length plan.items) (length cts) ≡ new =
    ap (λ (all : List Item). items_from all (length plan.items) (length cts)) (sym (append-nil (plan.items ++ new)))
    ∙ ap (items_from ((plan.items ++ new) ++ []) (length plan.items)) (sym size)
    ∙ items_own plan.items new [] in (
      reads_line plan (with_opening plan cts) (opening_line cts) line (λ after. line_cut cts after are)
          (line_is plan (with_opening plan cts) line (codes "unsealall") (codes "1" ∷ flat_map pair_of cts) (Call words.UnsealAll)
          (line_pieces cts are) refl (rw o.begins.version refl) (rw o.lanes refl)
          (opening_read plan cts are some few (let e = o.items in omega arith) o.sizes)),
      record {
        begins = begins_more seed plan pool (plan.items ++ new) (add_call plan.lanes call) o.begins (grown_front plan.pool cts);
        lane = o.lane ++ call ∷ [];
        lanes = ap (λ (lanes : List (List CallLine)). add_call lanes call) o.lanes;
        opens = all_push pool (plan.items ++ new) o.lane parts call cts
            (all_more plan.pool pool plan.items new o.lane parts (grown_front plan.pool cts) o.opens)
            (record {
              first = length plan.items;
              call_is = refl;
              within = omega (arith, length-append plan.items new);
              named = λ whole front. ap (sealed_messages whole) own ∙ messages_are plan.pool whole cts front;
            });
        items = (let e = o.items in omega (arith, sums_more items_of plan.lanes call there));
        sizes = (let e = o.sizes in omega (arith, sums_more size_of plan.lanes call there));
      },
    )

-- ---- all lines

abbrev pub AreParts : List (List (List ℕ)) → Type 0
AreParts [] = Unit {0}
AreParts (cts ∷ parts) = AreCiphertexts cts × (0 < length cts) × (length cts ≤ 256) × AreParts parts

pub record LinesRead (seed : ℕ) (parts : List (List (List ℕ))) (total : ℕ) (plan : Plan) (text : List ℕ) : Type 0 where
  pub new : Plan
  pub reads : Reads plan text new
  pub is : Opening seed parts total new

abbrev pub all_of : List (List (List ℕ)) → ℕ
all_of parts = sum_by (λ (cts : List (List ℕ)). length cts) parts

pub some_lines : (seed : ℕ) (parts : List (List (List ℕ))) (total : ℕ) (plan : Plan) (more : List (List (List ℕ))) → Opening seed parts total plan
    → AreParts more → total + all_of more ≤ 65536
    → LinesRead seed (parts ++ more) (total + all_of more) plan (flat_map opening_line more)
some_lines seed parts total plan [] o are few = record {
  new = plan;
  reads = reads_nothing plan;
  is = rw (append-nil parts, let f : total + 0 ≡ total = omega arith in f) o;
}
some_lines seed parts total plan (cts ∷ more) o are few =
    let sum = sum_by-cons (λ (cts : List (List ℕ)). length cts) cts more in
    let one = one_line seed parts total plan cts o are.0 are.1 are.2 (omega arith) in
    let rest = some_lines seed (parts ++ cts ∷ []) (total + length cts) (with_opening plan cts) more one.1 are.3 (omega arith) in
    let all : (parts ++ cts ∷ []) ++ more ≡ parts ++ (cts ∷ more) = append_assoc parts (cts ∷ []) more in
    let sums : (total + length cts) + all_of more ≡ total + all_of (cts ∷ more) = omega arith in
    record {
      new = rest.new;
      reads = reads_on plan (with_opening plan cts) rest.new (opening_line cts) (flat_map opening_line more) one.0 rest.reads;
      is = rw (← all, ← sums) rest.is;
    }

-- a lane that was begun
pub opening_begun : (seed total : ℕ) (plan : Plan) → BeginsAs seed plan → plan.lanes ≡ [] ∷ [] → all_items plan.lanes ≡ total
    → all_sizes plan.lanes ≡ 0 → Opening seed [] total plan
opening_begun seed total plan b lanes items sizes = record {
  begins = b;
  lane = [];
  lanes = lanes;
  opens = nothing;
  items = items;
  sizes = sizes;
}

-- the plan says so
opens_these : (plan : Plan) (cts : List (List ℕ)) (call : CallLine) → Opens plan.pool plan.items cts call → OpensThese plan cts call
opens_these plan cts call o = record {
  first = o.first;
  call_is = o.call_is;
  messages = o.named plan.pool (IsFront-same plan.pool);
}

pub open_all : (plan : Plan) (calls : List CallLine) (parts : List (List (List ℕ))) → AllOpen plan.pool plan.items calls parts
    → OpenAll plan calls parts
open_all plan _ _ nothing = none
open_all plan _ _ (one_more {call = call} {cts = cts} {calls = calls} {more = parts} first rest) =
    and_more (opens_these plan cts call first) (open_all plan calls parts rest)
