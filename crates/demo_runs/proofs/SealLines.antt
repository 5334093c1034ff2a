-- Lanes that seal.
use Rattle.std.proofs.Common.{◌≡◌, ℕ, suc, ◌+◌, ◌<◌, ◌≤◌, nat_le, true, false, List, [], ◌∷◌, ◌++◌, length, map, codes, Ok, refl, sym, ap, subst, ◌∙◌, append_assoc, append-nil, length-append, arith}
use Rattle.std.specs.Prelude.{sum_by}
use Rattle.std.specs.List.{flat_map, AllByRecursion, All}
use Rattle.std.proofs.lemmas.List.{map-append, length-map, drop_at}
use Rattle.std.proofs.lemmas.List.Elements.{All-from_recursion}
use Rattle.std.proofs.lemmas.List.Sums.{sum_by-cons, sum_by_push}
use Rattle.std.proofs.lemmas.Bool.{le-leb, lt-ltb}
use Rattle.hex.specs.Hex.{decode_pairs}
use Rattle.hex.proofs.OnLiterals.{hex_on_literals}
use Rattle.call_places.specs.Spans.{span_bytes}
use Rattle.field_text.specs.Fields.{next}
use Rattle.field_text.proofs.Spellings.{IsFront, IsFront-same, IsFront-then}
use Rattle.batch_plans.specs.declared.plan.Plan.{Plan}
use Rattle.batch_plans.specs.declared.plan.CallLine.{CallLine}
use Rattle.batch_plans.specs.declared.plan.CallLine.TheVariants.{Seal}
use Rattle.batch_plans.specs.Limits.{items_of, size_of, all_items, all_sizes}
use Rattle.request_frames.specs.declared.words.LineWord.TheVariants.{Lane, Call}
use Rattle.request_frames.specs.declared.words.CallWord.TheVariants as words
use Rattle.request_frames.specs.Batch.{with_line, with_lane, with_one, counted, add_call, may_stand}
use Rattle.request_frames.specs.Forms.{seal, one_item, item}
use Rattle.request_frames.proofs.Growth.{sums_more}
use Rattle.request_frames.proofs.Lanes.{add_call-end}
use Rattle.demo_runs.specs.Texts.{seal_line, share_of, sealing_lane}
use Rattle.demo_runs.specs.Demo.{sealed_text}
use Rattle.demo_runs.specs.Plans.{BeginsAs, SealsText}
use Rattle.demo_runs.specs.SetUp.{infos, span}
use Rattle.demo_runs.proofs.Steps.{Reads, reads_nothing, reads_on, reads_line, line_is}

-- ---- what a lane holds

-- the call seals T: its span names T in each pool that begins as this one
pub record Seals (pool : List ℕ) (call : CallLine) : Type 0 where
  pub start : ℕ
  pub call_is : call ≡ Seal 0 (record { aad = span start 0; text = span start 64 })
  pub named : (whole : List ℕ) → IsFront pool whole → span_bytes whole (span start 64) ≡ sealed_text

seals_more : (pool more : List ℕ) (call : CallLine) → Seals pool call → Seals (pool ++ more) call
seals_more pool more call s = record {
  start = s.start;
  call_is = s.call_is;
  named = λ whole front. s.named whole (IsFront-then pool (pool ++ more) whole (record { rest = more; parts = refl }) front);
}

seals_text : (pool : List ℕ) (call : CallLine) → Seals pool call → SealsText pool call
seals_text pool call s = record {
  item = record { aad = span s.start 0; text = span s.start 64 };
  call_is = s.call_is;
  aad = refl;
  text = s.named pool (IsFront-same pool);
}

abbrev pub AllSeal : List ℕ → List CallLine → Type 0
AllSeal pool calls = AllByRecursion (Seals pool) calls

abbrev pub AllLanesSeal : List ℕ → List (List CallLine) → Type 0
AllLanesSeal pool lanes = AllByRecursion (AllSeal pool) lanes

all_more : (pool more : List ℕ) (calls : List CallLine) → AllSeal pool calls → AllSeal (pool ++ more) calls
all_more pool more [] all = tt
all_more pool more (call ∷ calls) all = (seals_more pool more call all.0, all_more pool more calls all.1)

lanes_more : (pool more : List ℕ) (lanes : List (List CallLine)) → AllLanesSeal pool lanes → AllLanesSeal (pool ++ more) lanes
lanes_more pool more [] all = tt
lanes_more pool more (lane ∷ lanes) all = (all_more pool more lane all.0, lanes_more pool more lanes all.1)

all_push : {X : Type 0} (P : X → Type 0) (xs : List X) (x : X) → AllByRecursion P xs → P x → AllByRecursion P (xs ++ x ∷ [])
all_push P [] x all here = (here, tt)
all_push P (y ∷ xs) x all here = (all.0, all_push P xs x all.1 here)

all_each : {X : Type 0} (P Q : X → Type 0) → ((x : X) → P x → Q x) → (xs : List X) → AllByRecursion P xs → AllByRecursion Q xs
all_each P Q each [] all = tt
all_each P Q each (x ∷ xs) all = (each x all.0, all_each P Q each xs all.1)

-- ---- plans between lines

-- lanes with these counts of calls, no other one open, and so many items in all
pub record Sealed (seed : ℕ) (done : List ℕ) (total : ℕ) (plan : Plan) : Type 0 where
  pub begins : BeginsAs seed plan
  pub counts : map (λ (calls : List CallLine). length calls) plan.lanes ≡ done
  pub calls : AllLanesSeal plan.pool plan.lanes
  pub items : all_items plan.lanes ≡ total
  pub sizes : all_sizes plan.lanes ≡ 0

-- the same, and a last lane with k calls so far
record Sealing (seed : ℕ) (done : List ℕ) (k total : ℕ) (plan : Plan) : Type 0 where
  begins : BeginsAs seed plan
  before : List (List CallLine)
  open_lane : List CallLine
  lanes : plan.lanes ≡ before ++ open_lane ∷ []
  counts : map (λ (calls : List CallLine). length calls) before ≡ done
  count : length open_lane ≡ k
  calls : AllLanesSeal plan.pool before
  own : AllSeal plan.pool open_lane
  items : all_items plan.lanes ≡ total
  sizes : all_sizes plan.lanes ≡ 0

-- ---- one line `seal`

abbrev call_of : Plan → CallLine
call_of plan = Seal 0 (record { aad = span (length plan.pool) 0; text = span (length plan.pool) 64 })

abbrev with_seal : Plan → Plan
with_seal plan = record plan { pool = plan.pool ++ sealed_text; lanes = add_call plan.lanes (call_of plan) }

abbrev hex_of_text : List ℕ
hex_of_text = codes "000102030405060708090a0b0c0d0e0f101112131415161718191a1b1c1d1e1f202122232425262728292a2b2c2d2e2f303132333435363738393a3b3c3d3e3f"

form_read : (pool : List ℕ) → seal false pool (codes "0" ∷ codes "-" ∷ hex_of_text ∷ [])
    ≡ Ok (Seal 0 (record { aad = span (length pool) 0; text = span (length (pool ++ [])) 64 }), (pool ++ []) ++ sealed_text)
unfolding one_item item next hex_on_literals decode_pairs
form_read pool = refl

form_same : (pool : List ℕ) → seal false pool (codes "0" ∷ codes "-" ∷ hex_of_text ∷ [])
    ≡ Ok (Seal 0 (record { aad = span (length pool) 0; text = span (length pool) 64 }), pool ++ sealed_text)
form_same pool = rw append-nil at (form_read pool)

seal_read : (plan : Plan) → all_items plan.lanes + 1 ≤ 65536 → all_sizes plan.lanes ≡ 0
    → with_line false plan (Call words.Seal) (codes "0" ∷ codes "-" ∷ hex_of_text ∷ []) ≡ Ok (with_seal plan)
unfolding with_one counted
seal_read plan few sizes =
    let items : nat_le (all_items plan.lanes + 1) 65536 ≡ true = le-leb _ _ few in
    let none : nat_le (all_sizes plan.lanes + 0) 16777216 ≡ true = le-leb _ _ (omega arith) in
    rw (form_same plan.pool, items, none) refl

some_lane : (plan : Plan) → 0 < length plan.lanes → may_stand (Call words.Seal) plan ≡ true
some_lane plan some = rw (lt-ltb 0 (length plan.lanes) some) refl

reads_seal : (plan : Plan) → plan.version ≡ 1 → 0 < length plan.lanes → all_items plan.lanes + 1 ≤ 65536 → all_sizes plan.lanes ≡ 0
    → Reads plan seal_line (with_seal plan)
reads_seal plan version some few sizes =
    let line : List ℕ = codes "seal 0 - " ++ hex_of_text in
    reads_line plan (with_seal plan) seal_line line (λ after. refl)
    (line_is plan (with_seal plan) line (codes "seal") (codes "0" ∷ codes "-" ∷ hex_of_text ∷ []) (Call words.Seal)
    refl refl (rw version refl) (some_lane plan some) (seal_read plan few sizes))

named_here : (pool whole : List ℕ) → IsFront (pool ++ sealed_text) whole → span_bytes whole (span (length pool) 64) ≡ sealed_text
named_here pool whole front =
    let parts : whole ≡ pool ++ (sealed_text ++ front.rest) = front.parts ∙ append_assoc pool sealed_text front.rest in
    rw (parts, drop_at pool (sealed_text ++ front.rest) (length pool) refl) refl

begins_more : (seed : ℕ) (plan : Plan) (more : List ℕ) (lanes : List (List CallLine)) → BeginsAs seed plan
    → BeginsAs seed (record plan { pool = plan.pool ++ more; lanes = lanes })
begins_more seed plan more lanes b = record {
  version = b.version;
  seed_is = b.seed_is;
  keys = b.keys;
  contexts = b.contexts;
  rest = b.rest ++ more;
  pool = ap (λ (pool : List ℕ). pool ++ more) b.pool ∙ append_assoc infos b.rest more;
}

some_here : {X : Type 0} (before : List X) (x : X) → 0 < length (before ++ x ∷ [])
some_here before x = omega (arith, length-append before (x ∷ []))

one_seal : (seed : ℕ) (done : List ℕ) (k total : ℕ) (plan : Plan) → Sealing seed done k total plan → total < 65536
    → Reads plan seal_line (with_seal plan) × Sealing seed done (k + 1) (total + 1) (with_seal plan)
one_seal seed done k total plan s few =
    let some : 0 < length plan.lanes = rw s.lanes (some_here s.before s.open_lane) in
    let call : CallLine = call_of plan in (
      reads_seal plan s.begins.version some (let e = s.items in omega arith) s.sizes,
      record {
        begins = begins_more seed plan sealed_text (add_call plan.lanes call) s.begins;
        before = s.before;
        open_lane = s.open_lane ++ call ∷ [];
        lanes = ap (λ (lanes : List (List CallLine)). add_call lanes call) s.lanes ∙ add_call-end s.before s.open_lane call;
        counts = s.counts;
        count = (let e = s.count in omega (arith, length-append s.open_lane (call ∷ [])));
        calls = lanes_more plan.pool sealed_text s.before s.calls;
        own = all_push (Seals (plan.pool ++ sealed_text)) s.open_lane call (all_more plan.pool sealed_text s.open_lane s.own)
            (record { start = length plan.pool; call_is = refl; named = named_here plan.pool });
        items = (let e = s.items in omega (arith, sums_more items_of plan.lanes call some));
        sizes = (let e = s.sizes in omega (arith, sums_more size_of plan.lanes call some));
      },
    )

record SealedOn (seed : ℕ) (done : List ℕ) (k total : ℕ) (plan : Plan) (text : List ℕ) : Type 0 where
  new : Plan
  reads : Reads plan text new
  is : Sealing seed done k total new

some_seals : (seed : ℕ) (done : List ℕ) (k total : ℕ) (plan : Plan) (js : List ℕ) → Sealing seed done k total plan
    → total + length js ≤ 65536 → SealedOn seed done (k + length js) (total + length js) plan (flat_map (λ j. seal_line) js)
some_seals seed done k total plan [] s few = record {
  new = plan;
  reads = reads_nothing plan;
  is = rw (let e : k + 0 ≡ k = omega arith in e, let f : total + 0 ≡ total = omega arith in f) s;
}
some_seals seed done k total plan (j ∷ js) s few =
    let one = one_seal seed done k total plan s (omega arith) in
    let more = some_seals seed done (k + 1) (total + 1) (with_seal plan) js one.1 (omega arith) in
    let rest : List ℕ = flat_map (λ j. seal_line) js in
    let m : (k + 1) + length js ≡ k + suc (length js) = omega arith in
    let n : (total + 1) + length js ≡ total + suc (length js) = omega arith in
    record {
      new = more.new;
      reads = reads_on plan (with_seal plan) more.new seal_line rest one.0 more.reads;
      is = rw (← m, ← n) more.is;
    }

-- ---- a lane

abbrev pub with_one_lane : Plan → Plan
with_one_lane plan = record plan { lanes = plan.lanes ++ [] ∷ [] }

lane_read : (plan : Plan) → length plan.lanes + 1 ≤ 16 → with_line false plan Lane [] ≡ Ok (with_one_lane plan)
unfolding with_lane
lane_read plan few =
    let test : nat_le (length plan.lanes + 1) 16 ≡ true = le-leb _ _ few in
    rw test refl

pub reads_lane : (plan : Plan) → plan.version ≡ 1 → length plan.lanes + 1 ≤ 16
    → Reads plan (codes "lane\n") (with_one_lane plan)
reads_lane plan version few =
    reads_line plan (with_one_lane plan) (codes "lane\n") (codes "lane") (λ after. refl)
    (line_is plan (with_one_lane plan) (codes "lane") (codes "lane") [] Lane refl refl (rw version refl) refl
    (lane_read plan few))

pub sum_of_new : (f : CallLine → ℕ) (lanes : List (List CallLine))
    → sum_by (λ lane. sum_by f lane) (lanes ++ [] ∷ []) ≡ sum_by (λ lane. sum_by f lane) lanes
sum_of_new f lanes = omega (arith, sum_by_push (λ (lane : List CallLine). sum_by f lane) lanes [])

pub lanes_begin : (seed : ℕ) (plan : Plan) (lanes : List (List CallLine)) → BeginsAs seed plan
    → BeginsAs seed (record plan { lanes = lanes })
lanes_begin seed plan lanes b = record {
  version = b.version;
  seed_is = b.seed_is;
  keys = b.keys;
  contexts = b.contexts;
  rest = b.rest;
  pool = b.pool;
}

lane_begun : (seed : ℕ) (done : List ℕ) (total : ℕ) (plan : Plan) → Sealed seed done total plan
    → Sealing seed done 0 total (with_one_lane plan)
lane_begun seed done total plan s = record {
  begins = lanes_begin seed plan (plan.lanes ++ [] ∷ []) s.begins;
  before = plan.lanes;
  open_lane = [];
  lanes = refl;
  counts = s.counts;
  count = refl;
  calls = s.calls;
  own = tt;
  items = sum_of_new items_of plan.lanes ∙ s.items;
  sizes = sum_of_new size_of plan.lanes ∙ s.sizes;
}

lane_closed : (seed : ℕ) (done : List ℕ) (k total : ℕ) (plan : Plan) → Sealing seed done k total plan
    → Sealed seed (done ++ k ∷ []) total plan
lane_closed seed done k total plan s = record {
  begins = s.begins;
  counts = rw (s.lanes, map-append (λ (calls : List CallLine). length calls) s.before (s.open_lane ∷ []), s.counts, s.count) refl;
  calls = subst (AllLanesSeal plan.pool) (sym s.lanes) (all_push (AllSeal plan.pool) s.before s.open_lane s.calls s.own);
  items = s.items;
  sizes = s.sizes;
}

pub record LanesRead (seed : ℕ) (done : List ℕ) (total : ℕ) (plan : Plan) (text : List ℕ) : Type 0 where
  pub new : Plan
  pub reads : Reads plan text new
  pub is : Sealed seed done total new

module _ (seed messages lanes : ℕ) where
  abbrev count_of : ℕ → ℕ
  count_of lane = length (share_of messages lanes lane)

  abbrev counts_of : List ℕ → List ℕ
  counts_of ls = map count_of ls

  pub some_lanes : (done : List ℕ) (total : ℕ) (plan : Plan) (ls : List ℕ) → Sealed seed done total plan
      → length done + length ls ≤ 16 → total + sum_by count_of ls ≤ 65536
      → LanesRead seed (done ++ counts_of ls) (total + sum_by count_of ls) plan (flat_map (sealing_lane messages lanes) ls)
  some_lanes done total plan [] s few items = record {
    new = plan;
    reads = reads_nothing plan;
    is = rw (append-nil done, let f : total + 0 ≡ total = omega arith in f) s;
  }
  some_lanes done total plan (l ∷ ls) s few items =
      let size : length plan.lanes ≡ length done =
      sym (length-map plan.lanes (λ (calls : List CallLine). length calls)) ∙ ap length s.counts in
      let sum = sum_by-cons count_of l ls in
      let begun : Reads plan (codes "lane\n") (with_one_lane plan) = reads_lane plan s.begins.version (omega arith) in
      let seals = some_seals seed done 0 total (with_one_lane plan) (share_of messages lanes l) (lane_begun seed done total plan s) (omega arith) in
      let closed = lane_closed seed done (0 + count_of l) (total + count_of l) seals.new seals.is in
      let here : done ++ (0 + count_of l) ∷ [] ≡ done ++ count_of l ∷ [] = ap (λ (n : ℕ). done ++ n ∷ []) (omega arith) in
      let more = some_lanes (done ++ count_of l ∷ []) (total + count_of l) seals.new ls (subst (λ (d : List ℕ). Sealed seed d (total + count_of l) seals.new) here closed)
      (omega (arith, length-append done (count_of l ∷ []))) (omega arith) in
      let body : List ℕ = flat_map (λ j. seal_line) (share_of messages lanes l) in
      let rest : List ℕ = flat_map (sealing_lane messages lanes) ls in
      let all : (done ++ count_of l ∷ []) ++ counts_of ls ≡ done ++ (count_of l ∷ counts_of ls) = append_assoc done (count_of l ∷ []) (counts_of ls) in
      let sums : (total + count_of l) + sum_by count_of ls ≡ total + sum_by count_of (l ∷ ls) = omega arith in
      record {
        new = more.new;
        reads = reads_on plan seals.new more.new (codes "lane\n" ++ body) rest
            (reads_on plan (with_one_lane plan) seals.new (codes "lane\n") body begun seals.reads) more.reads;
        is = rw (← all, ← sums) more.is;
      }

-- the lanes as the plan says of them
pub lanes_are : (pool : List ℕ) (lanes : List (List CallLine)) → AllLanesSeal pool lanes → All (All (SealsText pool)) lanes
lanes_are pool lanes all =
    All-from_recursion (All (SealsText pool)) lanes
    (all_each (AllSeal pool) (All (SealsText pool)) (λ calls own.
    All-from_recursion (SealsText pool) calls (all_each (Seals pool) (SealsText pool) (seals_text pool) calls own)) lanes all)
