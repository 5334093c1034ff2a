-- The two texts spell plans of their kinds.
use Rattle.std.proofs.Common.{◌≡◌, ℕ, zero, suc, ◌+◌, ◌*◌, ◌%◌, ◌<◌, ◌≤◌, ◌-◌, min, List, [], ◌∷◌, ◌++◌, length, map, take, drop, codes, refl, sym, ap, subst, ◌∙◌, append_assoc, append-nil, length-append, arith}
use Rattle.std.specs.Prelude.{sum_by}
use Rattle.std.specs.List.{flat_map, range_with_len}
use Rattle.std.specs.Fork.{slice_chunk}
use Rattle.std.proofs.lemmas.List.{length-drop, length-take, take_all}
use Rattle.std.proofs.lemmas.List.FromFn.{length-range_with_len}
use Rattle.std.proofs.lemmas.List.Sums.{sum_by-cons}
use Rattle.std.proofs.lemmas.List.Folds.{flat_map-map}
use Rattle.std.proofs.lemmas.List.Concat.{length-flat_map}
use Rattle.std.proofs.lemmas.Grind.{flat_map-append}
use Rattle.std.proofs.Math.Seq.{take-add}
use Rattle.context_books.proofs.Sums.{count_parts}
use Rattle.batch_plans.specs.declared.plan.Plan.{Plan}
use Rattle.request_frames.specs.Batch.{Spells, empty_plan}
use Rattle.demo_runs.specs.Texts.{rand_line, set_up_lines, share_of, sealing_lanes, sealing_text, opening_line, opening_lines, opening_size, opening_count, opening_text}
use Rattle.demo_runs.specs.Plans.{BeginsAs, IsSealingPlan, IsOpeningPlan}
use Rattle.demo_runs.specs.SetUp.{set_up_plan}
use Rattle.demo_runs.specs.Ciphertexts.{AreCiphertexts}
use Rattle.demo_runs.proofs.Steps.{reads_on, spelled}
use Rattle.demo_runs.proofs.FrontLines.{reads_front}
use Rattle.demo_runs.proofs.SealLines.{Sealed, some_lanes, reads_lane, with_one_lane, lanes_begin, lanes_are}
use Rattle.demo_runs.proofs.OpenLines.{Opening, AreParts, all_of, some_lines, opening_begun, open_all}
use Rattle.demo_runs.proofs.Parts.{numbers_more}
use Rattle.demo_runs.proofs.Sizes.{length-lanes, length-front, within_input, length-line}

-- ---- the front

begins : (seed : ℕ) → BeginsAs seed (set_up_plan seed)
begins seed = record { version = refl; seed_is = refl; keys = refl; contexts = refl; rest = []; pool = refl }

-- ---- the first text

-- each message has its lane
pub share_sum : (messages lanes : ℕ) → 0 < lanes
    → sum_by (λ lane. length (share_of messages lanes lane)) (range_with_len 0 lanes) ≡ messages
share_sum messages lanes some =
    count_parts (λ (j : ℕ). j % lanes) lanes (range_with_len 0 messages) (λ j here. omega arith)
    ∙ length-range_with_len 0 messages

pub record SpellsSealing (seed messages lanes : ℕ) : Type 0 where
  pub plan : Plan
  pub spells : Spells (sealing_text seed messages lanes) plan
  pub is : IsSealingPlan seed messages lanes plan

pub sealing_spelled : (seed messages lanes : ℕ) → messages ≤ 65536 → 0 < lanes → lanes ≤ 16 → SpellsSealing seed messages lanes
sealing_spelled seed messages lanes few some small =
    let ls : List ℕ = range_with_len 0 lanes in
    let size = length-range_with_len 0 lanes in
    let sum = share_sum messages lanes some in
    let start : Sealed seed [] 0 (set_up_plan seed) =
    record { begins = begins seed; counts = refl; calls = tt; items = refl; sizes = refl } in
    let read = some_lanes seed messages lanes [] 0 (set_up_plan seed) ls start (omega arith) (omega arith) in
    let front : List ℕ = rand_line seed ++ set_up_lines in
    let body : List ℕ = sealing_lanes messages lanes lanes in
    let whole : codes "hpkebatch 1\n" ++ (front ++ (body ++ codes "end\n")) ≡ codes "hpkebatch 1\n" ++ ((front ++ body) ++ codes "end\n") =
    ap (λ (text : List ℕ). codes "hpkebatch 1\n" ++ text) (sym (append_assoc front body (codes "end\n"))) in
    let all = reads_on (empty_plan 1) (set_up_plan seed) read.new front body (reads_front seed) read.reads in
    let short = within_input front body (length-front seed) (let l = length-lanes messages lanes ls in omega arith) in
    let is = read.is in
    record {
      plan = read.new;
      spells = subst (λ (text : List ℕ). Spells text read.new) (sym whole) (spelled (front ++ body) read.new all short);
      is = record { begins = is.begins; counts = is.counts; calls = lanes_are read.new.pool read.new.lanes is.calls };
    }

-- ---- the second text

chunk_part : (cts : List (List ℕ)) (n : ℕ) → AreCiphertexts cts → AreCiphertexts (slice_chunk cts opening_size n)
chunk_part cts n are = taken 256 (drop (n * 256) cts) (dropped (n * 256) cts are)
  where
    taken : (k : ℕ) (cts : List (List ℕ)) → AreCiphertexts cts → AreCiphertexts (take k cts)
    taken zero cts are = tt
    taken (suc k) [] are = tt
    taken (suc k) (ct ∷ cts) are = (are.0, taken k cts are.1)

    dropped : (k : ℕ) (cts : List (List ℕ)) → AreCiphertexts cts → AreCiphertexts (drop k cts)
    dropped zero cts are = are
    dropped (suc k) [] are = tt
    dropped (suc k) (ct ∷ cts) are = dropped k cts are.1

module _ (cts : List (List ℕ)) where
  abbrev part_of : ℕ → List (List ℕ)
  part_of n = slice_chunk cts opening_size n

  parts_join : (n : ℕ) → flat_map part_of (range_with_len 0 n) ≡ take (n * 256) cts
  parts_join zero = refl
  parts_join (suc n) =
      let more : suc n ≡ n + 1 = omega arith in
      let next : n * 256 + 256 ≡ suc n * 256 = omega arith in
      ap (λ (k : ℕ). flat_map part_of (range_with_len 0 k)) more
      ∙ ap (flat_map part_of) (numbers_more n)
      ∙ flat_map-append part_of (range_with_len 0 n) (n ∷ [])
      ∙ ap (λ (rest : List (List ℕ)). flat_map part_of (range_with_len 0 n) ++ rest) (append-nil (part_of n))
      ∙ ap (λ (front : List (List ℕ)). front ++ part_of n) (parts_join n)
      ∙ sym (take-add (n * 256) 256 cts)
      ∙ ap (λ (k : ℕ). take k cts) next

  abbrev all_parts : List (List (List ℕ))
  all_parts = map part_of (range_with_len 0 (opening_count (length cts)))

  parts_whole : flat_map (λ (part : List (List ℕ)). part) all_parts ≡ cts
  parts_whole =
      let count : ℕ = opening_count (length cts) in
      flat_map-map (λ (part : List (List ℕ)). part) part_of (range_with_len 0 count)
      ∙ parts_join count
      ∙ take_all (count * 256) cts (omega arith)

  are_parts : (a k : ℕ) → a + k ≤ opening_count (length cts) → AreCiphertexts cts → AreParts (map part_of (range_with_len a k))
  are_parts a zero few are = tt
  are_parts a (suc k) few are =
      let some : a * 256 < length cts = omega arith in
      let rest : List (List ℕ) = drop (a * 256) cts in
      let left : length rest ≡ length cts - a * 256 = length-drop (a * 256) cts in
      let size : length (part_of a) ≡ min 256 (length rest) = length-take 256 rest in
      (chunk_part cts a are, omega arith, omega arith, are_parts (a + 1) k (omega arith) are)

  all_sum : all_of all_parts ≡ length cts
  all_sum = sym (length-flat_map (λ (part : List (List ℕ)). part) all_parts) ∙ ap length parts_whole

  length-parts : (parts : List (List (List ℕ))) → AreParts parts → length (flat_map opening_line parts) ≤ 175 * all_of parts
  length-parts [] are = omega arith
  length-parts (part ∷ parts) are =
      let some = are.1 in
      omega (
        arith,
        length-append (opening_line part) (flat_map opening_line parts),
        length-line part are.0,
        sum_by-cons (λ (part : List (List ℕ)). length part) part parts,
        length-parts parts are.3,
      )

pub record SpellsOpening (seed : ℕ) (cts : List (List ℕ)) : Type 0 where
  pub plan : Plan
  pub spells : Spells (opening_text seed cts) plan
  pub is : IsOpeningPlan seed cts plan

pub opening_spelled : (seed : ℕ) (cts : List (List ℕ)) → AreCiphertexts cts → length cts ≤ 65536 → SpellsOpening seed cts
opening_spelled seed cts are few =
    let count : ℕ = opening_count (length cts) in
    let parts : List (List (List ℕ)) = all_parts cts in
    let are_all : AreParts parts = are_parts cts 0 count (omega arith) are in
    let sum : all_of parts ≡ length cts = all_sum cts in
    let plan : Plan = with_one_lane (set_up_plan seed) in
    let start : Opening seed [] 0 plan =
    opening_begun seed 0 plan (lanes_begin seed (set_up_plan seed) ([] ∷ []) (begins seed)) refl refl refl in
    let read = some_lines seed [] 0 plan parts start are_all (omega arith) in
    let front : List ℕ = rand_line seed ++ set_up_lines in
    let lines : List ℕ = flat_map opening_line parts in
    let body : List ℕ = codes "lane\n" ++ lines in
    let lines_are : lines ≡ opening_lines cts count = flat_map-map opening_line (part_of cts) (range_with_len 0 count) in
    let lane_read = reads_on (set_up_plan seed) plan read.new (codes "lane\n") lines (reads_lane (set_up_plan seed) refl (omega arith)) read.reads in
    let all = reads_on (empty_plan 1) (set_up_plan seed) read.new front body (reads_front seed) lane_read in
    let size = length-parts cts parts are_all in
    let short = within_input front body (length-front seed) (omega arith) in
    let whole : codes "hpkebatch 1\n" ++ ((front ++ body) ++ codes "end\n") ≡ opening_text seed cts =
    ap (λ (text : List ℕ). codes "hpkebatch 1\n" ++ text) (append_assoc front body (codes "end\n"))
    ∙ ap (λ (ls : List ℕ). codes "hpkebatch 1\n" ++ (front ++ (codes "lane\n" ++ (ls ++ codes "end\n")))) lines_are in
    let is = read.is in
    record {
      plan = read.new;
      spells = subst (λ (text : List ℕ). Spells text read.new) whole (spelled (front ++ body) read.new all short);
      is = record {
        begins = is.begins;
        lane = is.lane;
        lanes = is.lanes;
        parts = parts;
        whole = parts_whole cts;
        opens = open_all read.new is.lane parts is.opens;
      };
    }
