-- The table as a journal of calls that are two each.
use Rattle.std.proofs.Common.{◌≡◌, ℕ, zero, suc, ◌+◌, ◌*◌, ◌<◌, ◌≤◌, ◌&&◌, Bool, true, false, List, [], ◌∷◌, ◌++◌, length, map, drop, get_or, Option, Some, None, refl, sym, ap, ◌∙◌, subst, inl, inr, append_assoc, arith}
use Rattle.std.specs.Prelude.{slice_get, slice_index_or}
use Rattle.std.specs.List.{All, list_all}
use Rattle.std.proofs.lemmas.Bool.{cases_lt}
use Rattle.std.proofs.lemmas.List.{length-map, get_or_past}
use Rattle.std.proofs.lemmas.List.Elements.{All-head, All-tail}
use Rattle.std.proofs.lemmas.Option.{slice_get_within}
use Rattle.call_places.specs.declared.entries.Entry.{Entry}
use Rattle.call_places.specs.declared.entries.Mark.{Mark}
use Rattle.call_places.specs.declared.entries.Place.{Place}
use Rattle.hpke_context.specs.Answers.{Item}
use Rattle.hpke_context.specs.Contexts.{ContextView}
use Rattle.context_books.specs.Batches.{Ask, Batch, lane_of, item_in_call, IsServed}
use Rattle.context_books.specs.Checks.{is_legal, is_legal_history}
use Rattle.context_books.specs.Legal.{Legal}
use Rattle.context_books.specs.Histories.{places, marks_at}
use Rattle.context_books.proofs.Checking.{legal_iff}
use Rattle.context_books.proofs.CheckingHistory.{legal_history_iff}
use Rattle.context_books.proofs.Marks.{legal_alone}
use Rattle.context_books.proofs.Members.{contains_in, in_map, at_in, value_at}
use Rattle.context_books.specs.Lists.{In}
use Rattle.context_books.proofs.Truths.{and_left, both_true, true_all, true_lt}
use Rattle.batch_plans.specs.Within.{IsWithinLimits}
use Rattle.batch_plans.specs.declared.plan.Plan.{Plan}
use Rattle.batch_plans.specs.declared.plan.CallLine.{CallLine}
use Rattle.batch_plans.specs.ReplyText.{numbered}
use Rattle.batch_plans.proofs.Numbering.{length-numbered}
use Rattle.context_books.specs.Asks.{ask_of}
use Rattle.context_books.specs.Live.{noting, looked_up, looked_up_plan, LiveRun}
use Rattle.context_books.specs.LiveChecks.{note_ask, pairs, asks_with_notes, note_mark, call_mark, with_table}
use Rattle.result_lines.specs.Journals.{is_journal, stamps_rise}
use Rattle.result_lines.proofs.Limited.{IsLine, calls_few}
use Rattle.journal_check.specs.declared.asks.Asked.{Asked}
use Rattle.journal_check.specs.Asks.{size_of, size_in, sizes_of, AreFew}
use Rattle.journal_check.specs.Tables.{written, live_along, pairs_by, all_pairs_by, lane_lengths, is_low, is_low_note, are_low}
use Rattle.journal_check.proofs.Asking.{call_size, lane_sizes}
use Rattle.journal_check.proofs.Walks.{drop_next}

-- ---- what the calls ask that are two each

module _ (plan : Plan) (standing : List (Option ContextView)) (calls : List (List CallLine)) (journals : List (List Mark)) (notes : List Entry) where
  abbrev live : LiveRun
  live = live_along plan standing calls journals notes

  abbrev table : ℕ
  table = length journals

  -- the calls of a lane as they were served
  abbrev own : ℕ → ℕ → List CallLine → List CallLine
  own lane number cs = numbered (looked_up (written plan calls) notes lane) number cs

  abbrev asks : ℕ → ℕ → List CallLine → List Ask
  asks lane number cs =
      pairs (λ call. note_ask table (noting (written plan calls) standing call))
      (λ n call. ask_of (looked_up_plan (written plan calls) notes) standing (looked_up (written plan calls) notes lane n call)) number cs

  pairs_are : (lane number : ℕ) (cs : List CallLine) → All (IsLine plan) (own lane number cs)
      → pairs_by plan standing table cs (own lane number cs) ≡ map size_of (asks lane number cs)
  pairs_are lane number [] within = refl
  pairs_are lane number (call ∷ cs) within = (λ i.
      size_of (note_ask table (noting plan standing call))
      ∷ call_size plan standing (looked_up (written plan calls) notes lane number call) (All-head (IsLine plan) _ _ within) i
      ∷ pairs_are lane (number + 1) cs (All-tail (IsLine plan) _ _ within) i)

  all_pairs_are : (lane : ℕ) (lanes : List (List CallLine)) → All (All (IsLine plan)) (numbered (λ l cs. own l 0 cs) lane lanes)
      → all_pairs_by plan standing table lanes (numbered (λ l cs. own l 0 cs) lane lanes) ≡ map (map size_of) (numbered (λ l cs. asks l 0 cs) lane lanes)
  all_pairs_are lane [] within = refl
  all_pairs_are lane (cs ∷ lanes) within = (λ i.
      pairs_are lane 0 cs (All-head (All (IsLine plan)) _ _ within) i
      ∷ all_pairs_are (lane + 1) lanes (All-tail (All (IsLine plan)) _ _ within) i)

  module _ (within : IsWithinLimits plan) (served : plan.lanes ≡ (looked_up_plan (written plan calls) notes).lanes) where
    pub paired : all_pairs_by plan standing table calls plan.lanes ≡ sizes_of (asks_with_notes live)
    paired =
        ap (all_pairs_by plan standing table calls) served
        ∙ all_pairs_are 0 calls (subst (All (All (IsLine plan))) served within.call_lines)

    lengths_from : (lane : ℕ) (lanes : List (List CallLine)) → lane_lengths lanes ≡ lane_lengths (numbered (λ l cs. own l 0 cs) lane lanes)
    lengths_from lane [] = refl
    lengths_from lane (cs ∷ lanes) = (λ i.
        sym (length-numbered (looked_up (written plan calls) notes lane) 0 cs) i ∷ lengths_from (lane + 1) lanes i)

    -- each lane has as many calls as it was served
    pub as_long : lane_lengths calls ≡ lane_lengths plan.lanes
    as_long = lengths_from 0 calls ∙ ap lane_lengths (sym served)

-- ---- how many they are

pairs_size : (plan : Plan) (standing : List (Option ContextView)) (table : ℕ) (cs served : List CallLine) → length (pairs_by plan standing table cs served) ≤ 2 * length cs
pairs_size plan standing table [] served = omega arith
pairs_size plan standing table (call ∷ cs) [] = omega arith
pairs_size plan standing table (call ∷ cs) (own ∷ served) = let rest = pairs_size plan standing table cs served in omega arith

all_pairs_size : (plan : Plan) (standing : List (Option ContextView)) (table : ℕ) (lanes served : List (List CallLine)) (lane : ℕ)
    → length (slice_index_or (all_pairs_by plan standing table lanes served) lane []) ≤ 2 * length (slice_index_or lanes lane [])
all_pairs_size plan standing table [] served lane = omega arith
all_pairs_size plan standing table (cs ∷ lanes) [] lane = omega arith
all_pairs_size plan standing table (cs ∷ lanes) (own ∷ served) zero = pairs_size plan standing table cs own
all_pairs_size plan standing table (cs ∷ lanes) (own ∷ served) (suc lane) = all_pairs_size plan standing table lanes served lane

all_pairs_count : (plan : Plan) (standing : List (Option ContextView)) (table : ℕ) (lanes served : List (List CallLine)) → length (all_pairs_by plan standing table lanes served) ≤ length lanes
all_pairs_count plan standing table [] served = omega arith
all_pairs_count plan standing table (cs ∷ lanes) [] = omega arith
all_pairs_count plan standing table (cs ∷ lanes) (own ∷ served) = let rest = all_pairs_count plan standing table lanes served in omega arith

-- lanes of the same lengths
pub length_at : (lanes others : List (List CallLine)) → lane_lengths lanes ≡ lane_lengths others → (lane : ℕ)
    → length (slice_index_or lanes lane []) ≡ length (slice_index_or others lane [])
length_at [] [] same lane = refl
length_at [] (cs ∷ others) same lane = absurd cc
length_at (cs ∷ lanes) [] same lane = absurd cc
length_at (cs ∷ lanes) (ds ∷ others) same zero = cc
length_at (cs ∷ lanes) (ds ∷ others) same (suc lane) = length_at lanes others (let rest : lane_lengths lanes ≡ lane_lengths others = cc in rest) lane

pub as_many_lanes : (lanes others : List (List CallLine)) → lane_lengths lanes ≡ lane_lengths others → length lanes ≡ length others
as_many_lanes lanes others same = sym (length-map lanes (λ cs. length cs)) ∙ ap length same ∙ length-map others (λ cs. length cs)

lane_few : (plan : Plan) (lane : ℕ) → IsWithinLimits plan → length (slice_index_or plan.lanes lane []) ≤ 65536
lane_few plan lane within = elim (cases_lt lane (length plan.lanes)) [
  | inl low ↦ calls_few plan lane [] within low
  | inr high ↦ (let none : length (slice_index_or plan.lanes lane []) ≡ 0 = ap length (get_or_past plan.lanes lane [] high) in omega arith)
]

module _ (plan : Plan) (standing : List (Option ContextView)) (table : ℕ) (calls : List (List CallLine)) (within : IsWithinLimits plan) (same : lane_lengths calls ≡ lane_lengths plan.lanes) where
  pub pair_lane : (lane : ℕ) → length (slice_index_or (all_pairs_by plan standing table calls plan.lanes) lane []) ≤ 131072
  pair_lane lane =
      let size = all_pairs_size plan standing table calls plan.lanes lane in
      let alike = length_at calls plan.lanes same lane in
      let few = lane_few plan lane within in
      omega arith

  pub pairs_few : AreFew (all_pairs_by plan standing table calls plan.lanes)
  pairs_few = record {
    lanes =
        let count = all_pairs_count plan standing table calls plan.lanes in
        let alike = as_many_lanes calls plan.lanes same in
        let few = within.lanes in
        omega arith;
    calls = λ lane. (let few = pair_lane lane in omega arith);
  }

-- ---- calls that are there

no_item : (x : ℕ × Item) → None ≡ Some x → ⊥
no_item x e = cc

-- a place that is served is of a call of its lane
pub call_there : (batch : Batch) (context : ℕ) (p : Place) → IsServed batch context p → p.call < length (lane_of batch p.lane)
call_there batch context p served = go (slice_get (lane_of batch p.lane) p.call) refl served.1
  where
    go : (o : Option Ask) → slice_get (lane_of batch p.lane) p.call ≡ o → item_in_call o p.item ≡ Some (context, served.0) → p.call < length (lane_of batch p.lane)
    go None at item = absurd (no_item (context, served.0) item)
    go (Some ask) at item = slice_get_within (lane_of batch p.lane) p.call ask at

legal_there : (batch : Batch) (context : ℕ) (marks : List Mark) → is_legal batch context (places marks) ≡ true → (m : Mark) → In m marks
    → m.place.call < length (lane_of batch m.place.lane)
legal_there batch context marks legal m here =
    call_there batch context m.place
    ((((legal_iff batch context (places marks)).0 legal).served m.place).0 (contains_in (places marks) m.place (in_map (λ (k : Mark). k.place) m marks here)))

journals_at : (js : List (List Mark)) (rest : List (List Mark)) (c : ℕ) → c < length js → marks_at (map (map call_mark) js ++ rest) c ≡ map call_mark (marks_at js c)
journals_at [] rest c low = absurd (omega arith)
journals_at (marks ∷ js) rest zero low = refl
journals_at (marks ∷ js) rest (suc c) low = journals_at js rest c (omega arith)

table_at : (js : List (List Mark)) (marks : List Mark) → marks_at (map (map call_mark) js ++ (marks ∷ [])) (length js) ≡ marks
table_at [] marks = refl
table_at (own ∷ js) marks = table_at js marks

module _ (plan : Plan) (standing : List (Option ContextView)) (calls : List (List CallLine)) (journals : List (List Mark)) (notes : List Entry)
    (within : IsWithinLimits plan) (served : plan.lanes ≡ (looked_up_plan (written plan calls) notes).lanes) where
  abbrev run : LiveRun
  run = live_along plan standing calls journals notes

  lane_low : (lane : ℕ) → length (lane_of (asks_with_notes run) lane) ≤ 131072
  lane_low lane =
      let same = as_long plan standing calls journals notes within served in
      let few = pair_lane plan standing (length journals) calls within same lane in
      let size : length (slice_index_or (all_pairs_by plan standing (length journals) calls plan.lanes) lane []) ≡ length (lane_of (asks_with_notes run) lane) =
      ap (λ (sizes : List (List Asked)). length (slice_index_or sizes lane [])) (paired plan standing calls journals notes within served)
      ∙ ap length (lane_sizes (asks_with_notes run) lane) ∙ length-map (lane_of (asks_with_notes run) lane) size_of in
      omega arith

  -- notes of calls that aren't there are no journal
  pub low_notes : (context : ℕ) → is_journal true (asks_with_notes run) context (map note_mark notes) ≡ true → list_all is_low_note notes ≡ true
  low_notes context good = true_all is_low_note notes (λ e here.
      let there = legal_there (asks_with_notes run) context (map note_mark notes) (and_left (is_legal (asks_with_notes run) context (places (map note_mark notes))) (stamps_rise (map note_mark notes)) good)
      (note_mark e) (in_map note_mark e notes here) in
      let few = lane_low e.place.lane in
      true_lt e.place.call 65536 (omega arith))

  -- and places of such calls no history
  pub low_all : is_legal_history (asks_with_notes run) (with_table run) ≡ true → are_low journals notes ≡ true
  low_all good =
      let t = (legal_history_iff (asks_with_notes run) (with_table run)).0 good in
      both_true (list_all (list_all is_low) journals) (list_all is_low_note notes)
      (true_all (list_all is_low) journals (λ own here.
      let c = at_in journals own here in
      let low = slice_get_within journals c.0 own c.1 in
      let at : marks_at journals c.0 ≡ own = value_at journals c.0 own [] c.1 in
      let is : marks_at (with_table run) c.0 ≡ map call_mark own = journals_at journals (map note_mark notes ∷ []) c.0 low ∙ ap (map call_mark) at in
      let legal = (legal_iff (asks_with_notes run) c.0 (places (map call_mark own))).1 (subst (λ (ms : List Mark). Legal (asks_with_notes run) c.0 (places ms)) is (legal_alone (asks_with_notes run) (with_table run) c.0 t)) in
      true_all is_low own (λ m k.
      let there = legal_there (asks_with_notes run) c.0 (map call_mark own) legal (call_mark m) (in_map call_mark m own k) in
      let few = lane_low m.place.lane in
      true_lt m.place.call 65536 (omega arith))))
      (let is : marks_at (with_table run) (length journals) ≡ map note_mark notes = table_at journals (map note_mark notes) in
      let legal = (legal_iff (asks_with_notes run) (length journals) (places (map note_mark notes))).1 (subst (λ (ms : List Mark). Legal (asks_with_notes run) (length journals) (places ms)) is (legal_alone (asks_with_notes run) (with_table run) (length journals) t)) in
      true_all is_low_note notes (λ e here.
      let there = legal_there (asks_with_notes run) (length journals) (map note_mark notes) legal (note_mark e) (in_map note_mark e notes here) in
      let few = lane_low e.place.lane in
      true_lt e.place.call 65536 (omega arith)))

-- a test that needs another one fails where that fails
pub fails_with : (b d : Bool) → (b ≡ true → d ≡ true) → d ≡ false → false ≡ b
fails_with true d needs e = absurd (let clash : true ≡ false = sym (needs refl) ∙ e in cc)
fails_with false d needs e = refl

-- ---- one call after another, and one lane after another

-- the note of the next call, and the call as it is served
pub pair_next : (plan : Plan) (standing : List (Option ContextView)) (table : ℕ) (calls served : List CallLine) (i : ℕ) (d e : CallLine) (note own : Asked) (made total : List Asked)
    → i < length calls → i < length served
    → note ≡ size_of (note_ask table (noting plan standing (get_or calls i d))) → own ≡ size_in standing (get_or served i e)
    → made ++ pairs_by plan standing table (drop i calls) (drop i served) ≡ total
    → ((made ++ note ∷ []) ++ own ∷ []) ++ pairs_by plan standing table (drop (i + 1) calls) (drop (i + 1) served) ≡ total
pair_next plan standing table calls served i d e note own made total low few note_is own_is so_far =
    let later = pairs_by plan standing table (drop (i + 1) calls) (drop (i + 1) served) in
    append_assoc (made ++ note ∷ []) (own ∷ []) later
    ∙ append_assoc made (note ∷ []) (own ∷ later)
    ∙ (λ j. made ++ note_is j ∷ own_is j ∷ later)
    ∙ sym (λ j. made ++ pairs_by plan standing table (drop_next calls i d low j) (drop_next served i e few j))
    ∙ so_far

pub pairs_next : (plan : Plan) (standing : List (Option ContextView)) (table : ℕ) (calls served : List (List CallLine)) (i : ℕ) (d e : List CallLine) (own : List Asked) (made total : List (List Asked))
    → i < length calls → i < length served → own ≡ pairs_by plan standing table (get_or calls i d) (get_or served i e)
    → made ++ all_pairs_by plan standing table (drop i calls) (drop i served) ≡ total
    → (made ++ own ∷ []) ++ all_pairs_by plan standing table (drop (i + 1) calls) (drop (i + 1) served) ≡ total
pairs_next plan standing table calls served i d e own made total low few is so_far =
    let later = all_pairs_by plan standing table (drop (i + 1) calls) (drop (i + 1) served) in
    append_assoc made (own ∷ []) later
    ∙ ap (λ (o : List Asked). made ++ o ∷ later) is
    ∙ sym (λ j. made ++ all_pairs_by plan standing table (drop_next calls i d low j) (drop_next served i e few j))
    ∙ so_far

pub both_hold : (one acts lives : Bool) → acts ≡ true → lives ≡ true → one ≡ ((one && acts) && lives)
both_hold one acts lives a b = sym ((λ i. (one && a i) && b i) ∙ and_true (one && true) ∙ and_true one)
  where
    and_true : (b : Bool) → (b && true) ≡ b
    and_true true = refl
    and_true false = refl
