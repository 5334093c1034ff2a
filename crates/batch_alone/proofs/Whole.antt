-- The answers of a plan whose lanes were served one after another are those of a run that is allowed.
use Rattle.std.proofs.Common.{◌≡◌, ◌<◌, ◌+◌, ℕ, zero, suc, List, [], ◌∷◌, ◌++◌, length, map, get_or, Option, Some, None, sym, refl, ap, ◌∙◌, subst, arith, ne_eqb, inl, inr}
use Rattle.std.specs.Prelude.{slice_get, slice_index_or}
use Rattle.std.specs.List.{All, range_with_len}
use Rattle.std.proofs.lemmas.List.{length-map}
use Rattle.std.proofs.lemmas.List.FromFn.{map-range_with_len_more, length-map-range_with_len}
use Rattle.std.proofs.lemmas.Simd.{map-map}
use Rattle.std.proofs.lemmas.List.Elements.{All-nil, All-cons}
use Rattle.std.proofs.lemmas.Option.{slice_get_within, slice_get-get_or, get_or_from_slice_get}
use Rattle.call_places.specs.declared.entries.Entry.{Entry}
use Rattle.call_places.specs.declared.entries.Mark.{Mark}
use Rattle.call_places.specs.declared.entries.Place.{Place}
use Rattle.call_places.specs.declared.entries.Step.TheVariants.{Note}
use Rattle.hpke_context.specs.Answers.{Item}
use Rattle.hpke_context.specs.Contexts.{ContextView}
use Rattle.context_books.specs.Batches.{Ask, Spot, place, block, items_in, context_in, item_in, item_in_call, with_context, lane_of}
use Rattle.context_books.specs.Guesses.{AllGuessed, guess_at, missed_in}
use Rattle.context_books.specs.Histories.{journals_of, marks_at, places, stamped_on}
use Rattle.context_books.specs.Merging.{IsHistory}
use Rattle.context_books.specs.Legal.{Legal, reply_of}
use Rattle.context_books.specs.Lists.{In}
use Rattle.context_books.proofs.HistoryJournals.{from}
use Rattle.context_books.proofs.Members.{value_at}
use Rattle.context_core.specs.Core.{Core, core}
use Rattle.context_core.specs.Rehearsals.{rehearsed, AreAnswersOf}
use Rattle.context_core.proofs.Allowed.{allowed, stands_of, within_contexts}
use Rattle.context_core.proofs.Schedules.{one_history}
use Rattle.batch_plans.specs.declared.plan.Plan.{Plan}
use Rattle.batch_plans.specs.declared.plan.CallLine.{CallLine}
use Rattle.batch_plans.specs.declared.plan.CallLine.TheVariants as calls
use Rattle.batch_plans.specs.declared.replies.Answers.{Answers}
use Rattle.batch_plans.specs.declared.replies.CallRefusal.{CallRefusal}
use Rattle.batch_plans.specs.declared.replies.ContextReply.{ContextReply}
use Rattle.batch_plans.specs.declared.replies.LaneAnswers.{LaneAnswers}
use Rattle.batch_plans.specs.Within.{IsWithinLimits}
use Rattle.batch_plans.specs.Lines.{batch_line}
use Rattle.batch_plans.specs.AnswersText.{given_lines, lanes_given, answered_lines, lanes_lines, UsesUp}
use Rattle.batch_plans.specs.ReplyText.{numbered, all_lines}
use Rattle.context_books.specs.Asks.{ask_unless, asked_by, ask_of, batch_of, cipher_at}
use Rattle.context_books.specs.Live.{Noting, noting, LiveRun, run_of, looked_up, looked_up_plan, live_lane_lines, LegalTable, LiveHistory, IsAllowedLive}
use Rattle.context_books.specs.LiveChecks.{note_ask, pairs, note_mark, call_mark, asks_with_notes, with_table, TellActs}
use Rattle.context_books.specs.Runs.{Run, asks_of, journal_of, guesses_of, answer_line_of, call_lines, lane_call_lines, lines_unless, served_lines}
use Rattle.context_books.specs.Standing.{call_refusal}
use Rattle.context_books.specs.ContextLines.{AreOfLines}
use Rattle.context_books.proofs.LiveChecked.{live_history_is_one_list}
use Rattle.context_books.proofs.LookedUp.{calls_looked}
use Rattle.result_lines.proofs.LiveTexts.{each_legal}
use Rattle.result_lines.proofs.LookedLimits.{looked_within, looked_lanes}
use Rattle.batch_alone.specs.LiveRuns.{live_run, IsALiveRun}
use Rattle.batch_alone.specs.Own.{with_own_replies}
use Rattle.batch_alone.specs.Tables.{table_of, restamped}
use Rattle.batch_alone.proofs.InTurn.{IsLow, table_live, table_says, table_lists}
use Rattle.batch_alone.proofs.LaneByLane.{in_order, goes_in_order}
use Rattle.batch_alone.proofs.OwnLines.{own_lines}
use Rattle.batch_alone.proofs.TableStamps.{other_stamps, others, restamps, call_spot, called_stamped, length-other_stamps}

-- ---- lists

numbered_all : {X Y Z : Type 0} (f : ℕ → X → Y) (g : Y → Z) (start : ℕ) (xs : List X)
    → map g (numbered f start xs) ≡ numbered (λ n x. g (f n x)) start xs
numbered_all f g start [] = refl
numbered_all f g start (x ∷ xs) = ap (λ l. g (f start x) ∷ l) (numbered_all f g (start + 1) xs)

same_on_range : {X : Type 0} (f g : ℕ → X) (a n : ℕ) → ((c : ℕ) → c < a + n → f c ≡ g c)
    → map f (range_with_len a n) ≡ map g (range_with_len a n)
same_on_range f g a zero same = refl
same_on_range f g a (suc n) same =
    (λ i. same a (omega arith) i ∷ same_on_range f g (a + 1) n (λ c low. same c (omega arith)) i)

-- ---- what is asked asks a context that there is

context_of_item : (o : Option Item) (d c : ℕ) (x : Item) → with_context d o ≡ Some (c, x) → d ≡ c
context_of_item None d c x e = absurd (let f : None ≡ Some (c, x) = e in cc)
context_of_item (Some y) d c x e = ap pair e
  where
    pair : Option (ℕ × Item) → ℕ
    pair None = d
    pair (Some z) = z.0

low_item : (n : ℕ) (a : Ask) → IsLow n a → (i c : ℕ) (x : Item) → item_in a i ≡ Some (c, x)
    → c < n
low_item n a low i c x e = step (slice_get (items_in a) i) refl e
  where
    step : (o : Option Item) → slice_get (items_in a) i ≡ o
        → with_context (context_in a) o ≡ Some (c, x) → c < n
    step None is e = absurd (let f : None ≡ Some (c, x) = e in cc)
    step (Some y) is e =
        let within = slice_get_within (items_in a) i y is in
        let under = low (omega arith) in
        let same = context_of_item (Some y) (context_in a) c x e in
        omega arith

note_item : (n : ℕ) (o : Option Noting) (i c : ℕ) (x : Item)
    → item_in (note_ask n o) i ≡ Some (c, x) → c < n + 1
note_item n None i c x e = absurd (let f : None ≡ Some (c, x) = e in cc)
note_item n (Some m) i c x e =
    let same = context_of_item (slice_get (items_in (note_ask n (Some m))) i) n c x e in omega arith

module _ (n : ℕ) (note : CallLine → Option Noting) (ask : ℕ → ℕ → CallLine → Ask)
    (low : (l k : ℕ) (call : CallLine) → IsLow n (ask l k call)) where
  abbrev two : ℕ → ℕ → List CallLine → List Ask
  two l k cs = pairs (λ call. note_ask n (note call)) (ask l) k cs

  calls_below : (l k : ℕ) (cs : List CallLine) (j i c : ℕ) (x : Item)
      → item_in_call (slice_get (two l k cs) j) i ≡ Some (c, x) → c < n + 1
  calls_below l k [] j i c x e = absurd (let f : None ≡ Some (c, x) = e in cc)
  calls_below l k (call ∷ cs) zero i c x e = note_item n (note call) i c x e
  calls_below l k (call ∷ cs) (suc zero) i c x e =
      let under = low_item n (ask l k call) (low l k call) i c x e in omega arith
  calls_below l k (call ∷ cs) (suc (suc j)) i c x e = calls_below l (k + 1) cs j i c x e

  lanes_below : (l : ℕ) (lanes : List (List CallLine)) (m j i c : ℕ) (x : Item)
      → item_in_call (slice_get (lane_of (numbered (λ l cs. two l 0 cs) l lanes) m) j) i
      ≡ Some (c, x) → c < n + 1
  lanes_below l [] m j i c x e = absurd (let f : None ≡ Some (c, x) = e in cc)
  lanes_below l (cs ∷ lanes) zero j i c x e = calls_below l 0 cs j i c x e
  lanes_below l (cs ∷ lanes) (suc m) j i c x e = lanes_below (l + 1) lanes m j i c x e

-- ---- all of a plan

module _ (plan : Plan) (contexts : List (Option ContextView)) (within : IsWithinLimits plan)
    (standing : AreOfLines plan.contexts contexts) (replies : List ContextReply) where
  abbrev pub notes : List Entry
  notes = (table_of plan contexts).notes

  abbrev pub stamps : List ℕ
  stamps = (table_of plan contexts).stamps

  abbrev pub looked : Plan
  looked = looked_up_plan plan notes

  -- the plan that is rehearsed
  abbrev pub placed : Plan
  placed = record plan { lanes = looked.lanes; added = 0 }

  abbrev pub run : Run
  run = rehearsed placed contexts []

  abbrev pub last : Core
  last = core (batch_of placed contexts) (cipher_at contexts) []

  abbrev pub live : LiveRun
  live =
      record {
        plan = plan;
        replies = replies;
        standing = contexts;
        journals = map (map (restamped stamps)) run.journals;
        guesses = run.guesses;
        notes = notes;
      }

  pub placed_within : IsWithinLimits placed
  placed_within =
      let l = looked_within plan notes within in
      record {
        version = l.version;
        pool = l.pool;
        keys = l.keys;
        contexts = l.contexts;
        added = omega arith;
        lanes = l.lanes;
        items = l.items;
        exported = l.exported;
        texts = l.texts;
        key_lines = l.key_lines;
        context_lines = l.context_lines;
        item_count = l.item_count;
        item_list = l.item_list;
        call_lines = l.call_lines;
      }

  -- as many journals as contexts
  count : length live.journals ≡ length plan.contexts
  count = length-map run.journals (map (restamped stamps))
      ∙ length-map-range_with_len (λ c. stamped_on c 0 last.history) 0 (length plan.contexts)

  low : (call : CallLine) → IsLow (length live.journals) (ask_of plan contexts call)
  low call = by_refusal (call_refusal contexts call) refl
    where
      of_kind : (c : CallLine) → call_refusal contexts c ≡ None
          → IsLow (length live.journals) (asked_by plan c)
      of_kind (calls.Seal context item) free some =
          let s = stands_of contexts (calls.Seal context item) free in
          let under = within_contexts contexts context s.0 s.1 in
          let same = standing.count in let many = count in omega arith
      of_kind (calls.Unseal context item) free some =
          let s = stands_of contexts (calls.Unseal context item) free in
          let under = within_contexts contexts context s.0 s.1 in
          let same = standing.count in let many = count in omega arith
      of_kind (calls.UnsealAll context first m) free some =
          let s = stands_of contexts (calls.UnsealAll context first m) free in
          let under = within_contexts contexts context s.0 s.1 in
          let same = standing.count in let many = count in omega arith
      of_kind (calls.Export context exporter size) free some = absurd (omega arith)
      of_kind (calls.Add name) free some = absurd (omega arith)
      of_kind (calls.Retire name) free some = absurd (omega arith)

      by_refusal : (o : Option CallRefusal) → call_refusal contexts call ≡ o
          → IsLow (length live.journals) (ask_unless o (asked_by plan call))
      by_refusal None free some = of_kind call free some
      by_refusal (Some why) is some = absurd (omega arith)

  abbrev ask : ℕ → ℕ → CallLine → Ask
  ask l k call = ask_of plan contexts (looked_up plan notes l k call)

  abbrev pub n : ℕ
  n = length live.journals

  -- all notes and places in their order
  abbrev pub all : List Spot
  all = in_order 0 (asks_with_notes live)

  -- the places of calls alone
  alone_is : in_order 0 (numbered (λ l cs. numbered (ask l) 0 cs) 0 plan.lanes) ≡ last.history
  alone_is =
      sym (goes_in_order (batch_of placed contexts) (cipher_at contexts)
      ∙ ap (in_order 0) (numbered_all (λ l cs. numbered (looked_up plan notes l) 0 cs)
      (map (ask_of placed contexts)) 0 plan.lanes
      ∙ (λ i. numbered (λ l cs. numbered_all (looked_up plan notes l) (ask_of placed contexts) 0 cs i)
      0 plan.lanes)))

  -- ---- one history

  history : IsHistory (asks_with_notes live) (n + 1) all
  history = subst (IsHistory (asks_with_notes live) (n + 1))
      (goes_in_order (asks_with_notes live) (cipher_at contexts))
      (one_history (asks_with_notes live) (cipher_at contexts) [] (n + 1)
      (λ c p served. lanes_below n (noting plan contexts) ask (λ l k call. low (looked_up plan notes l k call))
      0 plan.lanes p.lane p.call p.item c served.0 served.1))

  pub stamps_are : stamps ≡ other_stamps n 0 all
  stamps_are = (table_lists plan contexts notes n low refl).stamps

  pub others_are : others n all ≡ map call_spot last.history
  others_are = (table_lists plan contexts notes n low refl).others ∙ ap (map call_spot) alone_is

  journal_is : (c : ℕ) → c < n
      → map call_mark (map (restamped stamps) (stamped_on c 0 last.history)) ≡ stamped_on c 0 all
  journal_is c under =
      let journal = stamped_on c 0 last.history in
      map-map call_mark (restamped stamps) journal
      ∙ sym (map-map (restamped stamps) call_mark journal)
      ∙ ap (map (restamped stamps)) (sym (called_stamped c 0 last.history))
      ∙ (λ i. map (restamped (stamps_are i)) (stamped_on c 0 (sym others_are i)))
      ∙ sym (restamps n c (ne_eqb n c (λ e. absurd (omega arith))) [] 0 all)

  table_is : with_table live ≡ journals_of (n + 1) all
  table_is =
      let f = λ (c : ℕ). stamped_on c 0 all in
      let g = λ (c : ℕ). map call_mark (map (restamped stamps) (stamped_on c 0 last.history)) in
      let m = length plan.contexts in
      (λ i. map-map (map call_mark) (map (restamped stamps)) run.journals i ++ (map note_mark notes ∷ []))
      ∙ ap (λ js. js ++ (map note_mark notes ∷ []))
      (map-map (λ (journal : List Mark). map call_mark (map (restamped stamps) journal))
      (λ (c : ℕ). stamped_on c 0 last.history) (range_with_len 0 m))
      ∙ ap (λ k. map g (range_with_len 0 k) ++ (map note_mark notes ∷ [])) (sym count)
      ∙ (λ i. same_on_range g f 0 n (λ c under. journal_is c (omega arith)) i
      ++ ((table_lists plan contexts notes n low refl).noted i ∷ []))
      ∙ sym (map-range_with_len_more f 0 n n (omega arith))

  acts : TellActs plan contexts notes
  acts e m has noted =
      let s = table_says plan contexts e has in
      let both : Some s.noting_is ≡ Some m = sym s.at ∙ noted.noting_is in
      let same : s.noting_is ≡ m = cc in
      (s.live, s.step ∙ ap (λ (x : Noting). Note x.name x.act s.live) same)

  pub both_legal : LegalTable plan contexts notes × LiveHistory (asks_of (run_of live)) live.journals notes
  both_legal = (live_history_is_one_list live).1
      (all, history, table_is, acts, table_live plan contexts)

  -- ---- the same places

  marks_same : (js : List (List Mark)) (c : ℕ)
      → places (marks_at (map (map (restamped stamps)) js) c) ≡ places (marks_at js c)
  marks_same [] c = refl
  marks_same (j ∷ js) zero = map-map (λ (m : Mark). m.place) (restamped stamps) j
  marks_same (j ∷ js) (suc c) = marks_same js c

  same_places : (c : ℕ) → journal_of run c ≡ journal_of (run_of live) c
  same_places c = sym (marks_same run.journals c)

  guessed_same : (lane : ℕ) → lane < length plan.lanes
      → AllGuessed (asks_of (run_of live)) (cipher_at contexts) (journal_of (run_of live)) lane
      (guesses_of (run_of live) lane)
  guessed_same lane there =
      let a = allowed placed contexts [] placed_within standing in
      let many = looked_lanes plan notes within in
      subst (λ (js : ℕ → List Place). AllGuessed (asks_of run) (cipher_at contexts) js lane
      (guesses_of run lane)) (λ i c. same_places c i) (a.guessed lane (omega arith))

  pub is_allowed : IsAllowedLive live
  is_allowed = record {
    journals = count;
    lanes = (let a = allowed placed contexts [] placed_within standing in
        a.lanes ∙ looked_lanes plan notes within);
    table = both_legal.0;
    history = both_legal.1;
    guessed = guessed_same;
  }

  legal : (c : ℕ) → Legal (asks_of (run_of live)) c (journal_of (run_of live) c)
  legal = each_legal live both_legal.1

  -- ---- the same lines

  items_same : (lane k : ℕ) (call : CallLine)
      → served_lines run lane k call ≡ served_lines (run_of live) lane k call
  items_same lane k (calls.Seal context item) =
      ap (λ ps. answer_line_of (reply_of (asks_of run) (cipher_at contexts context) ps (place lane k 0))
      ∷ []) (same_places context)
  items_same lane k (calls.Unseal context item) =
      ap (λ ps. answer_line_of (reply_of (asks_of run) (cipher_at contexts context) ps (place lane k 0))
      ∷ []) (same_places context)
  items_same lane k (calls.UnsealAll context first m) =
      let guess = guess_at (lane_of (asks_of run) lane) (guesses_of run lane) k in
      ap (λ ps. map (λ p. answer_line_of (reply_of (asks_of run) (cipher_at contexts context) ps p))
      (block lane k 0 m)
      ++ batch_line guess (missed_in (asks_of run) (cipher_at contexts context) ps lane k m guess) ∷ [])
      (same_places context)
  items_same lane k (calls.Export context exporter size) = refl
  items_same lane k (calls.Add name) = refl
  items_same lane k (calls.Retire name) = refl

  lines_same : (lane k : ℕ) (call : CallLine)
      → call_lines run lane k call ≡ call_lines (run_of live) lane k call
  lines_same lane k call = ap (lines_unless (call_refusal contexts call)) (items_same lane k call)

  -- ---- the lines of a lane

  lane_lines : (lane : ℕ) → lane < length plan.lanes → (given : LaneAnswers)
      → UsesUp (slice_index_or looked.lanes lane []) given.replies given.batches
      → answered_lines (slice_index_or looked.lanes lane []) given
      ≡ lane_call_lines run lane (slice_index_or looked.lanes lane [])
      → given_lines (slice_index_or plan.lanes lane [])
      (with_own_replies plan replies notes lane (slice_index_or plan.lanes lane []) given)
      ≡ live_lane_lines live lane (slice_index_or plan.lanes lane [])
  lane_lines lane there given uses same =
      let l = looked_within plan notes within in
      let many = looked_lanes plan notes within in
      own_lines live lane given.pool l legal (slice_index_or plan.lanes lane []) given.replies
      given.batches (calls_looked plan notes lane) uses
      (l.call_lines lane [] (omega arith))
      (same ∙ (λ i. all_lines (numbered (λ k call. lines_same lane k call i) 0
      (slice_index_or looked.lanes lane []))))

-- ---- all lanes

given_numbered : (f : ℕ → List CallLine → List (List ℕ)) (start : ℕ) (lanes : List (List CallLine))
    (answers : List LaneAnswers) → length answers ≡ length lanes
    → ((i : ℕ) (cs : List CallLine) (one : LaneAnswers) → slice_get lanes i ≡ Some cs
    → slice_get answers i ≡ Some one → given_lines cs one ≡ f (start + i) cs)
    → lanes_given lanes answers ≡ numbered f start lanes
given_numbered f start [] answers same each = refl
given_numbered f start (cs ∷ lanes) [] same each = absurd (omega arith)
given_numbered f start (cs ∷ lanes) (one ∷ answers) same each =
    let first = each 0 cs one refl refl
    ∙ ap (λ n. f n cs) (let e : start + 0 ≡ start = omega arith in e) in
    let rest = given_numbered f (start + 1) lanes answers (omega arith)
    (λ i others other a b. each (suc i) others other a b
    ∙ ap (λ n. f n others) (let e : start + suc i ≡ start + 1 + i = omega arith in e)) in
    (λ i. first i ∷ rest i)

lines_at : (f : ℕ → List CallLine → List (List ℕ)) (start : ℕ) (lanes : List (List CallLine))
    (answers : List LaneAnswers) → lanes_lines lanes answers ≡ numbered f start lanes
    → (i : ℕ) (cs : List CallLine) (one : LaneAnswers) → slice_get lanes i ≡ Some cs
    → slice_get answers i ≡ Some one → answered_lines cs one ≡ f (start + i) cs
lines_at f start [] answers same i cs one a b = absurd (let e : None ≡ Some cs = a in cc)
lines_at f start (l ∷ lanes) [] same i cs one a b = absurd (let e : None ≡ Some one = b in cc)
lines_at f start (l ∷ lanes) (x ∷ answers) same zero cs one a b =
    let first : answered_lines l x ≡ f start l = cc in
    let lane : l ≡ cs = (let e : Some l ≡ Some cs = a in cc) in
    let answer : x ≡ one = (let e : Some x ≡ Some one = b in cc) in
    (λ i. answered_lines (sym lane i) (sym answer i)) ∙ first
    ∙ (λ i. f ((let e : start ≡ start + 0 = omega arith in e) i) (lane i))
lines_at f start (l ∷ lanes) (x ∷ answers) same (suc i) cs one a b =
    let rest : lanes_lines lanes answers ≡ numbered f (start + 1) lanes = cc in
    lines_at f (start + 1) lanes answers rest i cs one a b
    ∙ ap (λ n. f n cs) (let e : start + 1 + i ≡ start + suc i = omega arith in e)

module _ (plan : Plan) (contexts : List (Option ContextView)) (within : IsWithinLimits plan)
    (standing : AreOfLines plan.contexts contexts) where
  abbrev pub table_notes : List Entry
  table_notes = (table_of plan contexts).notes

  abbrev pub rehearsal : Run
  rehearsal = rehearsed (placed plan contexts within standing []) contexts []

  -- the answers are those of the rehearsal, with the table, and with what it changes
  pub record IsMade (mid answers : Answers) : Type 0 where
    pub mid_is : AreAnswersOf rehearsal mid
    pub mid_lanes : length mid.lanes ≡ length plan.lanes
    pub notes : answers.notes ≡ table_notes
    pub journals : answers.journals
        ≡ map (map (restamped (table_of plan contexts).stamps)) mid.journals
    pub lanes : length answers.lanes ≡ length mid.lanes
    pub each : (l : ℕ) (one : LaneAnswers) → l < length mid.lanes
        → get_or answers.lanes l one ≡ with_own_replies plan answers.contexts table_notes l
        (get_or plan.lanes l []) (get_or mid.lanes l one)

  pub is_a_live_run : (mid answers : Answers) → IsMade mid answers
      → IsALiveRun plan contexts answers
  is_a_live_run mid answers t =
      let adds = answers.contexts in
      let whole : LiveRun = live plan contexts within standing adds in
      let run_is : whole ≡ live_run plan contexts answers rehearsal.guesses = (λ i. record {
        plan = plan;
        replies = adds;
        standing = contexts;
        journals = (sym (t.journals ∙ ap (map (map (restamped (table_of plan contexts).stamps)))
            t.mid_is.journals)) i;
        guesses = rehearsal.guesses;
        notes = sym t.notes i;
      }) in
      let looked_calls = (looked_up_plan plan table_notes).lanes in
      let many = looked_lanes plan table_notes within in
      record {
        guesses = rehearsal.guesses;
        allowed = subst IsAllowedLive run_is (is_allowed plan contexts within standing adds);
        lines = given_numbered (live_lane_lines whole) 0 plan.lanes answers.lanes
            (t.lanes ∙ t.mid_lanes)
            (λ i cs one a b.
            let there : i < length plan.lanes = slice_get_within plan.lanes i cs a in
            let low : i < length mid.lanes = (let e = t.mid_lanes in omega arith) in
            let less : i < length looked_calls = omega arith in
            let given = get_or mid.lanes i one in
            let mid_at : slice_get mid.lanes i ≡ Some given = slice_get-get_or mid.lanes i one low in
            let calls_at : slice_get looked_calls i ≡ Some (get_or looked_calls i []) =
            slice_get-get_or looked_calls i [] less in
            let own : get_or plan.lanes i [] ≡ cs = value_at plan.lanes i cs [] a in
            let start : 0 + i ≡ i = omega arith in
            let same = lines_at (lane_call_lines rehearsal) 0 looked_calls mid.lanes t.mid_is.lanes i
            (get_or looked_calls i []) given calls_at mid_at
            ∙ ap (λ n. lane_call_lines rehearsal n (get_or looked_calls i [])) start in
            let lines = lane_lines plan contexts within standing adds i there given
            (t.mid_is.used i given mid_at) same in
            (λ j. given_lines (sym own j) ((sym (get_or_from_slice_get answers.lanes i one one b)
            ∙ t.each i one low) j))
            ∙ lines ∙ (λ j. live_lane_lines whole (sym start j) (own j)))
            ∙ ap (λ (l : LiveRun). numbered (live_lane_lines l) 0 plan.lanes) run_is;
      }

  -- ---- what the bodies ask for

  pub stamps_within : (mid : Answers) → AreAnswersOf rehearsal mid
      → All (All (λ (m : Mark). m.stamp < length (table_of plan contexts).stamps)) mid.journals
  stamps_within mid is = subst (All (All Below)) (sym is.journals) each
    where
      Below : Mark → Type 0
      Below m = m.stamp < length (table_of plan contexts).stamps

      many : length (table_of plan contexts).stamps
          ≡ length (last plan contexts within standing []).history
      many = ap length (stamps_are plan contexts within standing [])
          ∙ length-other_stamps (n plan contexts within standing []) 0
          (all plan contexts within standing [])
          ∙ ap length (others_are plan contexts within standing [])
          ∙ length-map (last plan contexts within standing []).history call_spot

      of_marks : (c : ℕ) (m : Mark)
          → In m (stamped_on c 0 (last plan contexts within standing []).history) → Below m
      of_marks c m has =
          let t = from c 0 (last plan contexts within standing []).history m has in
          let index : ℕ = t.0 in
          let at : m.stamp ≡ 0 + index = t.1 in
          let under = slice_get_within (last plan contexts within standing []).history index _ t.2 in
          let size = many in
          omega arith

      all_of : (ms : List Mark) → ((m : Mark) → In m ms → Below m) → All Below ms
      all_of [] f = All-nil Below
      all_of (m ∷ ms) f = All-cons Below m ms (f m (inl refl)) (all_of ms (λ k i. f k (inr i)))

      over : (ns : List ℕ) → All (All Below)
          (map (λ c. stamped_on c 0 (last plan contexts within standing []).history) ns)
      over [] = All-nil (All Below)
      over (c ∷ ns) = All-cons (All Below) _ _ (all_of _ (of_marks c)) (over ns)

      each : All (All Below) rehearsal.journals
      each = over (range_with_len 0 (length plan.contexts))
