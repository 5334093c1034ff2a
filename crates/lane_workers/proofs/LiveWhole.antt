-- From all lanes that were served of a plan whose lanes add and retire contexts, and the contexts and
-- the table that are closed, to one run.
use Rattle.std.proofs.Common.{◌≡◌, ℕ, ◌+◌, ◌<◌, ◌≤◌, List, [], ◌∷◌, ◌++◌, length, map, Option, Some, sym, refl, ap, ◌∙◌, subst, arith, inl, inr}
use Rattle.std.specs.Prelude.{slice_get, slice_index_or, Contains, flat_map}
use Rattle.std.specs.List.{All}
use Rattle.std.proofs.lemmas.Bool.{cases_lt}
use Rattle.std.proofs.lemmas.List.{get_or_past, length-map}
use Rattle.std.proofs.lemmas.List.Elements.{All-nil}
use Rattle.std.proofs.lemmas.List.FromFn.{length-map-range_with_len}
use Rattle.call_places.specs.declared.entries.Entry.{Entry}
use Rattle.call_places.specs.declared.entries.Mark.{Mark}
use Rattle.call_places.specs.Entries.{mark_of, own, stamps_of}
use Rattle.call_places.specs.Orders.{StampsRise}
use Rattle.call_places.specs.Notes.{AreLive}
use Rattle.turn_lock.specs.Passes.{PassView}
use Rattle.hpke_context.specs.Contexts.{ContextView}
use Rattle.context_books.specs.Batches.{Batch}
use Rattle.context_books.specs.Histories.{AreAllFrom0, all_stamps, marks_at, entry_places}
use Rattle.context_books.proofs.Members.{contains_in, in_contains}
use Rattle.lane_workers.specs.Showing.{Closes}
use Rattle.lane_workers.proofs.ShowingEntries.{in_own}
use Rattle.lane_workers.proofs.Shown as shown
use Rattle.lane_workers.proofs.Shown.{all_from_0, all_stamps-books}
use Rattle.batch_plans.specs.declared.plan.Plan.{Plan}
use Rattle.batch_plans.specs.declared.plan.CallLine.{CallLine}
use Rattle.batch_plans.specs.declared.plan.CallLine.TheVariants as calls
use Rattle.batch_plans.specs.declared.replies.ContextReply.{ContextReply}
use Rattle.batch_plans.specs.declared.replies.LaneAnswers.{LaneAnswers}
use Rattle.batch_plans.specs.Within.{IsWithinLimits}
use Rattle.batch_plans.specs.AnswersText.{given_lines, lanes_given}
use Rattle.batch_plans.specs.ReplyText.{numbered, all_lines}
use Rattle.batch_plans.proofs.Numbering.{length-numbered}
use Rattle.context_books.specs.Asks.{batch_of, cipher_at}
use Rattle.context_books.specs.Live.{looked_up, looked_up_plan, LiveRun, run_of, retire_line, live_call_lines, live_lane_lines, LegalTable, IsAllowedLive}
use Rattle.context_books.specs.Runs.{call_lines}
use Rattle.context_books.proofs.LiveParts.{LiveParts, of_parts}
use Rattle.context_books.proofs.LookedUp.{live_same, looked_same}
use Rattle.context_books.specs.LaneCalls.{lane_calls}
use Rattle.context_books.proofs.Within.{line_within}
use Rattle.lane_workers.specs.Served.{Told, told_lines, seen_of}
use Rattle.lane_workers.specs.LiveServed.{noted_from, NotesItsCall, live_told_lines, LiveLaneIsServed}
use Rattle.lane_workers.specs.Gathered.{no_answers}
use Rattle.lane_workers.specs.LiveGathered.{AllLiveLanesServed, AllLiveClosed, AreOfALiveRun}
use Rattle.lane_workers.proofs.Gathered.{has_items}
use Rattle.lane_workers.proofs.LiveTables.{legal_table}
use Rattle.lane_workers.proofs.LookedUp.{line_looked, looked_items, lane_same, shows_same, openings_same, told_same}
use Rattle.lane_workers.proofs.Showing as showing
use Rattle.lane_workers.proofs.Showing.{LaneTells, numbered_same}
use Rattle.lane_workers.proofs.Whole.{nobody, joined}

live_nobody : (plan : Plan) (replies : List ContextReply) (standing : List (Option ContextView))
    (lane : ℕ) → length plan.lanes ≤ lane
    → LiveLaneIsServed plan replies standing lane [] [] no_answers
live_nobody plan replies standing lane high =
    let looked = looked_up_plan plan [] in
    let count : length looked.lanes ≡ length plan.lanes = length-numbered _ 0 plan.lanes in
    let t = nobody looked standing lane (omega arith) in
    let none : lane_calls plan lane ≡ [] = get_or_past plan.lanes lane [] high in
    record {
      told = t.told;
      places = sym (ap (noted_from plan standing lane 0) none);
      acts = All-nil (NotesItsCall plan standing);
      shows = t.shows;
      openings = t.openings;
      in_order = t.in_order;
      noted_in_order = record {
        rise = λ e f has. absurd (in_contains [] e has);
        after = λ c e f has. absurd (in_contains [] e has);
        before = λ c e f has. absurd (in_contains [] e has);
      };
      lines = subst (λ (cs : List CallLine). given_lines cs no_answers
          ≡ all_lines (numbered (live_told_lines plan replies standing [] t.told lane) 0 cs))
          (sym none) refl;
      printable = t.printable;
    }

module _ (plan : Plan) (replies : List ContextReply) (standing : List (Option ContextView))
    (tables : ℕ → List Entry) (passes : ℕ → List (Option PassView)) (answers : ℕ → LaneAnswers)
    (served : (lane : ℕ)
    → LiveLaneIsServed plan replies standing lane (tables lane) (passes lane) (answers lane))
    (books : List (List Entry)) (notes : List Entry)
    (same : (lane : ℕ) → own lane (tables lane) ≡ own lane notes) where
  abbrev looked : Plan
  looked = looked_up_plan plan notes

  abbrev batch : Batch
  batch = batch_of looked standing

  abbrev told : ℕ → Told
  told lane = (served lane).told

  abbrev seen : ℕ → ℕ → List Entry
  seen lane context = seen_of (passes lane) context

  lane_count : length looked.lanes ≡ length plan.lanes
  lane_count = length-numbered _ 0 plan.lanes

  abbrev live : LiveRun
  live =
      record {
        plan = plan;
        replies = replies;
        standing = standing;
        journals = map (map mark_of) books;
        guesses = (showing.run_of looked standing told seen books).guesses;
        notes = notes;
      }

  -- what each lane tells of the calls as all notes make them
  tells : (lane : ℕ) → LaneTells looked standing lane (told lane) (seen lane)
  tells lane =
      let t = served lane in
      let own_batch = batch_of (looked_up_plan plan (tables lane)) standing in
      let asks = lane_same plan standing (tables lane) notes lane (same lane) in
      record {
        shows = λ context. shows_same own_batch batch lane asks context (cipher_at standing context)
            t.told.replies (seen lane context) (t.shows context);
        openings = openings_same own_batch batch lane asks (cipher_at standing) (seen lane)
            t.told.guesses t.told.misses t.openings;
        in_order = t.in_order;
      }

  table : AreLive notes → StampsRise notes → LegalTable plan standing notes
  table = legal_table plan standing notes
      (λ lane. ap entry_places (sym (same lane)) ∙ (served lane).places)
      (λ lane. subst (All (NotesItsCall plan standing)) (same lane) (served lane).acts)

  -- a note is its lane's own, among those that the lane has seen
  note_seen : (e : Entry) → Contains notes e
      → Contains (own e.place.lane (tables e.place.lane)) e
  note_seen e has =
      let lane = e.place.lane in
      subst (λ es. Contains es e) (sym (same lane))
      (contains_in (own lane notes) e (in_own lane e notes (in_contains notes e has) refl))

  note_of : (lane : ℕ) (e : Entry) → Contains notes e → lane ≡ e.place.lane
      → Contains (own lane (tables lane)) e
  note_of lane e has is = subst (λ l. Contains (own l (tables l)) e) (sym is) (note_seen e has)

  module _ (within : IsWithinLimits plan) (closes : (context : ℕ) → Closes (length plan.lanes)
      (λ lane. seen_of (passes lane) context) (slice_index_or books context [])) where
    closed : (context : ℕ) → Closes (length looked.lanes) (λ lane. seen_of (passes lane) context)
        (slice_index_or books context [])
    closed context = subst (λ n. Closes n (λ lane. seen_of (passes lane) context)
        (slice_index_or books context [])) (sym lane_count) (closes context)

    -- a mark of a journal is that of an entry which its lane has seen
    mark_seen : (c : ℕ) (m : Mark) → Contains (marks_at live.journals c) m
        → (e : Entry) × Contains (own m.place.lane (seen m.place.lane c)) e
        × (e.place.call ≡ m.place.call) × (e.stamp ≡ m.stamp)
    mark_seen c m has =
        let t = shown.mark_seen batch (cipher_at standing)
        (showing.showing looked standing told seen books)
        (showing.lanes looked standing told seen books tells closed)
        (showing.closed looked standing told seen books tells closed) c m has in (
          t.0,
          contains_in (own m.place.lane (seen m.place.lane c)) t.0 t.2,
          ap (λ (x : Mark). x.place.call) t.3,
          ap (λ (x : Mark). x.stamp) t.3,
        )

    parts : AreAllFrom0 (all_stamps live.journals ++ stamps_of notes)
        → LiveParts batch live.journals notes
    parts stamped = record {
      each = showing.marks_are_legal looked standing told seen books tells closed;
      stamped = stamped;
      in_order = shown.marks_in_order batch (cipher_at standing)
          (showing.showing looked standing told seen books)
          (showing.lanes looked standing told seen books tells closed)
          (showing.closed looked standing told seen books tells closed);
      noted_in_order = λ e f a b lane before.
          (served e.place.lane).noted_in_order.rise e f (note_seen e a)
          (note_of e.place.lane f b lane) before;
      noted_after = λ c m e a b lane before.
          let t = mark_seen c m a in
          let low : t.0.stamp < e.stamp = (served m.place.lane).noted_in_order.after c t.0 e t.1
          (note_of m.place.lane e b lane) (let is = t.2 in omega arith) in
          let is = t.3 in
          omega arith;
      noted_before = λ c m e a b lane before.
          let t = mark_seen c m a in
          let low : e.stamp < t.0.stamp = (served m.place.lane).noted_in_order.before c e t.0
          (note_of m.place.lane e b lane) t.1 (let is = t.2 in omega arith) in
          let is = t.3 in
          omega arith;
    }

    pub is_allowed : length books ≡ length plan.contexts → AreLive notes → StampsRise notes
        → AreAllFrom0 (all_stamps live.journals ++ stamps_of notes) → IsAllowedLive live
    is_allowed count are_live rise stamped = record {
      journals = length-map books (map mark_of) ∙ count;
      lanes = length-map-range_with_len _ 0 (length looked.lanes) ∙ lane_count;
      table = table are_live rise;
      history = of_parts batch live.journals notes (table are_live rise) (parts stamped);
      guessed = λ lane low. showing.guessed_so looked standing told seen books tells closed lane
          (subst (λ n. lane < n) (sym lane_count) low);
    }

    -- ---- the lines of a call

    module _ (lane : ℕ) (low : lane < length plan.lanes) (k : ℕ) where
      -- a call that is looked up has the lines of the call as it is served
      called : (call : CallLine) → slice_get (lane_calls plan lane) k ≡ Some call
          → told_lines (looked_up_plan plan (tables lane)) standing (told lane) lane k
          (looked_up plan (tables lane) lane k call)
          ≡ call_lines (run_of live) lane k (looked_up plan notes lane k call)
      called call at =
          let here = looked_up plan notes lane k call in
          ap (told_lines (looked_up_plan plan (tables lane)) standing (told lane) lane k)
          (looked_same plan (tables lane) notes lane (same lane) k call)
          ∙ told_same plan standing (told lane) (tables lane) notes lane k
          (lane_same plan standing (tables lane) notes lane (same lane)) here
          ∙ showing.told_is_called looked standing told seen books tells closed lane
          (subst (λ n. lane < n) (sym lane_count) low) k here (line_looked plan notes lane k call at)
          (looked_items plan notes (length plan.items) lane k call
          (has_items _ _ call (line_within plan lane k call within low at)))

      call_lines_due : (call : CallLine) → slice_get (lane_calls plan lane) k ≡ Some call
          → live_told_lines plan replies standing (tables lane) (told lane) lane k call
          ≡ live_call_lines live lane k call
      call_lines_due (calls.Add name) at = refl
      call_lines_due (calls.Retire name) at =
          ap (λ was. retire_line was ∷ []) (live_same plan (tables lane) notes lane (same lane) k)
      call_lines_due call at = called call at

    pub lines_are_due : (lane : ℕ) → lane < length plan.lanes
        → given_lines (lane_calls plan lane) (answers lane)
        ≡ live_lane_lines live lane (lane_calls plan lane)
    lines_are_due lane low =
        (served lane).lines
        ∙ ap all_lines (numbered_same
        (live_told_lines plan replies standing (tables lane) (told lane) lane)
        (live_call_lines live lane) 0 (lane_calls plan lane)
        (λ k call at. subst (λ i.
        live_told_lines plan replies standing (tables lane) (told lane) lane i call
        ≡ live_call_lines live lane i call) (let e : k ≡ 0 + k = omega arith in e)
        (call_lines_due lane low k call at)))

pub live_whole : (plan : Plan) (replies : List ContextReply) (standing : List (Option ContextView))
    (tables : List (List Entry)) (passes : List (List (Option PassView)))
    (answers : List LaneAnswers) (books : List (List Entry)) (notes : List Entry)
    → IsWithinLimits plan
    → AllLiveLanesServed plan replies standing tables passes answers
    → AllLiveClosed plan tables passes books notes
    → AreOfALiveRun plan replies standing answers (map (map mark_of) books) notes
live_whole plan replies standing tables passes answers books notes within t closed =
    let n = length plan.lanes in
    let tables_of : ℕ → List Entry = λ lane. slice_index_or tables lane [] in
    let passes_of : ℕ → List (Option PassView) = λ lane. slice_index_or passes lane [] in
    let answers_of : ℕ → LaneAnswers = λ lane. slice_index_or answers lane no_answers in
    let no_table : (lane : ℕ) → n ≤ lane → tables_of lane ≡ [] = λ lane high.
    get_or_past tables lane [] (let e = t.tables_count in omega arith) in
    let served : (lane : ℕ) → LiveLaneIsServed plan replies standing lane (tables_of lane)
    (passes_of lane) (answers_of lane) = λ lane. elim (cases_lt lane n) [
      | inl low ↦ t.each lane low
      | inr high ↦ subst (LiveLaneIsServed plan replies standing lane (tables_of lane)
          (passes_of lane)) (sym (get_or_past answers lane no_answers
          (let e = t.answers_count in omega arith)))
          (subst (λ ps. LiveLaneIsServed plan replies standing lane (tables_of lane) ps no_answers)
          (sym (get_or_past passes lane [] (let e = t.passes_count in omega arith)))
          (subst (λ es. LiveLaneIsServed plan replies standing lane es [] no_answers)
          (sym (no_table lane high)) (live_nobody plan replies standing lane high)))
    ] in
    let same : (lane : ℕ) → own lane (tables_of lane) ≡ own lane notes =
    λ lane. elim (cases_lt lane n) [
      | inl low ↦ closed.table.whole lane low
      | inr high ↦ ap (own lane) (no_table lane high) ∙ sym (closed.table.others lane high)
    ] in
    let stamped = subst (λ ss. AreAllFrom0 (ss ++ stamps_of notes)) (sym (all_stamps-books books))
    (all_from_0 (flat_map stamps_of books ++ stamps_of notes) closed.stamps closed.given) in
    let run = live plan replies standing tables_of passes_of answers_of served books notes same in
    record {
      guesses = run.guesses;
      allowed = is_allowed plan replies standing tables_of passes_of answers_of served books notes
          same within closed.closes closed.count closed.live closed.table.rise stamped;
      lines = joined given_lines lanes_given (λ some. refl) (λ calls lanes a more. refl)
          (live_lane_lines run) plan.lanes answers 0 t.answers_count
          (λ i low. lines_are_due plan replies standing tables_of passes_of answers_of served books
          notes same within closed.closes i low
          ∙ ap (λ j. live_lane_lines run j (slice_index_or plan.lanes i []))
          (let e : i ≡ 0 + i = omega arith in e));
    }
