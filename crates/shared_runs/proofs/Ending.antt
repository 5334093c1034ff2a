-- The lanes of a table are served and its contexts are closed: the journals are those of a run.
use Rattle.std.proofs.Common.{◌≡◌, ℕ, ◌+◌, ◌≤◌, List, [], ◌∷◌, ◌++◌, length, map, Option, sym, refl, ap, ◌∙◌, subst, arith}
use Rattle.std.specs.Prelude.{IsPermutation, flat_map, sum, slice_index_or}
use Rattle.std.specs.List.{All, range_with_len}
use Rattle.std.proofs.Math.ListN.{get_or-map}
use Rattle.std.proofs.lemmas.List.{get_or_default}
use Rattle.std.proofs.lemmas.List.Concat.{flat_map-cons}
use Rattle.std.proofs.lemmas.List.Sorted.{IsPermutation-refl}
use Rattle.std.proofs.lemmas.List.Sums.{sum-map}
use Rattle.std.proofs.lemmas.List.FromFn.{length-map-range_with_len}
use Rattle.call_places.specs.declared.entries.Entry.{Entry}
use Rattle.call_places.specs.declared.entries.Mark.{Mark}
use Rattle.call_places.specs.Entries.{mark_of, stamps_of}
use Rattle.turn_lock.specs.Passes.{PassView}
use Rattle.hpke_context.specs.Contexts.{ContextView}
use Rattle.context_books.specs.Books.{BookView}
use Rattle.lane_workers.specs.Showing.{Closes}
use Rattle.batch_plans.specs.declared.plan.Plan.{Plan}
use Rattle.batch_plans.specs.declared.plan.CallLine.{CallLine}
use Rattle.batch_plans.specs.declared.replies.LaneAnswers.{LaneAnswers}
use Rattle.batch_plans.specs.Room.{all_items_on, journal_room}
use Rattle.batch_plans.specs.Replies.{IsPrintable}
use Rattle.context_books.specs.ContextLines.{export_limits}
use Rattle.context_books.specs.Quotas.{lane_quota, quotas_on}
use Rattle.lane_workers.specs.Gathered.{no_answers, AllLanesServed, AllClosed}
use Rattle.lane_workers.specs.Served.{seen_of}
use Rattle.lane_workers.specs.Turns.{views}
use Rattle.shared_runs.specs.declared.tables.Table.{Table}
use Rattle.shared_runs.specs.declared.tables.Left.{Left}
use Rattle.shared_runs.specs.Tables.{planned, HasStamps, IsOwnTable}
use Rattle.shared_runs.specs.Collected.{Collected}
use Rattle.shared_runs.specs.Closing.{entries_of, HasClosedAll}
use Rattle.shared_runs.proofs.Closed.{book_at, entries_at}

-- a book has no more entries than calls may ask of its context
pub few_entries : (t : Table) (plan : Plan) → planned t ≡ plan → (drawn : List ℕ)
    (passes : List (List (Option PassView))) (books : List (Option BookView))
    → HasClosedAll t drawn passes (map entries_of books) → (number : ℕ)
    → length (entries_of (book_at books number))
    ≤ all_items_on plan.contexts (export_limits (views t.contexts)) number plan.lanes
few_entries t plan is drawn passes books closed number =
    let here = ap (λ (p : Plan). sum (quotas_on p (views t.contexts) number)) is
    ∙ sum-map (lane_quota plan (views t.contexts) number) plan.lanes in
    omega (arith, closed.few number, here, ap length (entries_at books number))

-- ---- a table of its plan's own lanes, all of which are back

module _ (t : Table) (l : Left) (is : IsOwnTable t) (answers : List LaneAnswers)
    (c : Collected t l answers) (count : length answers ≡ length t.plan.now.lanes) where
  pub all_back : length c.passes ≡ length t.lanes.now
  all_back = c.few ∙ count ∙ ap length (sym is.own)

  -- the seat drew none of the counter's stamps
  pub seat_stamps : HasStamps (length l.seat.drawn + l.seat.left) t
  seat_stamps = omega (arith, is.stamps, ap length c.back.seat.drawn, c.back.seat.left)

  pub all_served : AllLanesServed t.plan.now (views t.contexts) c.passes answers
  all_served = record {
    passes_count = c.few ∙ count;
    answers_count = count;
    each = λ lane low. c.served lane (omega (arith, c.few, count));
  }

  pub printable : All IsPrintable answers
  printable k d low =
      subst IsPrintable (get_or_default answers k no_answers d low)
      (c.served k (omega (arith, c.few))).printable

  pub all_closed : (books : List (List Entry)) → HasClosedAll t l.seat.drawn c.passes books
      → AllClosed t.plan.now c.passes books
  all_closed books closed = record {
    count = closed.count;
    closes = λ context. subst (λ (lanes : List (List CallLine)). Closes (length lanes)
        (λ lane. seen_of (slice_index_or c.passes lane []) context) (slice_index_or books context []))
        is.own (closed.closes context);
    stamps = closed.stamps;
    given = subst (λ ds. IsPermutation (ds ++ flat_map stamps_of books)
        (range_with_len 0 closed.stamps)) c.back.seat.drawn closed.given;
  }

-- ---- a plan with no lanes

module _ (plan : Plan) (contexts : List (Option ContextView)) (none : plan.lanes ≡ []) where
  -- each context has a book with no entries
  abbrev pub no_books : List (List Entry)
  no_books = map (λ (n : ℕ). []) (range_with_len 0 (length plan.contexts))

  pub none_served : AllLanesServed plan contexts [] []
  none_served = record {
    passes_count = sym (ap length none);
    answers_count = sym (ap length none);
    each = λ lane low. absurd (omega (arith, ap length none));
  }

  no_stamps : (ns : List ℕ) → flat_map stamps_of (map (λ (n : ℕ). []) ns) ≡ []
  no_stamps [] = refl
  no_stamps (n ∷ ns) =
      flat_map-cons stamps_of [] (map (λ (k : ℕ). []) ns) ∙ no_stamps ns

  pub nothing_closed : AllClosed plan [] no_books
  nothing_closed =
      let numbers = range_with_len 0 (length plan.contexts) in
      record {
        count = length-map-range_with_len (λ (n : ℕ). []) 0 (length plan.contexts);
        closes = λ context.
            let empty : slice_index_or no_books context [] ≡ [] =
            get_or-map (λ (n : ℕ). []) numbers context 0 in
            subst (Closes (length plan.lanes) (λ lane. seen_of (slice_index_or [] lane []) context))
            (sym empty) (record {
              begins = λ lane low. absurd (omega (arith, ap length none));
              whole = λ lane low. absurd (omega (arith, ap length none));
              others = λ lane high. refl;
              rise = tt;
            });
        stamps = 0;
        given = subst (λ ds. IsPermutation ds []) (sym (no_stamps numbers)) (IsPermutation-refl []);
      }

  -- the journals of all contexts before the lanes are served: a place for each item that there will be
  abbrev journal_rooms : List (List Mark)
  journal_rooms = map (journal_room plan.contexts (export_limits contexts) plan.lanes)
      (range_with_len 0 (length plan.contexts))

  pub no_journals : (rooms : List (List Mark))
      → rooms ≡ journal_rooms → map (map mark_of) no_books ≡ rooms
  no_journals rooms is =
      each (range_with_len 0 (length plan.contexts))
      ∙ ap (λ lanes. map (journal_room plan.contexts (export_limits contexts) lanes)
      (range_with_len 0 (length plan.contexts))) (sym none)
      ∙ sym is
    where
      each : (ns : List ℕ) → map (map mark_of) (map (λ (n : ℕ). []) ns)
          ≡ map (journal_room plan.contexts (export_limits contexts) []) ns
      each [] = refl
      each (n ∷ ns) = ap (λ (js : List (List Mark)). [] ∷ js) (each ns)
