-- The contexts of a table that are closed one after another, and what is said of all of them.
use Rattle.std.proofs.Common.{◌≡◌, ℕ, zero, suc, ◌+◌, ◌<◌, ◌≤◌, List, [], ◌∷◌, ◌++◌, length, map, Option, Some, None, inl, inr, sym, refl, ap, ◌∙◌, subst, arith, length-append, append-nil, append_assoc}
use Rattle.std.specs.Prelude.{flat_map, is_some, sum, sum_by, slice_index_or, IsPermutation}
use Rattle.std.specs.List.{All, range_with_len}
use Rattle.std.proofs.Math.ListN.{get_or-map}
use Rattle.std.proofs.Math.Seq.{get_or-append_seam}
use Rattle.std.proofs.lemmas.Bool.{cases_eq, cases_lt}
use Rattle.std.proofs.lemmas.List.{length-map, map-append, flat_map_more, get_or_append_left}
use Rattle.std.proofs.lemmas.Option.{get_or_from_slice_get}
use Rattle.std.proofs.lemmas.List.Sums.{sum-map, sum_by-cons}
use Rattle.call_places.specs.declared.entries.Entry.{Entry}
use Rattle.call_places.specs.declared.listed.Terms.{Terms}
use Rattle.call_places.specs.Entries.{own, stamps_of}
use Rattle.call_places.specs.Orders.{StampsRise}
use Rattle.turn_lock.specs.Passes.{PassView, PassListView, IsShown, NoOthers}
use Rattle.stamp_counter.specs.Seats.{SeatView}
use Rattle.hpke_context.specs.Contexts.{ContextView}
use Rattle.context_books.specs.Books.{BookView}
use Rattle.shared_context.specs.Calls.{SharedView}
use Rattle.lane_workers.specs.Showing.{Closes}
use Rattle.batch_plans.specs.declared.plan.Plan.{Plan}
use Rattle.batch_plans.specs.Calls.{context_of}
use Rattle.batch_plans.specs.Room.{items_on}
use Rattle.context_books.specs.Standing.{standing_at, refusal_on}
use Rattle.context_books.specs.ContextLines.{AreOfLines, export_limits}
use Rattle.context_books.specs.Quotas.{lane_quota, quotas_on}
use Rattle.context_books.proofs.Counts.{refused_call, other_context}
use Rattle.lane_workers.specs.Handing.{list_at}
use Rattle.lane_workers.specs.Served.{seen_of}
use Rattle.lane_workers.specs.Turns.{shared_at, view_in, views}
use Rattle.lane_workers.proofs.Answering.{standing_view}
use Rattle.lane_workers.proofs.Handing.{closes_over}
use Rattle.shared_runs.specs.declared.tables.Table.{Table}
use Rattle.shared_runs.specs.declared.tables.Left.{Left}
use Rattle.shared_runs.specs.Tables.{planned, IsTable, HasStamps}
use Rattle.shared_runs.specs.Collected.{IsListOf, ArePut, passes_of}
use Rattle.shared_runs.specs.Closing.{entries_of, MayClose, ClosesBy, HasClosed, HasClosedAll}

-- ---- quotas

no_sum : {X : Type 0} (f : X → ℕ) (xs : List X) → ((x : X) → f x ≡ 0) → sum_by f xs ≡ 0
no_sum f [] none = refl
no_sum f (x ∷ xs) none = omega (arith, sum_by-cons f x xs, none x, no_sum f xs none)

-- a context that doesn't stand serves nothing
no_quotas : (plan : Plan) (contexts : List (Option ContextView))
    → AreOfLines plan.contexts contexts → (number : ℕ) → standing_at contexts number ≡ None
    → sum (quotas_on plan contexts number) ≡ 0
no_quotas plan contexts t number none =
    sum-map (lane_quota plan contexts number) plan.lanes
    ∙ no_sum (lane_quota plan contexts number) plan.lanes (λ calls.
    no_sum (items_on plan.contexts (export_limits contexts) number) calls (λ call.
    elim (cases_eq (context_of call) number) [
      | inl same ↦ refused_call plan.contexts contexts t number call
          (ap (λ s. is_some (refusal_on s call)) (ap (standing_at contexts) same ∙ none))
      | inr ne ↦ other_context plan.contexts contexts t number call ne
    ]))

first_sum : (f : ℕ → List ℕ) (a n : ℕ) → sum (map sum (map f (range_with_len a (suc n))))
    ≡ sum (f a) + sum (map sum (map f (range_with_len (a + 1) n)))
first_sum f a n =
    let rest = map f (range_with_len (a + 1) n) in
    omega (arith, sum-map sum (f a ∷ rest), sum_by-cons sum (f a) rest, sum-map sum rest)

-- ---- books

abbrev pub book_at : List (Option BookView) → ℕ → Option BookView
book_at books number = slice_index_or books number None

none_more : (books : List (Option BookView)) (b : Option BookView) (k : ℕ)
    → book_at books k ≡ None → (k ≡ length books → b ≡ None) → book_at (books ++ b ∷ []) k ≡ None
none_more [] b zero was last = last refl
none_more [] b (suc k) was last = refl
none_more (x ∷ books) b zero was last = was
none_more (x ∷ books) b (suc k) was last = none_more books b k was (λ e. last (ap suc e))

few_more : (books : List (Option BookView)) (b : Option BookView) (most : ℕ → ℕ)
    → ((k : ℕ) → length (entries_of (book_at books k)) ≤ most k)
    → length (entries_of b) ≤ most (length books) → (k : ℕ)
    → length (entries_of (book_at (books ++ b ∷ []) k)) ≤ most k
few_more [] b most was last zero = last
few_more [] b most was last (suc k) = was (suc k)
few_more (x ∷ books) b most was last zero = was zero
few_more (x ∷ books) b most was last (suc k) =
    few_more books b (λ i. most (suc i)) (λ i. was (suc i)) last k

drawn_more : (books : List (Option BookView)) (b : Option BookView)
    → flat_map stamps_of (map entries_of books) ++ stamps_of (entries_of b)
    ≡ flat_map stamps_of (map entries_of (books ++ b ∷ []))
drawn_more books b =
    flat_map_more stamps_of [] (map entries_of books) (entries_of b)
    ∙ ap (flat_map stamps_of) (sym (map-append entries_of books (b ∷ [])))

stands_below : (contexts : List (Option SharedView)) (k : ℕ) (s : SharedView)
    → shared_at contexts k ≡ Some s → k < length contexts
stands_below [] k s e = absurd (let f : None ≡ Some s = e in cc)
stands_below (x ∷ contexts) zero s e = omega arith
stands_below (x ∷ contexts) (suc k) s e =
    let low = stands_below contexts k s e in omega arith

pub entries_at : (books : List (Option BookView)) (k : ℕ)
    → slice_index_or (map entries_of books) k [] ≡ entries_of (book_at books k)
entries_at books k = get_or-map entries_of books k None

-- ---- a seat that took in another

record TakesIn (old new : SeatView) (book : Option BookView) (quota : ℕ) : Type 0 where
  drawn : new.drawn ≡ old.drawn ++ stamps_of (entries_of book)
  all : length new.drawn + new.left ≡ length old.drawn + old.left + quota
  few : length (entries_of book) ≤ quota

takes_in : (counter : List ℕ) (context : Option SharedView) (list : Option PassListView)
    (old new : SeatView) (book : Option BookView) (quota : ℕ) → MayClose counter context list
    → HasClosed context list old new book → (context ≡ None → quota ≡ 0)
    → ((s : SharedView) → context ≡ Some s → sum s.lock.terms.quotas ≡ quota)
    → TakesIn old new book quota
takes_in counter None list old new book quota may has no_quota its_quota =
    let h = has.none refl in
    let none : quota ≡ 0 = no_quota refl in
    let same : new.drawn ≡ old.drawn = ap (λ (s : SeatView). s.drawn) h.1 in
    let left : new.left ≡ old.left = ap (λ (s : SeatView). s.left) h.1 in
    record {
      drawn = same ∙ sym (append-nil old.drawn)
          ∙ ap (λ b. old.drawn ++ stamps_of (entries_of b)) (sym h.0);
      all = omega (arith, ap length same, left, none);
      few = omega (arith, ap (λ b. length (entries_of b)) h.0);
    }
takes_in counter (Some s) list old new book quota may has no_quota its_quota =
    let m = may.some s refl in
    let h = has.some s m.0 refl m.1 in
    let b : BookView = h.0 in
    let by : ClosesBy s m.0 old new b = h.2 in
    let its : sum s.lock.terms.quotas ≡ quota = its_quota s refl in
    let size : length (stamps_of b.entries) ≡ length b.entries =
    length-map b.entries (λ (e : Entry). e.stamp) in
    record {
      drawn = by.drawn ∙ ap (λ o. old.drawn ++ stamps_of (entries_of o)) (sym h.1);
      all = omega (
        arith,
        ap length by.drawn,
        length-append old.drawn (stamps_of b.entries),
        size,
        by.left,
        its,
      );
      few = omega (arith, by.few, its, ap (λ o. length (entries_of o)) h.1);
    }

-- ---- so far

-- the book has what the passes of the list have seen, and no other entries
pub record IsClosed (list : PassListView) (entries : List Entry) : Type 0 where
  pub shown : All (IsShown entries) list.passes
  pub others : NoOthers entries list.passes
  pub rise : StampsRise entries

-- the contexts below this number are closed: these are their books, and their seats were taken in
pub record ClosedSoFar (t : Table) (l : Left) (number : ℕ) (books : List (Option BookView)) (seat : SeatView)
    : Type 0 where
  pub count : length books ≡ number
  pub counter : seat.counter ≡ t.counter.id
  pub none : (k : ℕ) → shared_at t.contexts k ≡ None → book_at books k ≡ None
  pub some : (k : ℕ) (s : SharedView) (list : PassListView) → k < number
      → shared_at t.contexts k ≡ Some s → list_at l.passes.items k ≡ Some list
      → IsClosed list (entries_of (book_at books k))
  pub drawn : seat.drawn ≡ l.seat.drawn ++ flat_map stamps_of (map entries_of books)
  pub few : (k : ℕ) → length (entries_of (book_at books k))
      ≤ sum (quotas_on (planned t) (views t.contexts) k)
  -- what the others will have
  pub to_come : ℕ
  pub rest : number + to_come ≡ length t.contexts
  pub all : length seat.drawn + seat.left
      + sum (map sum (map (quotas_on (planned t) (views t.contexts))
      (range_with_len number to_come)))
      ≡ t.counter.all

module _ (t : Table) (l : Left) (table : IsTable t) (of_counter : l.seat.counter ≡ t.counter.id) where
  -- none is closed
  pub none_closed : HasStamps (length l.seat.drawn + l.seat.left) t
      → (books : List (Option BookView)) → books ≡ [] → ClosedSoFar t l 0 books l.seat
  none_closed has books none =
      let count : length (views t.contexts) ≡ length t.contexts = length-map t.contexts view_in in
      let q = quotas_on (planned t) (views t.contexts) in
      let stamps : sum (map sum (map q (range_with_len 0 (length (views t.contexts)))))
      ≡ sum (map sum (map q (range_with_len 0 (length t.contexts)))) =
      ap (λ n. sum (map sum (map q (range_with_len 0 n)))) count in
      record {
        count = ap length none;
        counter = of_counter;
        none = λ k absent. ap (λ bs. book_at bs k) none;
        some = λ k s list low is back. absurd (omega arith);
        drawn = sym (append-nil l.seat.drawn)
            ∙ ap (λ bs. l.seat.drawn ++ flat_map stamps_of (map entries_of bs)) (sym none);
        few = λ k. omega (arith, ap (λ bs. length (entries_of (book_at bs k))) none);
        to_come = length t.contexts;
        rest = omega arith;
        all = omega (arith, stamps, has);
      }

  -- one more is closed
  pub closed_more : (number : ℕ) (books : List (Option BookView)) (seat new : SeatView)
      (context : Option SharedView) (list : Option PassListView) (book : Option BookView)
      → ClosedSoFar t l number books seat → number < length t.contexts
      → shared_at t.contexts number ≡ context → list_at l.passes.items number ≡ list
      → MayClose t.counter.id context list → HasClosed context list seat new book
      → ClosedSoFar t l (number + 1) (books ++ book ∷ []) new
  closed_more number books seat new context list book so_far low is back may has =
      with_rest so_far.to_come refl
    where
      q : ℕ → List ℕ
      q = quotas_on (planned t) (views t.contexts)

      taken : TakesIn seat new book (sum (q number))
      taken = takes_in t.counter.id context list seat new book (sum (q number)) may has
          (λ none. no_quotas (planned t) (views t.contexts) table.of_lines number
          (standing_view t.contexts number ∙ ap view_in (is ∙ none)))
          (λ s some. ap (λ (x : Terms). sum x.quotas)
          (table.shared number s (is ∙ some)).terms)

      its : (k : ℕ) (s : SharedView) (of : PassListView) → k ≡ number
          → shared_at t.contexts k ≡ Some s → list_at l.passes.items k ≡ Some of
          → IsClosed of (entries_of (book_at (books ++ book ∷ []) k))
      its k s of same is_s is_l =
          let h = has.some s of (sym is ∙ ap (shared_at t.contexts) (sym same) ∙ is_s)
          (sym back ∙ ap (list_at l.passes.items) (sym same) ∙ is_l) in
          let last : k ≡ length books = same ∙ sym so_far.count in
          let found : book_at (books ++ book ∷ []) k ≡ Some h.0 =
          ap (book_at (books ++ book ∷ [])) last ∙ get_or-append_seam books book [] None ∙ h.1 in
          subst (IsClosed of) (ap entries_of (sym found))
          (record { shown = h.2.shown; others = h.2.others; rise = h.2.rise })

      with_rest : (n : ℕ) → so_far.to_come ≡ n
          → ClosedSoFar t l (number + 1) (books ++ book ∷ []) new
      with_rest zero e = absurd (omega (arith, so_far.rest))
      with_rest (suc n) e =
          let left : length seat.drawn + seat.left
          + sum (map sum (map q (range_with_len number (suc n)))) ≡ t.counter.all =
          subst (λ m. length seat.drawn + seat.left
          + sum (map sum (map q (range_with_len number m))) ≡ t.counter.all) e so_far.all in
          record {
            count = omega (arith, length-append books (book ∷ []), so_far.count);
            counter = has.counter ∙ so_far.counter;
            none = λ k absent. none_more books book k (so_far.none k absent)
                (λ last. (has.none (sym is ∙ ap (shared_at t.contexts)
                (sym (last ∙ so_far.count)) ∙ absent)).0);
            some = λ k s of below is_s is_l. elim (cases_lt k number) [
              | inl earlier ↦
                  (let there : k < length books = omega (arith, so_far.count) in
                  subst (λ b. IsClosed of (entries_of b))
                  (sym (get_or_append_left books (book ∷ []) None k there))
                  (so_far.some k s of earlier is_s is_l))
              | inr later ↦ its k s of (omega arith) is_s is_l
            ];
            drawn = taken.drawn ∙ ap (λ ds. ds ++ stamps_of (entries_of book)) so_far.drawn
                ∙ append_assoc l.seat.drawn (flat_map stamps_of (map entries_of books))
                (stamps_of (entries_of book))
                ∙ ap (λ ds. l.seat.drawn ++ ds) (drawn_more books book);
            few = few_more books book (λ k. sum (q k)) so_far.few
                (subst (λ k. length (entries_of book) ≤ sum (q k)) (sym so_far.count) taken.few);
            to_come = n;
            rest = omega (arith, so_far.rest);
            all = omega (arith, left, first_sum q number n, taken.all);
          }

  -- a context whose passes are back may be closed
  pub may_close : (passes : List (List (Option PassView))) (back : ArePut t l passes)
      → length passes ≡ length t.lanes.now → (number : ℕ) (context : Option SharedView)
      (list : Option PassListView) → shared_at t.contexts number ≡ context
      → list_at l.passes.items number ≡ list → MayClose t.counter.id context list
  may_close passes back count number context list is at =
      record {
        none = λ none. sym at ∙ back.none number (is ∙ none);
        some = λ s some.
            let b = back.each number s (is ∙ some) in
            let by : IsListOf s number (length t.lanes.now) passes b.0 = b.2 in
            let shared = table.shared number s (is ∙ some) in
            let lanes = length-map t.lanes.now
            (lane_quota (planned t) (views t.contexts) number) in (
              b.0,
              sym at ∙ b.1,
              by.of_lock,
              omega (arith, by.count, count, shared.passes, lanes),
              ap (λ (x : Terms). x.counter) shared.terms,
            );
      }

  -- ---- all contexts are closed

  -- the seat has all that was drawn and all that is left
  pub all_taken : (number : ℕ) (books : List (Option BookView)) (seat : SeatView)
      → ClosedSoFar t l number books seat → length t.contexts ≤ number
      → length seat.drawn + seat.left ≡ t.counter.all
  all_taken number books seat so_far high =
      let none : so_far.to_come ≡ 0 = omega (arith, so_far.rest) in
      let all : length seat.drawn + seat.left + 0 ≡ t.counter.all =
      subst (λ n. length seat.drawn + seat.left + sum (map sum
      (map (quotas_on (planned t) (views t.contexts)) (range_with_len number n)))
      ≡ t.counter.all) none so_far.all in
      omega arith

  module _ (books : List (Option BookView)) (seat : SeatView)
      (so_far : ClosedSoFar t l (length t.contexts) books seat)
      (passes : List (List (Option PassView))) (back : ArePut t l passes)
      (count : length passes ≡ length t.lanes.now) where
    abbrev lanes : ℕ
    lanes = length t.lanes.now

    closes : (number : ℕ) (context : Option SharedView) → shared_at t.contexts number ≡ context
        → Closes lanes (λ lane. seen_of (passes_of passes lane) number)
        (entries_of (book_at books number))
    closes number None is =
        let none : entries_of (book_at books number) ≡ [] = ap entries_of (so_far.none number is) in
        let unseen : (lane : ℕ) → lane < lanes → seen_of (passes_of passes lane) number ≡ [] =
        λ lane low. back.absent lane number (omega (arith, count)) is in
        record {
          begins = λ lane low. ([], ap (λ es. es ++ []) (unseen lane low) ∙ sym none);
          whole = λ lane low. ap (own lane) (unseen lane low ∙ sym none);
          others = λ lane high. ap (own lane) none;
          rise = subst StampsRise (sym none) tt;
        }
    closes number (Some s) is =
        let b = back.each number s is in
        let list : PassListView = b.0 in
        let by : IsListOf s number lanes passes list = b.2 in
        let closed = so_far.some number s list (stands_below t.contexts number s is) is b.1 in
        closes_over lanes number (passes_of passes) (entries_of (book_at books number))
        list.passes closed.shown closed.others closed.rise
        (λ lane low. let e = by.each lane (omega (arith, count)) in
        (e.0, e.1, e.2, lane, e.3))
        (λ i d low. let e = by.each i (omega (arith, by.count)) in
        subst (λ (p : PassView). p.number < lanes)
        (sym (get_or_from_slice_get list.passes i e.0 d e.3))
        (omega (arith, e.2, by.count, count)))

    pub all_closed : (stamps : ℕ) → IsPermutation seat.drawn (range_with_len 0 stamps)
        → HasClosedAll t l.seat.drawn passes (map entries_of books)
    all_closed stamps given = record {
      count = length-map books entries_of ∙ so_far.count
          ∙ sym (length-map t.contexts view_in) ∙ table.of_lines.count;
      closes = λ number. subst
          (Closes lanes (λ lane. seen_of (passes_of passes lane) number))
          (sym (entries_at books number)) (closes number (shared_at t.contexts number) refl);
      stamps = stamps;
      given = subst (λ ds. IsPermutation ds (range_with_len 0 stamps)) so_far.drawn given;
      few = λ number. omega (arith, ap length (entries_at books number), so_far.few number);
    }
