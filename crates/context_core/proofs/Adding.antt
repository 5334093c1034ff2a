-- The books when a call's places are added.
use Rattle.std.proofs.Common.{◌≡◌, ◌≢◌, ◌<◌, ◌≤◌, ℕ, zero, suc, ◌+◌, cond, List, [], ◌∷◌, ◌++◌, length, map, take, drop, sym, refl, ap, ◌∙◌, subst, arith, Option, Some, None, inl, inr, ne_eqb, length-append, get_or-set_other}
use Rattle.std.specs.Prelude.{slice_get, slice_index, slice_index_or}
use Rattle.std.proofs.lemmas.Bool.{cases_eq}
use Rattle.std.proofs.lemmas.List.{length-set, map-append, get_or-set_same}
use Rattle.call_places.specs.declared.entries.Place.{Place}
use Rattle.call_places.specs.declared.entries.Step.{Step}
use Rattle.call_places.specs.Entries.{own, seq_of, mark_of, StampsBelow}
use Rattle.hpke_context.specs.Contexts.{ContextView, cipher_of}
use Rattle.context_books.specs.Batches.{Ask, Spot, spots, block, asked, items_in, context_in, lane_of, on}
use Rattle.context_books.specs.Merging.{all_asked, lane_places, own_spots}
use Rattle.context_books.specs.Histories.{stamped_on}
use Rattle.context_books.specs.Entries.{entries_from, steps_from, Fits, FitsAt}
use Rattle.context_books.proofs.Lists.{on-append, on-spots, on-spots_same, all_asked-append, append-nil}
use Rattle.context_books.proofs.OneLane.{parted, taken_more, few_taken}
use Rattle.context_books.proofs.EntryNumbers.{length-steps_from}
use Rattle.context_core.proofs.ScheduleLists.{one_value}
use Rattle.context_core.specs.CoreStages.{Fresh, HasPlaces, placed}
use Rattle.context_core.proofs.Matching.{drop_at}
use Rattle.context_books.specs.Books.{BookView}
use Rattle.context_books.proofs.Blocks.{length-block}
use Rattle.batch_plans.specs.declared.plan.Plan.{Plan}
use Rattle.context_books.specs.Standing.{standing_at}
use Rattle.context_books.specs.Asks.{batch_of}
use Rattle.context_core.specs.declared.books.Books.{Books}
use Rattle.context_core.specs.Books.{book_at, MayAdd, Adds}
use Rattle.context_core.specs.Following.{AreBooks, IsBookOf}
use Rattle.context_core.proofs.Histories.{stamped_on-append, stamped_on-block, stamped_on-other, stamps_below, own_count, fits_more, steps_fit}
use Rattle.context_core.proofs.Allowed.{within_contexts}

-- ---- the places of a call among those of its lane

length-spots : (c : ℕ) (ps : List Place) → length (spots c ps) ≡ length ps
length-spots c [] = refl
length-spots c (p ∷ ps) = ap suc (length-spots c ps)

pub length-asked : (l k : ℕ) (a : Ask) → length (asked l k a) ≡ length (items_in a)
length-asked l k a =
    length-spots (context_in a) (block l k 0 (length (items_in a)))
    ∙ length-block l k 0 (length (items_in a))

pub all_asked_parted : (l k : ℕ) (asks : List Ask) (a : Ask) → slice_get asks k ≡ Some a
    → all_asked l 0 asks
    ≡ all_asked l 0 (take k asks) ++ (asked l k a ++ all_asked l (k + 1) (drop (k + 1) asks))
all_asked_parted l k asks a at =
    let count : 0 + length (take k asks) ≡ k = (let f = few_taken asks k a at in omega arith) in
    ap (all_asked l 0) (parted asks k a at)
    ∙ all_asked-append l 0 (take k asks) (a ∷ drop (k + 1) asks)
    ∙ ap (λ n. all_asked l 0 (take k asks) ++ all_asked l n (a ∷ drop (k + 1) asks)) count

-- the call is the lane's last that has its places
pub all_asked_more : (l k : ℕ) (asks : List Ask) (a : Ask) → slice_get asks k ≡ Some a
    → all_asked l 0 (take (k + 1) asks) ≡ all_asked l 0 (take k asks) ++ asked l k a
all_asked_more l k asks a at =
    let count : 0 + length (take k asks) ≡ k = (let f = few_taken asks k a at in omega arith) in
    ap (all_asked l 0) (taken_more asks k a at) ∙ all_asked-append l 0 (take k asks) (a ∷ [])
    ∙ ap (λ n. all_asked l 0 (take k asks) ++ all_asked l n (a ∷ [])) count
    ∙ ap (λ ss. all_asked l 0 (take k asks) ++ ss) (append-nil (asked l k a))

pub nothing_placed : (l k : ℕ) (asks : List Ask) → placed Fresh l k asks ≡ []
nothing_placed l k [] = refl
nothing_placed l k (a ∷ asks) = refl

pub places_placed : (l k : ℕ) (asks : List Ask) (a : Ask) → slice_get asks k ≡ Some a
    → placed HasPlaces l k (drop k asks) ≡ asked l k a
places_placed l k asks a at = ap (placed HasPlaces l k) (drop_at asks k a at)

-- ---- what a call may add

module _ (plan : Plan) (contexts : List (Option ContextView)) (h : List Spot) (old : Books)
    (t : AreBooks plan contexts h old) (l k : ℕ) (a : Ask)
    (here : slice_get (lane_of (batch_of plan contexts) l) k ≡ Some a) (view : ContextView)
    (stands : standing_at contexts (context_in a) ≡ Some view) where
  abbrev asks : List Ask
  asks = lane_of (batch_of plan contexts) l

  abbrev c : ℕ
  c = context_in a

  pub may_add : l < length plan.lanes → old.places ≤ 65536
      → own_spots l h ≡ all_asked l 0 (take k asks) → MayAdd old c l (length (items_in a))
  may_add there few own_is =
      let b = t.each c view stands in
      let of : IsBookOf plan contexts h c view b.0 = b.2 in
      let before : length (own l b.0.entries) ≡ length (on c (all_asked l 0 (take k asks))) =
      own_count l c h b.0.entries of.marks ∙ ap (λ ss. length (on c ss)) own_is in
      let rest = all_asked l (k + 1) (drop (k + 1) asks) in
      let here_is : length (on c (asked l k a)) ≡ length (items_in a) =
      ap length (on-spots_same c (block l k 0 (length (items_in a))))
      ∙ length-block l k 0 (length (items_in a)) in
      let all : length (lane_places c l asks)
      ≡ length (on c (all_asked l 0 (take k asks))) + (length (items_in a) + length (on c rest)) =
      ap (λ ss. length (on c ss)) (all_asked_parted l k asks a here)
      ∙ ap length (on-append c (all_asked l 0 (take k asks)) (asked l k a ++ rest)
      ∙ ap (λ ps. on c (all_asked l 0 (take k asks)) ++ ps) (on-append c (asked l k a) rest))
      ∙ length-append (on c (all_asked l 0 (take k asks))) (on c (asked l k a) ++ on c rest)
      ∙ ap (λ n. length (on c (all_asked l 0 (take k asks))) + n)
      (length-append (on c (asked l k a)) (on c rest) ∙ ap (λ n. n + length (on c rest)) here_is) in
      let quota : slice_index b.0.quotas l ≡ length (lane_places c l asks) = of.quotas l there in
      let lanes_are : length b.0.quotas ≡ length plan.lanes = of.lanes in
      record {
        book = b.0;
        is = b.1;
        lane_there = omega arith;
        room = omega arith;
        stamps = subst (λ n. StampsBelow n b.0.entries) (sym t.places)
            (stamps_below c h b.0.entries of.marks);
        few = few;
        checks = t.checks;
      }

  -- ---- and what the books are then

  module _ (new : Books) (book after : BookView) (steps : List Step)
      (is : book_at old c ≡ Some book) (adds : Adds old new c (length (items_in a)) book after)
      (entries : after.entries ≡ book.entries ++ entries_from l k 0 old.places steps)
      (steps_are : steps ≡ steps_from (cipher_of view) (seq_of book.entries) (items_in a)) where
    same_book : (o : BookView) → book_at old c ≡ Some o → o ≡ book
    same_book o e = one_value o book (sym e ∙ is)

    low : c < length old.books.items
    low = let w = within_contexts contexts c view stands in let n = t.count in omega arith

    after_is : book_at new c ≡ Some after
    after_is = ap (λ bs. slice_index_or bs c None) adds.books
        ∙ get_or-set_same old.books.items c (Some after) None low

    other_is : (d : ℕ) → d ≢ c → book_at new d ≡ book_at old d
    other_is d ne = ap (λ bs. slice_index_or bs d None) adds.books
        ∙ get_or-set_other old.books.items c d (Some after) None ne

    marks_same : (d : ℕ) → d ≢ c → stamped_on d 0 (h ++ asked l k a) ≡ stamped_on d 0 h
    marks_same d ne =
        stamped_on-append d 0 h (asked l k a)
        ∙ ap (λ ms. stamped_on d 0 h ++ ms) (stamped_on-other d c (0 + length h)
        (block l k 0 (length (items_in a))) (ne_eqb c d (λ e. ne (sym e))))
        ∙ append-nil (stamped_on d 0 h)

    places_same : (d : ℕ) → d ≢ c → on d (h ++ asked l k a) ≡ on d h
    places_same d ne =
        let ps = block l k 0 (length (items_in a)) in
        on-append d h (asked l k a)
        ∙ ap (λ ms. on d h ++ ms) (on-spots d c ps
        ∙ ap (λ b. cond b ps []) (ne_eqb c d (λ e. ne (sym e))))
        ∙ append-nil (on d h)

    grown_book : IsBookOf plan contexts h c view book
        → IsBookOf plan contexts (h ++ asked l k a) c view after
    grown_book of =
        let count : length steps ≡ length (items_in a) =
        ap length steps_are ∙ length-steps_from (cipher_of view) (seq_of book.entries) (items_in a) in
        let added = entries_from l k 0 old.places steps in
        let stamp : old.places ≡ 0 + length h =
        t.places ∙ (let e : length h ≡ 0 + length h = omega arith in e) in
        record {
          limit = adds.terms.limit ∙ of.limit;
          lanes = ap length adds.terms.quotas ∙ of.lanes;
          quotas = λ lane few. ap (λ qs. slice_index qs lane) adds.terms.quotas ∙ of.quotas lane few;
          marks = ap (map mark_of) entries ∙ map-append mark_of book.entries added
              ∙ (λ i. of.marks i ++ (sym (stamped_on-block c l k 0 old.places steps)
              ∙ (λ j. stamped_on c (stamp j) (spots c (block l k 0 (count j))))) i)
              ∙ sym (stamped_on-append c 0 h (asked l k a));
          fits = subst (Fits (batch_of plan contexts) c (cipher_of view)) (sym entries)
              (fits_more (batch_of plan contexts) c (cipher_of view) book.entries added of.fits
              (subst (λ ss. Rattle.context_books.specs.Lists.EachFrom
              (FitsAt (batch_of plan contexts) c (cipher_of view))
              (seq_of book.entries) (entries_from l k 0 old.places ss)) (sym steps_are)
              (steps_fit (batch_of plan contexts) (cipher_of view) (seq_of book.entries) l k
              old.places a here)));
        }

    other_book : (d : ℕ) (v : ContextView) (o : BookView) → d ≢ c
        → IsBookOf plan contexts h d v o → IsBookOf plan contexts (h ++ asked l k a) d v o
    other_book d v o ne of = record {
      limit = of.limit;
      lanes = of.lanes;
      quotas = of.quotas;
      marks = of.marks ∙ sym (marks_same d ne);
      fits = of.fits;
    }

    apart : (d : ℕ) → standing_at contexts d ≡ None → d ≢ c
    apart d none e =
        absurd (let f : Some view ≡ None = sym stands ∙ ap (standing_at contexts) (sym e) ∙ none
        in cc)

    pub books_more : AreBooks plan contexts (h ++ asked l k a) new
    books_more = record {
      count = ap length adds.books ∙ length-set old.books.items c (Some after) ∙ t.count;
      each = λ d v at. elim (cases_eq d c) [
        | inl same ↦
            (let b = t.each c view stands in
            let v_is : view ≡ v = one_value view v (sym stands ∙ ap (standing_at contexts) (sym same)
            ∙ at) in
            let of = grown_book (subst (λ (o : BookView). IsBookOf plan contexts h c view o)
            (same_book b.0 b.1) b.2) in (
              after,
              ap (book_at new) same ∙ after_is,
              subst (λ n. IsBookOf plan contexts (h ++ asked l k a) n v after) (sym same)
                  (subst (λ (u : ContextView). IsBookOf plan contexts (h ++ asked l k a) c u after)
                  v_is of),
            ))
        | inr ne ↦ (let b = t.each d v at in
            (b.0, other_is d ne ∙ b.1, other_book d v b.0 ne b.2))
      ];
      none = λ d at. other_is d (apart d at) ∙ t.none d at;
      absent = λ d at. places_same d (apart d at) ∙ t.absent d at;
      places = adds.places ∙ (λ i. t.places i + sym (length-asked l k a) i)
          ∙ sym (length-append h (asked l k a));
      checks = (let p = adds.places in let q = adds.checks in let r = t.checks in omega arith);
    }

-- ---- a book that is read

-- the book that is read is the one of its number
pub book_read : (books : List (Option BookView)) (number : ℕ) (book read : BookView)
    (found : Option BookView) → slice_index_or books number None ≡ Some book
    → found ≡ slice_index_or books number found → found ≡ Some read → read ≡ book
book_read [] number book read found is here some = absurd (let f : None ≡ Some book = is in cc)
book_read (b ∷ books) zero book read found is here some =
    let first : b ≡ Some book = is in
    let second : found ≡ b = here in
    let both : Some read ≡ Some book = sym some ∙ second ∙ first in cc
book_read (b ∷ books) (suc number) book read found is here some =
    book_read books number book read found is here some

-- what a lane may add to the book that is read
pub record MayAddTo (read : BookView) (lane count places : ℕ) : Type 0 where
  pub lane_there : lane < length read.quotas
  pub room : length (own lane read.entries) + count ≤ slice_index read.quotas lane
  pub stamps : StampsBelow places read.entries

pub may_add_read : (books : Books) (number lane count : ℕ) (read : BookView)
    (found : Option BookView) → MayAdd books number lane count
    → found ≡ slice_index_or books.books.items number found → found ≡ Some read
    → MayAddTo read lane count books.places
may_add_read books number lane count read found may here some =
    subst (λ (book : BookView). MayAddTo book lane count books.places)
    (sym (book_read books.books.items number may.book read found may.is here some))
    (record { lane_there = may.lane_there; room = may.room; stamps = may.stamps })
