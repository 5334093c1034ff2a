-- From what all lanes and contexts show to legal journals in the lanes' order. Which numbers the stamps
-- are is not asked here: another list may have some of the counter's.
use Rattle.std.proofs.Common.{◌≡◌, ◌≢◌, ℕ, zero, suc, ◌<◌, List, [], ◌∷◌, ◌++◌, length, map, sym, refl, ap, ◌∙◌, subst, arith, Some, inl, inr}
use Rattle.std.specs.Prelude.{slice_get, slice_index_or, Contains, flat_map, IsPermutation, ◌↔◌}
use Rattle.std.specs.List.{AllPairs, range_with_len}
use Rattle.std.proofs.lemmas.List.{get_or_past}
use Rattle.std.proofs.lemmas.List.FromFn.{length-range_with_len}
use Rattle.std.proofs.lemmas.List.Sorted.{length_permutation}
use Rattle.std.proofs.lemmas.Bool.{cases_lt}
use Rattle.call_places.specs.declared.entries.Place.{Place}
use Rattle.call_places.specs.declared.entries.Mark.{Mark}
use Rattle.call_places.specs.declared.entries.Entry.{Entry}
use Rattle.call_places.specs.Entries.{own, mark_of, stamps_of}
use Rattle.call_places.specs.Orders.{IsBefore, StampsRise}
use Rattle.hpke_context.specs.Answers.{Cipher}
use Rattle.context_books.specs.Batches.{Batch, Ask, ToOpenAll, block, lane_of, IsServed}
use Rattle.context_books.specs.Legal.{OpensOn, StandTogether, Legal, reply_of}
use Rattle.context_books.specs.Guesses.{Guessed, AllGuessed, guess_at, missed_in}
use Rattle.context_books.specs.Histories.{places, stamps, marks_at, all_stamps, HasLowerStamp, HaveConsecutiveStamps, AreAllFrom0, LegalMarks, entry_places}
use Rattle.context_books.specs.Entries.{Fits}
use Rattle.context_books.proofs.Members.{contains_in, in_contains, map_in, RisesBy, pairs_rise}
use Rattle.context_books.specs.Lists.{In}
use Rattle.context_books.proofs.Legals.{legal}
use Rattle.context_books.proofs.OneLane.{no_ask}
use Rattle.lane_workers.specs.Showing.{Showing, book, journal, stamped_journals, LaneIsShown, Closes}
use Rattle.lane_workers.proofs.ShowingEntries.{in_own}
use Rattle.lane_workers.proofs.ShowingContexts as contexts

-- numbers from 0 on are as many as there are
pub all_from_0 : (numbers : List ℕ) (count : ℕ) → IsPermutation numbers (range_with_len 0 count) → AreAllFrom0 numbers
all_from_0 numbers count given =
    let size : length numbers ≡ count = sym (length_permutation _ _ given) ∙ length-range_with_len 0 count in
    subst (λ n. IsPermutation numbers (range_with_len 0 n)) (sym size) given

-- ---- marks of entries

pub places-marks : (es : List Entry) → places (map mark_of es) ≡ entry_places es
places-marks [] = refl
places-marks (e ∷ es) = ap (λ m. e.place ∷ m) (places-marks es)

stamps-marks : (es : List Entry) → stamps (map mark_of es) ≡ stamps_of es
stamps-marks [] = refl
stamps-marks (e ∷ es) = ap (λ m. e.stamp ∷ m) (stamps-marks es)

pub all_stamps-books : (books : List (List Entry)) → all_stamps (map (map mark_of) books) ≡ flat_map stamps_of books
all_stamps-books [] = refl
all_stamps-books (b ∷ books) = (λ i. stamps-marks b i ++ all_stamps-books books i)

pub marks_rise : (es : List Entry) → StampsRise es → RisesBy HasLowerStamp (map mark_of es)
marks_rise [] t = tt
marks_rise (e ∷ []) t = (λ k i. absurd i, tt)
marks_rise (e ∷ f ∷ es) t =
    let rest = marks_rise (f ∷ es) t.1 in
    let first : e.stamp < f.stamp = t.0 in (
      λ k i. elim i [
        | inl is ↦ subst (λ (m : Mark). e.stamp < m.stamp) is first
        | inr later ↦ (let up : f.stamp < k.stamp = rest.0 k later in omega arith)
      ],
      rest,
    )

module _ (batch : Batch) (ciphers : ℕ → Cipher) (s : Showing)
    (lanes : (lane : ℕ) → lane < length batch → LaneIsShown batch ciphers s lane)
    (closes : (context : ℕ) → Closes (length batch) (λ lane. s.seen lane context) (book s context)) where
  -- a call of a lane that isn't there opens nothing
  lane_there : (l call : ℕ) (a : Ask) → slice_get (lane_of batch l) call ≡ Some a → l < length batch
  lane_there l call a is = elim (cases_lt l (length batch)) [
    | inl low ↦ low
    | inr high ↦ absurd (no_ask a (sym (ap (λ (asks : List Ask). slice_get asks call) (get_or_past batch l [] high)) ∙ is))
  ]

  -- ---- each context

  module _ (context : ℕ) where
    abbrev entries : List Entry
    entries = book s context

    pub fits : Fits batch context (ciphers context) entries
    fits = contexts.all_fit batch context (ciphers context) s.replies (λ l. s.seen l context) entries (closes context) (λ k lt. (lanes k lt).each context)

    pub replies_are : (p : Place) → Contains (journal s context) p → reply_of batch (ciphers context) (journal s context) p ≡ Some (s.replies p)
    replies_are = contexts.replies_are batch context (ciphers context) s.replies (λ l. s.seen l context) entries (closes context) (λ k lt. (lanes k lt).each context)

    pub legal_journal : Legal batch context (journal s context)
    legal_journal = legal batch context (journal s context) (record {
      lanes = contexts.lanes_are batch context (ciphers context) s.replies (λ l. s.seen l context) entries (closes context) (λ k lt. (lanes k lt).each context);
      together = λ l call n o.
          let low = lane_there l call (ToOpenAll context o.0) o.1 in
          let t = (lanes l low).openings.each context call o.0 o.1 in
          subst (λ k. StandTogether (journal s context) (block l call 0 k)) o.2
          (contexts.opening_stands batch context (ciphers context) s.replies (λ k. s.seen k context) entries (closes context) (λ k lt. (lanes k lt).each context) l call o.0 _ _ low t);
    })

  -- ---- each guess

  module _ (l : ℕ) (low : l < length batch) where
    pub guessed : AllGuessed batch ciphers (journal s) l (s.guesses l)
    guessed = record {
      count = (lanes l low).openings.count;
      each = λ context call n o. subst (λ k. Guessed batch (ciphers context) (journal s context) l call k (guess_at (lane_of batch l) (s.guesses l) call)) o.2
          (contexts.opening_guessed batch context (ciphers context) s.replies (λ k. s.seen k context) (book s context) (closes context) (λ k lt. (lanes k lt).each context) l call o.0 _ _ low
          ((lanes l low).openings.each context call o.0 o.1));
    }

    pub missed_is : (context call n : ℕ) → OpensOn batch context l call n
        → missed_in batch (ciphers context) (journal s context) l call n (guess_at (lane_of batch l) (s.guesses l) call) ≡ guess_at (lane_of batch l) (s.misses l) call
    missed_is context call n o =
        ap (λ k. missed_in batch (ciphers context) (journal s context) l call k (guess_at (lane_of batch l) (s.guesses l) call)) (sym o.2)
        ∙ contexts.opening_missed batch context (ciphers context) s.replies (λ k. s.seen k context) (book s context) (closes context) (λ k lt. (lanes k lt).each context) l call o.0 _ _ low
        ((lanes l low).openings.each context call o.0 o.1) (legal_journal context) o.1

  -- ---- one history

  pub journal_is : (c : ℕ) → marks_at (stamped_journals s) c ≡ map mark_of (book s c)
  journal_is c = step s.books c
    where
      step : (books : List (List Entry)) (c : ℕ) → marks_at (map (map mark_of) books) c ≡ map mark_of (slice_index_or books c [])
      step [] c = refl
      step (b ∷ books) zero = refl
      step (b ∷ books) (suc c) = step books c

  -- an entry of a book is its lane's own, among those that the lane has seen
  seen_own : (c : ℕ) (e : Entry) → In e (book s c) → (e.place.lane < length batch) × In e (own e.place.lane (s.seen e.place.lane c))
  seen_own c e i =
      let here : In e (own e.place.lane (book s c)) = in_own e.place.lane e (book s c) i refl in
      elim (cases_lt e.place.lane (length batch)) [
        | inl low ↦ (low, subst (In e) (sym ((closes c).whole e.place.lane low)) here)
        | inr high ↦ absurd (subst (In e) ((closes c).others e.place.lane high) here)
      ]

  -- a mark of a journal is that of such an entry
  pub mark_seen : (c : ℕ) (m : Mark) → Contains (marks_at (stamped_journals s) c) m
      → (e : Entry) × (m.place.lane < length batch) × In e (own m.place.lane (s.seen m.place.lane c)) × (mark_of e ≡ m)
  mark_seen c m has =
      let e = map_in mark_of m (book s c) (in_contains (map mark_of (book s c)) m (subst (λ ms. Contains ms m) (journal_is c) has)) in
      let lane : e.0.place.lane ≡ m.place.lane = ap (λ (x : Mark). x.place.lane) e.2 in
      let t = seen_own c e.0 e.1 in
      (e.0, subst (λ l. l < length batch) lane t.0, subst (λ l. In e.0 (own l (s.seen l c))) lane t.1, e.2)

  pub marks_in_order : (c d : ℕ) (m k : Mark) → Contains (marks_at (stamped_journals s) c) m → Contains (marks_at (stamped_journals s) d) k
      → m.place.lane ≡ k.place.lane → IsBefore m.place k.place → HasLowerStamp m k
  marks_in_order c d m k a b lane before =
      let l = m.place.lane in
      let e = mark_seen c m a in
      let f = mark_seen d k b in
      let mine : In f.0 (own l (s.seen l d)) = subst (λ j. In f.0 (own j (s.seen j d))) (sym lane) f.2 in
      let p : e.0.place ≡ m.place = ap (λ (x : Mark). x.place) e.3 in
      let q : f.0.place ≡ k.place = ap (λ (x : Mark). x.place) f.3 in
      let low : e.0.stamp < f.0.stamp =
      (lanes l e.1).in_order c d e.0 f.0 (contains_in (own l (s.seen l c)) e.0 e.2) (contains_in (own l (s.seen l d)) f.0 mine)
      (subst (λ x. IsBefore x f.0.place) (sym p) (subst (IsBefore m.place) (sym q) before)) in
      subst (λ (x : ℕ). x < k.stamp) (ap (λ (x : Mark). x.stamp) e.3) (subst (λ (x : ℕ). e.0.stamp < x) (ap (λ (x : Mark). x.stamp) f.3) low)

  pub marks_legal : (c : ℕ) → LegalMarks batch c (marks_at (stamped_journals s) c)
  marks_legal c =
      let here = legal_journal c in
      subst (LegalMarks batch c) (sym (journal_is c)) (record {
        served = λ p. subst (λ ps. Contains ps p ↔ IsServed batch c p) (sym (places-marks (book s c))) (here.served p);
        once = subst (AllPairs (λ (p q : Place). p ≢ q)) (sym (places-marks (book s c))) here.once;
        rise = pairs_rise HasLowerStamp (map mark_of (book s c)) (marks_rise (book s c) (closes c).rise);
        together = λ l call n o.
            let low = lane_there l call (ToOpenAll c o.0) o.1 in
            subst (HaveConsecutiveStamps (map mark_of (book s c)) l call) o.2
            (contexts.opening_stamped batch c (ciphers c) s.replies (λ k. s.seen k c) (book s c) (closes c) (λ k lt. (lanes k lt).each c) l call o.0 _ _ low
            ((lanes l low).openings.each c call o.0 o.1));
      })
