-- Legal journals with stamps are exactly the journals of one list of all places.
use Rattle.std.proofs.Common.{◌≡◌, ◌≢◌, ℕ, zero, suc, ◌+◌, ◌<◌, ◌==◌, List, [], ◌∷◌, ◌++◌, length, sym, refl, ap, ◌∙◌, subst, arith, eqb-true, Some, None, inl, inr}
use Rattle.std.specs.Prelude.{slice_get, ◌↔◌}
use Rattle.std.specs.List.{range_with_len}
use Rattle.std.proofs.lemmas.Bool.{cases_lt, cases_eq}
use Rattle.std.proofs.lemmas.List.FromFn.{fill_by_all}
use Rattle.std.proofs.lemmas.List.Sorted.{IsPermutation-sym, Contains-permutation}
use Rattle.call_places.specs.declared.entries.Place.{Place}
use Rattle.call_places.specs.declared.entries.Mark.{Mark}
use Rattle.call_places.specs.Orders.{IsBefore}
use Rattle.hpke_context.specs.Answers.{Item}
use Rattle.context_books.specs.Batches.{Batch, Spot, spots, block, place, lane_of, IsServed}
use Rattle.context_books.specs.Merging.{all_asked, lane_places, own_spots, IsHistory}
use Rattle.context_books.specs.Legal.{OpensOn}
use Rattle.context_books.specs.Histories.{mark, places, marks_at, all_stamps, HasLowerStamp, LegalHistory, stamped_on, journals_of}
use Rattle.context_books.proofs.Members.{contains_in, in_contains, contains_at, at_contained, at_in, got, in_map, map_in, in_range, range_below, RisesBy, rises-filter, rises_pairs, pairs_at, one_list}
use Rattle.context_books.specs.Lists.{In}
use Rattle.context_books.proofs.Places.{not_both, either_before}
use Rattle.context_books.proofs.Legals.{Rises, asked_served, served_asked}
use Rattle.context_books.proofs.Marks.{place_at}
use Rattle.context_books.proofs.Spots.{all_places, rises_all, own_spot, spot_own}
use Rattle.context_books.proofs.StampCounts.{stamp_of, in_all_stamps, one_journal}
use Rattle.context_books.proofs.HistoryJournals.{spot, from, has_mark, on_in, spot_in, stamps_rise, legal_history}

-- ---- the list of all places by their stamps

module _ (batch : Batch) (journals : List (List Mark)) (t : LegalHistory batch journals) where
  abbrev pub total : ℕ
  total = length (all_stamps journals)

  -- a mark of a journal
  abbrev pub Marked : ℕ → Mark → Type 0
  Marked c m = In m (marks_at journals c)

  pub marked_once : (c : ℕ) (m k : Mark) → Marked c m → Marked c k → m.stamp ≡ k.stamp → m ≡ k
  marked_once c m k i j e =
      let ms = marks_at journals c in
      let a = at_in ms m i in
      let b = at_in ms k j in
      let before = pairs_at HasLowerStamp ms (t.each c).rise in
      elim (cases_eq a.0 b.0) [
        | inl same ↦ (let f : Some m ≡ Some k = sym a.1 ∙ ap (slice_get ms) same ∙ b.1 in cc)
        | inr ne ↦ elim (cases_lt a.0 b.0) [
          | inl low ↦ absurd (let f : m.stamp < k.stamp = before a.0 b.0 m k low a.1 b.1 in omega arith)
          | inr high ↦ absurd (let f : k.stamp < m.stamp = before b.0 a.0 k m (omega arith) b.1 a.1 in omega arith)
        ]
      ]

  pub same_mark : (c d : ℕ) (m k : Mark) → Marked c m → Marked d k → m.stamp ≡ k.stamp → (c ≡ d) × (m ≡ k)
  same_mark c d m k i j e =
      let same = one_journal journals t.stamped c d m k i j e in
      (same, marked_once d m k (subst (λ x. Marked x m) same i) j e)

  pub below_total : (c : ℕ) (m : Mark) → Marked c m → m.stamp < total
  below_total c m i =
      let has = Contains-permutation (all_stamps journals) (range_with_len 0 total) m.stamp t.stamped (contains_in (all_stamps journals) m.stamp (in_all_stamps journals c m i)) in
      let r = range_below total 0 m.stamp (in_contains (range_with_len 0 total) m.stamp has) in
      omega arith

  pub found : (s : ℕ) → s < total → (c : ℕ) × (m : Mark) × (c < length journals) × Marked c m × (m.stamp ≡ s)
  found s low =
      stamp_of journals s
      (in_contains (all_stamps journals) s
      (Contains-permutation (range_with_len 0 total) (all_stamps journals) s (IsPermutation-sym (all_stamps journals) (range_with_len 0 total) t.stamped)
      (contains_in (range_with_len 0 total) s (in_range total 0 s (omega arith) (omega arith)))))

  -- the places from this stamp on
  abbrev pub IsListFrom : ℕ → List Spot → Type 0
  IsListFrom s h = (i : ℕ) (x : Spot) → slice_get h i ≡ Some x → (m : Mark) × (x ≡ spot x.context m.place) × (x.context < length journals) × Marked x.context m × (m.stamp ≡ s + i)

  pub listed : (s n : ℕ) → s + n ≡ total → (h : List Spot) × (length h ≡ n) × IsListFrom s h
  listed s zero e = ([], refl, λ i x at. absurd (let f : None ≡ Some x = at in cc))
  listed s (suc n) e =
      let f = found s (omega arith) in
      let r = listed (s + 1) n (omega arith) in
      (spot f.0 f.1.place ∷ r.0, ap suc r.1, with_first f.0 f.1 f.2 f.3 f.4 r.0 r.2)
    where
      with_first : (c : ℕ) (m : Mark) → c < length journals → Marked c m → m.stamp ≡ s → (h : List Spot) → IsListFrom (s + 1) h → IsListFrom s (spot c m.place ∷ h)
      with_first c m low has is h rest zero x at =
          let same : spot c m.place ≡ x = (let g : Some (spot c m.place) ≡ Some x = at in cc) in
          let context : c ≡ x.context = ap (λ (y : Spot). y.context) same in
          (m, sym same ∙ ap (λ k. spot k m.place) context, subst (λ k. k < length journals) context low, subst (λ k. Marked k m) context has, is ∙ (let z : s ≡ s + 0 = omega arith in z))
      with_first c m low has is h rest (suc i) x at = let u = rest i x at in (u.0, u.1, u.2, u.3, u.4 ∙ (let z : s + 1 + i ≡ s + suc i = omega arith in z))

  pub all : (h : List Spot) × (length h ≡ total) × IsListFrom 0 h
  all = listed 0 total (omega arith)

  abbrev pub history : List Spot
  history = all.0

  pub at_stamp : (i : ℕ) (x : Spot) → slice_get history i ≡ Some x → (m : Mark) × (x ≡ spot x.context m.place) × (x.context < length journals) × Marked x.context m × (m.stamp ≡ 0 + i)
  at_stamp = all.2

  -- each mark stands at its stamp
  pub stands : (c : ℕ) (m : Mark) → Marked c m → slice_get history m.stamp ≡ Some (spot c m.place)
  stands c m i =
      let low = below_total c m i in
      let size = all.1 in
      let g = got history m.stamp (omega arith) in
      let u = at_stamp m.stamp g.0 g.1 in
      let stamp : m.stamp ≡ u.0.stamp = sym (u.4 ∙ (let z : 0 + m.stamp ≡ m.stamp = omega arith in z)) in
      let same = same_mark c g.0.context m u.0 i u.3 stamp in
      g.1 ∙ ap Some (u.1 ∙ (λ j. spot (sym same.0 j) ((sym same.1 j).place)))

  history_has : (c : ℕ) (m : Mark) → Marked c m → In (spot c m.place) history
  history_has c m i = in_contains history (spot c m.place) (contains_at history m.stamp (spot c m.place) (stands c m i))

  -- ---- its journals

  stamp_apart : (m k : Mark) → m.stamp < k.stamp → k.stamp < m.stamp → ⊥
  stamp_apart m k a b = absurd (omega arith)

  journal_is : (c : ℕ) → marks_at journals c ≡ stamped_on c 0 history
  journal_is c =
      one_list HasLowerStamp stamp_apart (marks_at journals c) (stamped_on c 0 history)
      (rises_pairs HasLowerStamp (marks_at journals c) (t.each c).rise) (stamps_rise c 0 history)
      (λ m i. subst (λ k. In (mark m.place k) (stamped_on c 0 history)) (let z : 0 + m.stamp ≡ m.stamp = omega arith in z) (has_mark c 0 history m.stamp m.place (stands c m i)))
      (λ m i.
      let f = from c 0 history m i in
      let u = at_stamp f.0 (spot c m.place) f.2 in
      let p : m.place ≡ u.0.place = ap (λ (x : Spot). x.place) u.1 in
      let same : u.0 ≡ m = (λ j. mark (sym p j) ((u.4 ∙ sym f.1) j)) in
      subst (Marked c) same u.3)

  pub journals_are : journals ≡ journals_of (length journals) history
  journals_are = fill_by_all {X = List Mark} (λ c. stamped_on c 0 history) journals (length journals) [] refl (λ c low. journal_is c)

  -- ---- its order

  served_at : (c : ℕ) (m : Mark) → Marked c m → IsServed batch c m.place
  served_at c m i = ((t.each c).served m.place).0 (contains_in (places (marks_at journals c)) m.place (in_map (λ (k : Mark). k.place) m (marks_at journals c) i))

  marked : (c : ℕ) (p : Place) → IsServed batch c p → (m : Mark) × Marked c m × (m.place ≡ p)
  marked c p served = map_in (λ (k : Mark). k.place) p (marks_at journals c) (in_contains (places (marks_at journals c)) p (((t.each c).served p).1 served))

  -- two marks of one place are one
  one_place : (c : ℕ) (m k : Mark) → Marked c m → Marked c k → m.place ≡ k.place → m.stamp ≡ k.stamp
  one_place c m k i j e =
      let ms = marks_at journals c in
      let a = at_in ms m i in
      let b = at_in ms k j in
      let apart = pairs_at (λ (p q : Place). p ≢ q) (places ms) (t.each c).once in
      elim (cases_eq a.0 b.0) [
        | inl same ↦ (let f : Some m ≡ Some k = sym a.1 ∙ ap (slice_get ms) same ∙ b.1 in ap (λ (x : Mark). x.stamp) (let g : m ≡ k = cc in g))
        | inr ne ↦ elim (cases_lt a.0 b.0) [
          | inl low ↦ absurd (apart a.0 b.0 m.place k.place low (place_at ms a.0 m a.1) (place_at ms b.0 k b.1) e)
          | inr high ↦ absurd (apart b.0 a.0 k.place m.place (omega arith) (place_at ms b.0 k b.1) (place_at ms a.0 m a.1) (sym e))
        ]
      ]

  one_context : (c d : ℕ) (p : Place) → IsServed batch c p → IsServed batch d p → c ≡ d
  one_context c d p a b = first (c, a.0) (d, b.0) (sym a.1 ∙ b.1)
    where
      first : (x y : ℕ × Item) → Some x ≡ Some y → x.0 ≡ y.0
      first x y e = ap (λ (r : ℕ × Item). r.0) (let f : x ≡ y = cc in f)

  in_order : (i j : ℕ) (x y : Spot) → i < j → slice_get history i ≡ Some x → slice_get history j ≡ Some y → x.place.lane ≡ y.place.lane → IsBefore x.place y.place
  in_order i j x y low a b lane =
      let u = at_stamp i x a in
      let v = at_stamp j y b in
      let m = u.0 in
      let k = v.0 in
      let p : x.place ≡ m.place = ap (λ (s : Spot). s.place) u.1 in
      let q : y.place ≡ k.place = ap (λ (s : Spot). s.place) v.1 in
      let less : m.stamp < k.stamp = (let e = u.4 in let f = v.4 in omega arith) in
      let same : m.place.lane ≡ k.place.lane = sym (ap (λ (r : Place). r.lane) p) ∙ lane ∙ ap (λ (r : Place). r.lane) q in
      let here : IsBefore m.place k.place = elim (either_before m.place k.place same) [
        | inr e ↦ absurd (let c = one_context x.context y.context m.place (served_at x.context m u.3) (subst (IsServed batch y.context) (sym e) (served_at y.context k v.3)) in
            let f = one_place y.context m k (subst (λ z. Marked z m) c u.3) v.3 e in omega arith)
        | inl o ↦ elim o [
          | inl before ↦ before
          | inr before ↦ absurd (let f : k.stamp < m.stamp = t.in_order y.context x.context k m (contains_in (marks_at journals y.context) k v.3) (contains_in (marks_at journals x.context) m u.3) (sym same) before in omega arith)
        ]
      ] in
      subst (λ r. IsBefore r y.place) (sym p) (subst (IsBefore m.place) (sym q) here)

  abbrev Earlier : Spot → Spot → Type 0
  Earlier x y = IsBefore x.place y.place

  earlier_apart : (x y : Spot) → Earlier x y → Earlier y x → ⊥
  earlier_apart x y a b = not_both x.place y.place a b

  own_rises : (l : ℕ) → RisesBy Earlier (own_spots l history)
  own_rises l =
      rises-filter Earlier (λ (s : Spot). s.place.lane == l) history
      (λ i j x y low a b e f. in_order i j x y low a b (eqb-true x.place.lane l e ∙ sym (eqb-true y.place.lane l f)))

  asked_rises : (ss : List Spot) → Rises (all_places ss) → RisesBy Earlier ss
  asked_rises [] r = tt
  asked_rises (s ∷ ss) r = (λ x i. r.0 x.place (in_map (λ (y : Spot). y.place) x ss i), asked_rises ss r.1)

  own_is : (l : ℕ) → own_spots l history ≡ all_asked l 0 (lane_of batch l)
  own_is l =
      let asks = lane_of batch l in
      one_list Earlier earlier_apart (own_spots l history) (all_asked l 0 asks) (own_rises l) (asked_rises (all_asked l 0 asks) (rises_all l 0 asks))
      (λ x i.
      let o = own_spot l x history i in
      let a = at_in history x o.0 in
      let u = at_stamp a.0 x a.1 in
      let served = subst (IsServed batch x.context) (ap (λ (s : Spot). s.place) (sym u.1)) (served_at x.context u.0 u.3) in
      spot_in x.context (all_asked l 0 asks) x.place (subst (λ k. In x.place (lane_places x.context k (lane_of batch k))) o.1 (served_asked batch x.context x.place served)))
      (λ x i.
      let a = asked_served batch x.context l x.place (on_in (all_asked l 0 asks) x i) in
      let m = marked x.context x.place a.1 in
      spot_own l x history (subst (λ p. In (spot x.context p) history) m.2 (history_has x.context m.0 m.1)) a.0)

  -- ---- its blocks

  block_here : (c lane call item first n : ℕ) (h : List Spot) → ((i : ℕ) → i < n → slice_get h (first + i) ≡ Some (spot c (place lane call (item + i))))
      → (before after : List Spot) × (h ≡ before ++ (spots c (block lane call item n) ++ after))
  block_here c lane call item first zero h f = ([], h, refl)
  block_here c lane call item first (suc n) [] f = absurd (let g : None ≡ Some (spot c (place lane call (item + 0))) = f 0 (omega arith) in cc)
  block_here c lane call item zero (suc n) (s ∷ h) f =
      let head : s ≡ spot c (place lane call item) =
      one_value s (spot c (place lane call item)) (ap (slice_get (s ∷ h)) (let z : 0 ≡ 0 + 0 = omega arith in z) ∙ f 0 (omega arith) ∙ ap (λ k. Some (spot c (place lane call k))) (let z : item + 0 ≡ item = omega arith in z)) in
      let rest = front_of c lane call (item + 1) n h (λ i low. ap (slice_get (s ∷ h)) (let z : suc i ≡ 0 + suc i = omega arith in z) ∙ f (suc i) (omega arith) ∙ ap (λ k. Some (spot c (place lane call k))) (let z : item + suc i ≡ item + 1 + i = omega arith in z)) in
      ([], rest.0, (λ j. head j ∷ rest.1 j))
    where
      one_value : (x y : Spot) → Some x ≡ Some y → x ≡ y
      one_value x y e = cc

      front_of : (c lane call item n : ℕ) (h : List Spot) → ((i : ℕ) → i < n → slice_get h i ≡ Some (spot c (place lane call (item + i)))) → (after : List Spot) × (h ≡ spots c (block lane call item n) ++ after)
      front_of c lane call item zero h f = (h, refl)
      front_of c lane call item (suc n) [] f = absurd (let g : None ≡ Some (spot c (place lane call (item + 0))) = f 0 (omega arith) in cc)
      front_of c lane call item (suc n) (s ∷ h) f =
          let head : s ≡ spot c (place lane call item) = one_value s (spot c (place lane call item)) (f 0 (omega arith) ∙ ap (λ k. Some (spot c (place lane call k))) (let z : item + 0 ≡ item = omega arith in z)) in
          let rest = front_of c lane call (item + 1) n h (λ i low. f (suc i) (omega arith) ∙ ap (λ k. Some (spot c (place lane call k))) (let z : item + suc i ≡ item + 1 + i = omega arith in z)) in
          (rest.0, (λ j. head j ∷ rest.1 j))
  block_here c lane call item (suc first) (suc n) (s ∷ h) f =
      let r = block_here c lane call item first (suc n) h (λ i low. ap (slice_get (s ∷ h)) (let z : suc (first + i) ≡ suc first + i = omega arith in z) ∙ f i low) in
      (s ∷ r.0, r.1, ap (λ l. s ∷ l) r.2)

  together : (context lane call n : ℕ) → OpensOn batch context lane call n → (before after : List Spot) × (history ≡ before ++ (spots context (block lane call 0 n) ++ after))
  together c lane call n o =
      let b = (t.each c).together lane call n o in
      block_here c lane call 0 b.0 n history
      (λ i low. stands c (mark (place lane call i) (b.0 + i)) (in_contains (marks_at journals c) (mark (place lane call i) (b.0 + i)) (b.1 i low))
      ∙ ap (λ k. Some (spot c (place lane call k))) (let z : i ≡ 0 + i = omega arith in z))

  pub one_history : IsHistory batch (length journals) history
  one_history = record {
    within = λ s has. let a = at_contained history s has in (at_stamp a.0 s a.1).2;
    lanes = own_is;
    together = together;
  }

pub history_iff : (batch : Batch) (journals : List (List Mark))
    → LegalHistory batch journals ↔ ((history : List Spot) × IsHistory batch (length journals) history × (journals ≡ journals_of (length journals) history))
history_iff batch journals = (
  λ t. ((all batch journals t).0, one_history batch journals t, journals_are batch journals t),
  λ h. subst (LegalHistory batch) (sym h.2) (legal_history batch (length journals) h.0 h.1),
)
