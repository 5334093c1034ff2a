-- The test of all journals passes exactly where they are a legal history.
use Rattle.std.proofs.Common.{◌≡◌, ◌≢◌, ℕ, zero, suc, ◌+◌, ◌<◌, ◌==◌, ◌&&◌, Bool, true, false, cond, List, [], ◌∷◌, ◌++◌, length, map, sym, refl, ap, ◌∙◌, subst, arith, eq-eqb, eqb-true, ne_eqb, Option, Some, None, inl, inr}
use Rattle.std.specs.Prelude.{slice_get, slice_index_or, IsTrue, filter, flat_map, nat_lt, ◌↔◌}
use Rattle.std.specs.List.{AllPairs, list_all, range_with_len}
use Rattle.std.proofs.lemmas.Bool.{cases_lt}
use Rattle.std.proofs.lemmas.List.{get_or_past, length-map, map-append}
use Rattle.call_places.specs.declared.entries.Place.{Place}
use Rattle.call_places.specs.declared.entries.Mark.{Mark}
use Rattle.call_places.specs.Orders.{IsBefore}
use Rattle.context_books.specs.Batches.{Batch, Ask, Nothing, ToSeal, ToOpen, ToOpenAll, unseal, with_context, item_in_call, Spot, spots, block, place, on, lane_of}
use Rattle.context_books.specs.Merging.{all_asked, own_spots, IsHistory}
use Rattle.context_books.specs.Legal.{IsInLaneOrder, OpensOn, StandTogether, is_same_place}
use Rattle.context_books.specs.Histories.{mark, places, marks_at, HasLowerStamp, LegalHistory, journals_of}
use Rattle.context_books.specs.Checks.{are_same, goes_on_in, is_unbroken, is_same_spot, is_same_mark, spots_stamped, by_stamps, has_lane_spots, is_history, is_legal_history}
use Rattle.context_books.proofs.Members.{In-left, In-right, in_contains, contains_in, got, in_map, filter_in, in_range, none_in, RisesBy, rises_pairs}
use Rattle.context_books.specs.Lists.{In}
use Rattle.context_books.proofs.Truths.{and_left, and_right, both_true, all_true, true_all, lt_true, true_lt}
use Rattle.context_books.proofs.Places.{same, same_places, not_before}
use Rattle.context_books.proofs.Legals.{in_block, all_asked_item, item_all_asked}
use Rattle.context_books.proofs.Spots.{all_places, all_places-spots, history_ordered, own_spot, spot_own}
use Rattle.context_books.proofs.HistoryJournals.{spot, on_in, spot_in}
use Rattle.context_books.proofs.Checking.{same_list, list_same, one_item, unbroken_from, stands_unbroken}
use Rattle.context_books.proofs.OneHistory.{all, at_stamp, same_mark as one_mark, journals_are, one_history, history_iff}

-- ---- the same spots, marks and journals

spot_same : (s t : Spot) → is_same_spot s t ≡ true → s ≡ t
spot_same s t e =
    let c = eqb-true s.context t.context (and_left (s.context == t.context) (is_same_place s.place t.place) e) in
    let p = same_places s.place t.place (and_right (s.context == t.context) (is_same_place s.place t.place) e) in
    (λ i. spot (c i) (p i))

same_spot : (s : Spot) → is_same_spot s s ≡ true
same_spot s = both_true (s.context == s.context) (is_same_place s.place s.place) (eq-eqb s.context s.context refl) (same s.place)

mark_same : (m k : Mark) → is_same_mark m k ≡ true → m ≡ k
mark_same m k e =
    let p = same_places m.place k.place (and_left (is_same_place m.place k.place) (m.stamp == k.stamp) e) in
    let s = eqb-true m.stamp k.stamp (and_right (is_same_place m.place k.place) (m.stamp == k.stamp) e) in
    (λ i. mark (p i) (s i))

same_mark : (m : Mark) → is_same_mark m m ≡ true
same_mark m = both_true (is_same_place m.place m.place) (m.stamp == m.stamp) (same m.place) (eq-eqb m.stamp m.stamp refl)

-- the same journals
abbrev are_journals : List (List Mark) → List (List Mark) → Bool
are_journals js ks = are_same (are_same is_same_mark) js ks

-- ---- a history passes

module _ (batch : Batch) (contexts : ℕ) (h : List Spot) (t : IsHistory batch contexts h) where
  ordered : AllPairs IsInLaneOrder (all_places h)
  ordered = history_ordered h (lane_of batch) t.lanes

  once : AllPairs (λ (p q : Place). p ≢ q) (all_places h)
  once = λ i j d a b same. let o = ordered i j d a b (ap (λ (q : Place). q.lane) same) in
      not_before (slice_index_or (all_places h) i d) (subst (IsBefore (slice_index_or (all_places h) i d)) (sym same) o)

  opens_at : (p : Place) (o : Option Ask) → slice_get (lane_of batch p.lane) p.call ≡ o → goes_on_in o p.item ≡ true
      → (n : ℕ) × StandTogether (all_places h) (block p.lane p.call 0 n) × (p.item + 1 < n)
  opens_at p None e go = absurd (let f : false ≡ true = go in cc)
  opens_at p (Some Nothing) e go = absurd (let f : false ≡ true = go in cc)
  opens_at p (Some (ToSeal c aad text)) e go = absurd (let f : false ≡ true = go in cc)
  opens_at p (Some (ToOpen c aad ct)) e go = absurd (let f : false ≡ true = go in cc)
  opens_at p (Some (ToOpenAll c ms)) e go =
      let b = t.together c p.lane p.call (length ms) (ms, e, refl) in
      let ps = block p.lane p.call 0 (length ms) in (
        length ms,
        (
          all_places b.0,
          all_places b.1,
          ap all_places b.2 ∙ map-append (λ (s : Spot). s.place) b.0 (spots c ps ++ b.1)
              ∙ ap (λ m. all_places b.0 ++ m) (map-append (λ (s : Spot). s.place) (spots c ps) b.1 ∙ ap (λ m. m ++ all_places b.1) (all_places-spots c ps)),
        ),
        lt_true (p.item + 1) (length ms) go,
      )

  -- the lane of a place in the history is there
  lane_there : (s : Spot) → In s h → s.place.lane < length batch
  lane_there s i = elim (cases_lt s.place.lane (length batch)) [
    | inl low ↦ low
    | inr high ↦ absurd (let own = spot_own s.place.lane s h i refl in
        let here : In s (all_asked s.place.lane 0 (lane_of batch s.place.lane)) = subst (In s) (t.lanes s.place.lane) own in
        subst (λ asks. In s (all_asked s.place.lane 0 asks)) (get_or_past batch s.place.lane [] high) here)
  ]

  pub history_passes : is_history batch contexts h ≡ true
  history_passes =
      let spots_test = λ (s : Spot). nat_lt s.context contexts && nat_lt s.place.lane (length batch) in
      let lanes_test = has_lane_spots batch h in
      both_true (list_all spots_test h && list_all lanes_test (range_with_len 0 (length batch))) (is_unbroken batch (all_places h))
      (both_true (list_all spots_test h) (list_all lanes_test (range_with_len 0 (length batch)))
      (true_all spots_test h (λ s i. both_true (nat_lt s.context contexts) (nat_lt s.place.lane (length batch)) (true_lt s.context contexts (t.within s (contains_in h s i))) (true_lt s.place.lane (length batch) (lane_there s i))))
      (true_all lanes_test (range_with_len 0 (length batch)) (λ l i. ap (λ ss. are_same is_same_spot ss (all_asked l 0 (lane_of batch l))) (t.lanes l) ∙ list_same is_same_spot same_spot (all_asked l 0 (lane_of batch l)))))
      (unbroken_from batch (all_places h) once (λ p i go. opens_at p (slice_get (lane_of batch p.lane) p.call) refl go) [] (all_places h) refl)

-- ---- what passes is a history

map_split : (ss : List Spot) (xs ys : List Place) → all_places ss ≡ xs ++ ys → (a b : List Spot) × (ss ≡ a ++ b) × (all_places a ≡ xs) × (all_places b ≡ ys)
map_split ss [] ys e = ([], ss, refl, refl, e)
map_split [] (x ∷ xs) ys e = absurd (let f : [] ≡ x ∷ (xs ++ ys) = e in cc)
map_split (s ∷ ss) (x ∷ xs) ys e =
    let f : s.place ∷ all_places ss ≡ x ∷ (xs ++ ys) = e in
    let head : s.place ≡ x = cc in
    let tail : all_places ss ≡ xs ++ ys = cc in
    let t = map_split ss xs ys tail in
    (s ∷ t.0, t.1, ap (λ l. s ∷ l) t.2, (λ i. head i ∷ t.3 i), t.4)

of_context : (c : ℕ) (ss : List Spot) → ((s : Spot) → In s ss → s.context ≡ c) → ss ≡ spots c (all_places ss)
of_context c [] f = refl
of_context c (s ∷ ss) f = (λ i. spot (f s (inl refl) i) s.place ∷ of_context c ss (λ t j. f t (inr j)) i)

module _ (batch : Batch) (contexts : ℕ) (h : List Spot) (passes : is_history batch contexts h ≡ true) where
  abbrev spots_test : Spot → Bool
  spots_test s = nat_lt s.context contexts && nat_lt s.place.lane (length batch)

  abbrev lanes_test : ℕ → Bool
  lanes_test = has_lane_spots batch h

  front : (list_all spots_test h && list_all lanes_test (range_with_len 0 (length batch))) ≡ true
  front = and_left (list_all spots_test h && list_all lanes_test (range_with_len 0 (length batch))) (is_unbroken batch (all_places h)) passes

  spot_passes : (s : Spot) → In s h → (s.context < contexts) × (s.place.lane < length batch)
  spot_passes s i =
      let a = all_true spots_test h (and_left (list_all spots_test h) (list_all lanes_test (range_with_len 0 (length batch))) front) s i in
      (lt_true s.context contexts (and_left (nat_lt s.context contexts) (nat_lt s.place.lane (length batch)) a), lt_true s.place.lane (length batch) (and_right (nat_lt s.context contexts) (nat_lt s.place.lane (length batch)) a))

  lane_is : (l : ℕ) → own_spots l h ≡ all_asked l 0 (lane_of batch l)
  lane_is l = elim (cases_lt l (length batch)) [
    | inl low ↦ same_list is_same_spot spot_same (own_spots l h) (all_asked l 0 (lane_of batch l))
        (all_true lanes_test (range_with_len 0 (length batch)) (and_right (list_all spots_test h) (list_all lanes_test (range_with_len 0 (length batch))) front) l (in_range (length batch) 0 l (omega arith) (omega arith)))
    | inr high ↦ none_in (own_spots l h) (λ s i. let o = own_spot l s h i in let low = (spot_passes s o.0).1 in let same = o.1 in omega arith) ∙ sym (ap (all_asked l 0) (get_or_past batch l [] high))
  ]

  together_is : (c l call n : ℕ) → OpensOn batch c l call n → (front after : List Spot) × (h ≡ front ++ (spots c (block l call 0 n) ++ after))
  together_is c l call zero o = ([], h, refl)
  together_is c l call (suc m) o =
      let size : length (map unseal o.0) ≡ suc m = length-map o.0 unseal ∙ o.2 in
      let x = got (map unseal o.0) 0 (omega arith) in
      let item : item_in_call (slice_get (lane_of batch l) call) 0 ≡ Some (c, x.0) = ap (λ (a : Option Ask). item_in_call a 0) o.1 ∙ ap (with_context c) x.1 in
      let asked : In (spot c (place l call 0)) (all_asked l 0 (lane_of batch l)) =
      spot_in c (all_asked l 0 (lane_of batch l)) (place l call 0)
      (subst (λ k. In (place l k 0) (on c (all_asked l 0 (lane_of batch l)))) (let z : 0 + call ≡ call = omega arith in z) (item_all_asked c l 0 (lane_of batch l) call 0 x.0 item)) in
      let here = (own_spot l (spot c (place l call 0)) h (subst (In (spot c (place l call 0))) (sym (lane_is l)) asked)).0 in
      let st = stands_unbroken batch l call c m o.0 o.1 o.2 (all_places h) (in_map (λ (s : Spot). s.place) (spot c (place l call 0)) h here)
      (and_right (list_all spots_test h && list_all lanes_test (range_with_len 0 (length batch))) (is_unbroken batch (all_places h)) passes) in
      let one = map_split h st.0 (block l call 0 (suc m) ++ st.1) st.2 in
      let two = map_split one.1 (block l call 0 (suc m)) st.1 one.4 in
      let whole : h ≡ one.0 ++ (two.0 ++ two.1) = one.2 ∙ ap (λ ss. one.0 ++ ss) two.2 in
      let mine : two.0 ≡ spots c (block l call 0 (suc m)) = of_context c two.0 (λ s i.
      let inside : In s h = subst (In s) (sym whole) (In-right s one.0 (two.0 ++ two.1) (In-left s two.0 two.1 i)) in
      let p = in_block s.place l call 0 (suc m) (subst (In s.place) two.3 (in_map (λ (x : Spot). x.place) s two.0 i)) in
      let own : In s (all_asked s.place.lane 0 (lane_of batch s.place.lane)) = subst (In s) (lane_is s.place.lane) (spot_own s.place.lane s h inside refl) in
      let a = all_asked_item s.context s.place.lane 0 (lane_of batch s.place.lane) s.place (on_in (all_asked s.place.lane 0 (lane_of batch s.place.lane)) s own) in
      let k : ℕ = a.1 in
      let at : s.place.call ≡ 0 + k = a.2 in
      let same_call : k ≡ call = (let e = p.1 in omega arith) in
      let y = got (map unseal o.0) s.place.item (let e = p.3 in omega arith) in
      let mine_item : item_in_call (slice_get (lane_of batch l) call) s.place.item ≡ Some (c, y.0) = ap (λ (b : Option Ask). item_in_call b s.place.item) o.1 ∙ ap (with_context c) y.1 in
      let its_item : item_in_call (slice_get (lane_of batch l) call) s.place.item ≡ Some (s.context, a.3.0) =
      (λ j. item_in_call (slice_get (lane_of batch (sym p.0 j)) (sym same_call j)) s.place.item) ∙ a.3.1 in
      one_item (s.context, a.3.0) (c, y.0) (sym its_item ∙ mine_item)) ∙ ap (spots c) two.3 in
      (one.0, two.1, whole ∙ ap (λ ss. one.0 ++ (ss ++ two.1)) mine)

  pub passes_history : IsHistory batch contexts h
  passes_history = record {
    within = λ s has. (spot_passes s (in_contains h s has)).0;
    lanes = lane_is;
    together = together_is;
  }

-- ---- the places by their stamps are the history

none_here : (s : ℕ) (xs : List Mark) → ((x : Mark) → In x xs → x.stamp ≡ s → ⊥) → filter (λ (x : Mark). x.stamp == s) xs ≡ []
none_here s xs f = none_in (filter (λ (x : Mark). x.stamp == s) xs) (λ x i. let k = filter_in (λ (y : Mark). y.stamp == s) x xs i in f x k.0 (eqb-true x.stamp s k.1))

one_stamped : (s : ℕ) (ms : List Mark) (m : Mark) → RisesBy HasLowerStamp ms → In m ms → m.stamp ≡ s → filter (λ (k : Mark). k.stamp == s) ms ≡ m ∷ []
one_stamped s [] m r i e = absurd i
one_stamped s (k ∷ ms) m r i e = elim i [
  | inl is ↦ ap (λ b. cond b (k ∷ filter (λ (x : Mark). x.stamp == s) ms) (filter (λ (x : Mark). x.stamp == s) ms)) (eq-eqb k.stamp s (ap (λ (x : Mark). x.stamp) is ∙ e))
      ∙ (λ j. is j ∷ none_here s ms (λ x h f. let g : k.stamp < x.stamp = r.0 x h in let q : k.stamp ≡ m.stamp = ap (λ (y : Mark). y.stamp) is in omega arith) j)
  | inr later ↦ ap (λ b. cond b (k ∷ filter (λ (x : Mark). x.stamp == s) ms) (filter (λ (x : Mark). x.stamp == s) ms))
      (ne_eqb k.stamp s (λ f. let g : k.stamp < m.stamp = r.0 m later in omega arith)) ∙ one_stamped s ms m r.1 later e
]

none_in_all : (s k : ℕ) (journals : List (List Mark)) → ((d : ℕ) (x : Mark) → In x (marks_at journals d) → x.stamp ≡ s → ⊥) → spots_stamped s k journals ≡ []
none_in_all s k [] f = refl
none_in_all s k (ms ∷ journals) f = (λ i. spots k (places (none_here s ms (f 0) i)) ++ none_in_all s (k + 1) journals (λ d. f (suc d)) i)

only_one : (s k c : ℕ) (journals : List (List Mark)) (m : Mark) → ((d : ℕ) → RisesBy HasLowerStamp (marks_at journals d)) → In m (marks_at journals c) → m.stamp ≡ s
    → ((d : ℕ) (x : Mark) → In x (marks_at journals d) → x.stamp ≡ s → c ≡ d) → spots_stamped s k journals ≡ spot (k + c) m.place ∷ []
only_one s k c [] m r i e f = absurd i
only_one s k zero (ms ∷ journals) m r i e f =
    (λ j. spots k (places (one_stamped s ms m (r 0) i e j)) ++ none_in_all s (k + 1) journals (λ d x h g. let z : 0 ≡ suc d = f (suc d) x h g in absurd (omega arith)) j)
    ∙ ap (λ n. spot n m.place ∷ []) (let z : k ≡ k + 0 = omega arith in z)
only_one s k (suc c) (ms ∷ journals) m r i e f =
    (λ j. spots k (places (none_here s ms (λ x h g. let z : suc c ≡ 0 = f 0 x h g in absurd (omega arith)) j)) ++ only_one s (k + 1) c journals m (λ d. r (suc d)) i e (λ d x h g. let z : suc c ≡ suc d = f (suc d) x h g in (let y : c ≡ d = omega arith in y)) j)
    ∙ ap (λ n. spot n m.place ∷ []) (let z : k + 1 + c ≡ k + suc c = omega arith in z)

each_single : (f : ℕ → List Spot) (a : ℕ) (h : List Spot) → ((i : ℕ) (x : Spot) → slice_get h i ≡ Some x → f (a + i) ≡ x ∷ []) → flat_map f (range_with_len a (length h)) ≡ h
each_single f a [] g = refl
each_single f a (s ∷ h) g =
    (λ j. (ap f (let z : a ≡ a + 0 = omega arith in z) ∙ g 0 s refl) j ++ each_single f (a + 1) h (λ i x at. ap f (let z : a + 1 + i ≡ a + suc i = omega arith in z) ∙ g (suc i) x at) j)

module _ (batch : Batch) (journals : List (List Mark)) (t : LegalHistory batch journals) where
  abbrev h : List Spot
  h = (all batch journals t).0

  by_stamps_is : by_stamps journals ≡ h
  by_stamps_is =
      ap (λ n. flat_map (λ s. spots_stamped s 0 journals) (range_with_len 0 n)) (sym (all batch journals t).1)
      ∙ each_single (λ s. spots_stamped s 0 journals) 0 h (λ i x at.
      let u = at_stamp batch journals t i x at in
      only_one (0 + i) 0 x.context journals u.0 (λ d. rises_pairs HasLowerStamp (marks_at journals d) (t.each d).rise) u.3 u.4
      (λ d k has e. (one_mark batch journals t x.context d u.0 k u.3 has (u.4 ∙ sym e)).0)
      ∙ (λ j. spot ((let z : 0 + x.context ≡ x.context = omega arith in z) j) u.0.place ∷ []) ∙ ap (λ (y : Spot). y ∷ []) (sym u.1))

  pub legal_history_passes : is_legal_history batch journals ≡ true
  legal_history_passes =
      both_true (are_journals journals (journals_of (length journals) (by_stamps journals))) (is_history batch (length journals) (by_stamps journals))
      (ap (are_journals journals) (ap (journals_of (length journals)) by_stamps_is ∙ sym (journals_are batch journals t)) ∙ list_same (are_same is_same_mark) (list_same is_same_mark same_mark) journals)
      (ap (is_history batch (length journals)) by_stamps_is ∙ history_passes batch (length journals) h (one_history batch journals t))

pub legal_history_iff : (batch : Batch) (journals : List (List Mark)) → IsTrue (is_legal_history batch journals) ↔ LegalHistory batch journals
legal_history_iff batch journals = (
  λ e. (history_iff batch journals).1 (
    by_stamps journals,
    passes_history batch (length journals) (by_stamps journals) (and_right (are_journals journals (journals_of (length journals) (by_stamps journals))) (is_history batch (length journals) (by_stamps journals)) e),
    same_list (are_same is_same_mark) (same_list is_same_mark mark_same) journals (journals_of (length journals) (by_stamps journals)) (and_left (are_journals journals (journals_of (length journals) (by_stamps journals))) (is_history batch (length journals) (by_stamps journals)) e),
  ),
  legal_history_passes batch journals,
)
