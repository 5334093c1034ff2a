-- The journals of a history of all places are a legal history.
use Rattle.std.proofs.Common.{◌≡◌, ◌≢◌, ℕ, zero, suc, ◌+◌, ◌<◌, ◌≤◌, ◌==◌, Bool, true, false, cond, List, [], ◌∷◌, ◌++◌, length, map, sym, refl, ap, ◌∙◌, subst, arith, eq-eqb, eqb-true, ne_eqb, Some, None, inl, inr}
use Rattle.std.specs.Prelude.{slice_get, Contains, flat_map, IsPermutation, ◌↔◌}
use Rattle.std.specs.List.{AllPairs, range_with_len}
use Rattle.std.proofs.lemmas.Bool.{cases_lt, cases_eq}
use Rattle.std.proofs.lemmas.List.{get_or_past}
use Rattle.std.proofs.lemmas.List.FromFn.{get_or-map-range_with_len, length-map-range_with_len, length-range_with_len}
use Rattle.std.proofs.lemmas.List.Sorted.{IsPermutation-refl, IsPermutation-cons, IsPermutation-trans, IsPermutation-append_right, IsPermutation-middle, length_permutation}
use Rattle.call_places.specs.declared.entries.Place.{Place}
use Rattle.call_places.specs.declared.entries.Mark.{Mark}
use Rattle.call_places.specs.Orders.{IsBefore}
use Rattle.context_books.specs.Batches.{Batch, Spot, spots, block, place, on, lane_of, IsServed}
use Rattle.context_books.specs.Merging.{all_asked, own_spots, IsHistory}
use Rattle.context_books.specs.Legal.{OpensOn, Legal}
use Rattle.context_books.specs.Histories.{mark, places, stamps, marks_at, all_stamps, HasLowerStamp, HaveConsecutiveStamps, LegalMarks, LegalHistory, stamped_on, journals_of}
use Rattle.context_books.proofs.Lists.{own_places-on, on-append, on-spots_same}
use Rattle.context_books.proofs.Members.{contains_in, in_contains, contains_at, none_in, RisesBy, pairs_rise}
use Rattle.context_books.specs.Lists.{In}
use Rattle.context_books.proofs.Places.{not_both, not_before}
use Rattle.context_books.proofs.Legals.{legal}
use Rattle.context_books.proofs.Spots.{history_in_order}

-- ---- the journals of a history

abbrev pub spot : ℕ → Place → Spot
spot c p = record { context = c; place = p }

pub places-stamped_on : (c n : ℕ) (h : List Spot) → places (stamped_on c n h) ≡ on c h
places-stamped_on c n [] = refl
places-stamped_on c n (s ∷ h) = step (s.context == c) (places-stamped_on c (n + 1) h)
  where
    step : (b : Bool) → places (stamped_on c (n + 1) h) ≡ on c h → places (cond b (mark s.place n ∷ stamped_on c (n + 1) h) (stamped_on c (n + 1) h)) ≡ cond b (s.place ∷ on c h) (on c h)
    step true e = ap (λ l. s.place ∷ l) e
    step false e = e

-- a mark is a place of the history, at its stamp
abbrev pub IsFrom : ℕ → ℕ → List Spot → Mark → Type 0
IsFrom c n h m = (i : ℕ) × (m.stamp ≡ n + i) × (slice_get h i ≡ Some (spot c m.place))

pub from : (c n : ℕ) (h : List Spot) (m : Mark) → In m (stamped_on c n h) → IsFrom c n h m
from c n [] m i = absurd i
from c n (s ∷ h) m i = step (s.context == c) refl (from c (n + 1) h m) i
  where
    later : IsFrom c (n + 1) h m → IsFrom c n (s ∷ h) m
    later t = (suc t.0, (let i : ℕ = t.0 in let e : m.stamp ≡ n + 1 + i = t.1 in omega arith), t.2)

    step : (b : Bool) → (s.context == c) ≡ b → (In m (stamped_on c (n + 1) h) → IsFrom c (n + 1) h m) → In m (cond b (mark s.place n ∷ stamped_on c (n + 1) h) (stamped_on c (n + 1) h)) → IsFrom c n (s ∷ h) m
    step true e f has = elim has [
      | inl is ↦ (0, (let z : m.stamp ≡ n = sym (ap (λ (k : Mark). k.stamp) is) in omega arith), ap Some (λ j. spot (eqb-true s.context c e j) (ap (λ (k : Mark). k.place) is j)))
      | inr more ↦ later (f more)
    ]
    step false e f has = later (f has)

-- a place of the history has its mark
pub has_mark : (c n : ℕ) (h : List Spot) (i : ℕ) (p : Place) → slice_get h i ≡ Some (spot c p) → In (mark p (n + i)) (stamped_on c n h)
has_mark c n [] i p e = absurd (let f : None ≡ Some (spot c p) = e in cc)
has_mark c n (s ∷ h) zero p e =
    let is : s ≡ spot c p = (let f : Some s ≡ Some (spot c p) = e in cc) in
    subst (λ b. In (mark p (n + 0)) (cond b (mark s.place n ∷ stamped_on c (n + 1) h) (stamped_on c (n + 1) h))) (sym (eq-eqb s.context c (ap (λ (t : Spot). t.context) is)))
    (inl (λ j. mark (ap (λ (t : Spot). t.place) is j) ((let z : n ≡ n + 0 = omega arith in z) j)))
has_mark c n (s ∷ h) (suc i) p e = step (s.context == c) (subst (λ k. In (mark p k) (stamped_on c (n + 1) h)) (let z : n + 1 + i ≡ n + suc i = omega arith in z) (has_mark c (n + 1) h i p e))
  where
    step : (b : Bool) → In (mark p (n + suc i)) (stamped_on c (n + 1) h) → In (mark p (n + suc i)) (cond b (mark s.place n ∷ stamped_on c (n + 1) h) (stamped_on c (n + 1) h))
    step true t = inr t
    step false t = t

pub stamps_rise : (c n : ℕ) (h : List Spot) → RisesBy HasLowerStamp (stamped_on c n h)
stamps_rise c n [] = tt
stamps_rise c n (s ∷ h) = step (s.context == c) (stamps_rise c (n + 1) h)
  where
    step : (b : Bool) → RisesBy HasLowerStamp (stamped_on c (n + 1) h) → RisesBy HasLowerStamp (cond b (mark s.place n ∷ stamped_on c (n + 1) h) (stamped_on c (n + 1) h))
    step true t = (λ k i. let f = from c (n + 1) h k i in let j : ℕ = f.0 in let e : k.stamp ≡ n + 1 + j = f.1 in omega arith, t)
    step false t = t

-- ---- each stamp is given once

-- in the lists of all contexts, one of them has x in front
one_more : (F G : ℕ → List ℕ) (x d : ℕ) → ((c : ℕ) → F c ≡ cond (d == c) (x ∷ G c) (G c)) → (a m : ℕ) → a ≤ d → d < a + m
    → IsPermutation (flat_map F (range_with_len a m)) (x ∷ flat_map G (range_with_len a m))
one_more F G x d f a zero low high = absurd (omega arith)
one_more F G x d f a (suc m) low high = elim (cases_eq d a) [
  | inl same ↦ subst (λ ys. IsPermutation ys (x ∷ (G a ++ flat_map G (range_with_len (a + 1) m))))
      (sym (λ i. (f a ∙ ap (λ b. cond b (x ∷ G a) (G a)) (eq-eqb d a same)) i ++ same_later (a + 1) m (omega arith) i)) (IsPermutation-refl _)
  | inr ne ↦ subst (λ ys. IsPermutation (ys ++ flat_map F (range_with_len (a + 1) m)) (x ∷ (G a ++ flat_map G (range_with_len (a + 1) m))))
      (sym (f a ∙ ap (λ b. cond b (x ∷ G a) (G a)) (ne_eqb d a ne)))
      (IsPermutation-trans _ _ _
      (IsPermutation-append_right (G a) (flat_map F (range_with_len (a + 1) m)) (x ∷ flat_map G (range_with_len (a + 1) m)) (one_more F G x d f (a + 1) m (omega arith) (omega arith)))
      (IsPermutation-middle (G a) x (flat_map G (range_with_len (a + 1) m))))
]
  where
    same_later : (b k : ℕ) → d < b → flat_map F (range_with_len b k) ≡ flat_map G (range_with_len b k)
    same_later b zero up = refl
    same_later b (suc k) up = (λ i. (f b ∙ ap (λ t. cond t (x ∷ G b) (G b)) (ne_eqb d b (λ e. absurd (omega arith)))) i ++ same_later (b + 1) k (omega arith) i)

none_yet : (a m : ℕ) → flat_map {A = ℕ} (λ (c : ℕ). []) (range_with_len a m) ≡ []
none_yet a zero = refl
none_yet a (suc m) = none_yet (a + 1) m

each_once : (contexts n : ℕ) (h : List Spot) → ((s : Spot) → In s h → s.context < contexts)
    → IsPermutation (flat_map (λ c. stamps (stamped_on c n h)) (range_with_len 0 contexts)) (range_with_len n (length h))
each_once contexts n [] few = subst (λ ys. IsPermutation ys []) (sym (none_yet 0 contexts)) (IsPermutation-refl [])
each_once contexts n (s ∷ h) few =
    IsPermutation-trans _ _ _
    (one_more (λ c. stamps (stamped_on c n (s ∷ h))) (λ c. stamps (stamped_on c (n + 1) h)) n s.context (λ c. step c (s.context == c)) 0 contexts (omega arith) (let f = few s (inl refl) in omega arith))
    (IsPermutation-cons n _ _ (each_once contexts (n + 1) h (λ t i. few t (inr i))))
  where
    step : (c : ℕ) (b : Bool) → stamps (cond b (mark s.place n ∷ stamped_on c (n + 1) h) (stamped_on c (n + 1) h)) ≡ cond b (n ∷ stamps (stamped_on c (n + 1) h)) (stamps (stamped_on c (n + 1) h))
    step c true = refl
    step c false = refl

flat_map-map : (f : ℕ → List Mark) (xs : List ℕ) → all_stamps (map f xs) ≡ flat_map (λ c. stamps (f c)) xs
flat_map-map f [] = refl
flat_map-map f (x ∷ xs) = ap (λ l. stamps (f x) ++ l) (flat_map-map f xs)

-- ---- the places of a history

pub on_in : (h : List Spot) (s : Spot) → In s h → In s.place (on s.context h)
on_in [] s i = absurd i
on_in (t ∷ h) s i = elim i [
  | inl e ↦ subst (λ b. In s.place (cond b (t.place ∷ on s.context h) (on s.context h))) (sym (eq-eqb t.context s.context (ap (λ (u : Spot). u.context) e))) (inl (ap (λ (u : Spot). u.place) e))
  | inr r ↦ step (t.context == s.context) (on_in h s r)
]
  where
    step : (b : Bool) → In s.place (on s.context h) → In s.place (cond b (t.place ∷ on s.context h) (on s.context h))
    step true j = inr j
    step false j = j

pub spot_in : (c : ℕ) (ss : List Spot) (p : Place) → In p (on c ss) → In (spot c p) ss
spot_in c [] p i = absurd i
spot_in c (s ∷ ss) p i = step (s.context == c) refl i (spot_in c ss p)
  where
    step : (b : Bool) → (s.context == c) ≡ b → In p (cond b (s.place ∷ on c ss) (on c ss)) → (In p (on c ss) → In (spot c p) ss) → In (spot c p) (s ∷ ss)
    step true e has later = elim has [
      | inl is ↦ inl (λ j. spot (eqb-true s.context c e j) (is j))
      | inr more ↦ inr (later more)
    ]
    step false e has later = inr (later has)

at_append : (xs ys : List Spot) (i : ℕ) (s : Spot) → slice_get ys i ≡ Some s → slice_get (xs ++ ys) (length xs + i) ≡ Some s
at_append [] ys i s e = ap (slice_get ys) (let z : 0 + i ≡ i = omega arith in z) ∙ e
at_append (x ∷ xs) ys i s e = ap (slice_get (x ∷ (xs ++ ys))) (let z : suc (length xs) + i ≡ suc (length xs + i) = omega arith in z) ∙ at_append xs ys i s e

first_part : (xs ys : List Spot) (i : ℕ) (s : Spot) → slice_get xs i ≡ Some s → slice_get (xs ++ ys) i ≡ Some s
first_part [] ys i s e = absurd (let f : None ≡ Some s = e in cc)
first_part (x ∷ xs) ys zero s e = e
first_part (x ∷ xs) ys (suc i) s e = first_part xs ys i s e

block_at : (c lane call i n j : ℕ) → j < n → slice_get (spots c (block lane call i n)) j ≡ Some (spot c (place lane call (i + j)))
block_at c lane call i zero j l = absurd (omega arith)
block_at c lane call i (suc n) zero l = ap (λ k. Some (spot c (place lane call k))) (let z : i ≡ i + 0 = omega arith in z)
block_at c lane call i (suc n) (suc j) l = block_at c lane call (i + 1) n j (omega arith) ∙ ap (λ k. Some (spot c (place lane call k))) (let z : i + 1 + j ≡ i + suc j = omega arith in z)

-- ---- they are legal

pub parts_legal : (batch : Batch) (h : List Spot) → ((l : ℕ) → own_spots l h ≡ all_asked l 0 (lane_of batch l))
    → ((c l call n : ℕ) → OpensOn batch c l call n → (front after : List Spot) × (h ≡ front ++ (spots c (block l call 0 n) ++ after)))
    → (c : ℕ) → Legal batch c (on c h)
parts_legal batch h lanes together c = legal batch c (on c h) (record {
  lanes = λ l. own_places-on l c h ∙ ap (on c) (lanes l);
  together = λ l call n o.
      let b = together c l call n o in (
        on c b.0,
        on c b.1,
        ap (on c) b.2 ∙ on-append c b.0 (spots c (block l call 0 n) ++ b.1)
            ∙ ap (λ m. on c b.0 ++ m) (on-append c (spots c (block l call 0 n)) b.1 ∙ ap (λ m. m ++ on c b.1) (on-spots_same c (block l call 0 n))),
      );
})

module _ (batch : Batch) (contexts : ℕ) (h : List Spot) (t : IsHistory batch contexts h) where
  legals : (c : ℕ) → Legal batch c (on c h)
  legals = parts_legal batch h t.lanes t.together

  journal_is : (c : ℕ) → marks_at (journals_of contexts h) c ≡ stamped_on c 0 h
  journal_is c = elim (cases_lt c contexts) [
    | inl low ↦ get_or-map-range_with_len (λ k. stamped_on k 0 h) 0 contexts c c [] low (omega arith)
    | inr high ↦ get_or_past (journals_of contexts h) c [] (let e : length (journals_of contexts h) ≡ contexts = length-map-range_with_len (λ k. stamped_on k 0 h) 0 contexts in omega arith)
        ∙ sym (none_in (stamped_on c 0 h) (λ m i. let f = from c 0 h m i in
        let low : c < contexts = t.within (spot c m.place) (contains_at h f.0 (spot c m.place) f.2) in absurd (omega arith)))
  ]

  by_index : (c d : ℕ) (m k : Mark) → Contains (stamped_on c 0 h) m → Contains (stamped_on d 0 h) k → m.place.lane ≡ k.place.lane → IsBefore m.place k.place → HasLowerStamp m k
  by_index c d m k a b lane before =
      let f = from c 0 h m (in_contains (stamped_on c 0 h) m a) in
      let g = from d 0 h k (in_contains (stamped_on d 0 h) k b) in
      let i : ℕ = f.0 in let j : ℕ = g.0 in let p : m.stamp ≡ 0 + i = f.1 in let q : k.stamp ≡ 0 + j = g.1 in
      elim (cases_lt m.stamp k.stamp) [
        | inl low ↦ low
        | inr high ↦ elim (cases_eq i j) [
          | inl same ↦ (let e : Some (spot c m.place) ≡ Some (spot d k.place) = sym f.2 ∙ ap (slice_get h) same ∙ g.2 in
              let s : spot c m.place ≡ spot d k.place = cc in
              absurd (not_before k.place (subst (λ x. IsBefore x k.place) (ap (λ (y : Spot). y.place) s) before)))
          | inr ne ↦ absurd (not_both m.place k.place before (history_in_order h (lane_of batch) t.lanes j i (spot d k.place) (spot c m.place) (omega arith) g.2 f.2 (sym lane)))
        ]
      ]

  consecutive : (c lane call n : ℕ) → OpensOn batch c lane call n → HaveConsecutiveStamps (stamped_on c 0 h) lane call n
  consecutive c lane call n o =
      let b = t.together c lane call n o in (
        length b.0,
        λ i low.
            let at : slice_get h (length b.0 + i) ≡ Some (spot c (place lane call (0 + i))) =
            ap (λ l. slice_get l (length b.0 + i)) b.2
            ∙ at_append b.0 (spots c (block lane call 0 n) ++ b.1) i (spot c (place lane call (0 + i))) (first_part (spots c (block lane call 0 n)) b.1 i (spot c (place lane call (0 + i))) (block_at c lane call 0 n i low)) in
            let z : 0 + i ≡ i = omega arith in
            contains_in (stamped_on c 0 h) (mark (place lane call i) (length b.0 + i))
            (subst (λ k. In (mark (place lane call i) k) (stamped_on c 0 h)) (let z : 0 + (length b.0 + i) ≡ length b.0 + i = omega arith in z)
            (has_mark c 0 h (length b.0 + i) (place lane call i) (at ∙ ap (λ k. Some (spot c (place lane call k))) z))),
      )

  marks_legal : (c : ℕ) → LegalMarks batch c (stamped_on c 0 h)
  marks_legal c = record {
    served = λ p. subst (λ ps. Contains ps p ↔ IsServed batch c p) (sym (places-stamped_on c 0 h)) ((legals c).served p);
    once = subst (AllPairs (λ (p q : Place). p ≢ q)) (sym (places-stamped_on c 0 h)) (legals c).once;
    rise = pairs_rise HasLowerStamp (stamped_on c 0 h) (stamps_rise c 0 h);
    together = consecutive c;
  }

  pub legal_history : LegalHistory batch (journals_of contexts h)
  legal_history =
      let once : IsPermutation (all_stamps (journals_of contexts h)) (range_with_len 0 (length h)) =
      subst (λ xs. IsPermutation xs (range_with_len 0 (length h))) (sym (flat_map-map (λ c. stamped_on c 0 h) (range_with_len 0 contexts))) (each_once contexts 0 h (λ s i. t.within s (contains_in h s i))) in
      let size : length h ≡ length (all_stamps (journals_of contexts h)) = sym (length-range_with_len 0 (length h)) ∙ length_permutation _ _ once in
      record {
        each = λ c. subst (LegalMarks batch c) (sym (journal_is c)) (marks_legal c);
        stamped = subst (λ n. IsPermutation (all_stamps (journals_of contexts h)) (range_with_len 0 n)) size once;
        in_order = λ c d m k a b. by_index c d m k (subst (λ ms. Contains ms m) (journal_is c) a) (subst (λ ms. Contains ms k) (journal_is d) b);
      }
