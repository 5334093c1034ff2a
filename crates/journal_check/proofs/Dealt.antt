-- Piles, by the number of a context or of a lane, and what lies on them.
use Rattle.std.proofs.Common.{◌≡◌, ◌≢◌, ℕ, zero, suc, ◌+◌, ◌<◌, ◌≤◌, ◌==◌, ◌&&◌, ◌||◌, Bool, true, false, cond, List, [], ◌∷◌, ◌++◌, length, map, drop, get_or, refl, sym, ap, ◌∙◌, subst, inl, inr, eq-eqb, eqb-true, append_assoc, append-nil, arith}
use Rattle.std.specs.Prelude.{slice_index_or, replicate, nat_lt, not, Option, Some}
use Rattle.std.specs.List.{list_all, flat_map, range_with_len}
use Rattle.std.proofs.lemmas.List.{length-set, length-map, length-replicate, get_or-replicate, get_or-set_same, get_or-set_other, get_or_default, drop_all}
use Rattle.std.proofs.lemmas.List.Folds.{flat_map-map}
use Rattle.std.proofs.lemmas.Bool.{cases_eq}
use Rattle.call_places.specs.declared.entries.Place.{Place}
use Rattle.call_places.specs.declared.entries.Mark.{Mark}
use Rattle.context_books.specs.Batches.{Batch, Spot, spots, on, lane_of, own_places}
use Rattle.context_books.specs.Merging.{all_asked, lane_places, own_spots}
use Rattle.context_books.specs.Legal.{is_same_place}
use Rattle.context_books.specs.Histories.{mark, marks_at, places, stamped_on, journals_of}
use Rattle.context_books.specs.Checks.{are_same, has_lane, has_lanes, is_legal, is_same_spot, has_lane_spots}
use Rattle.context_books.proofs.Lists.{own_places-append, own_places-on, own_spots-all_asked, own_spots-all_asked_other, on-append, on-spots}
use Rattle.context_books.proofs.Members.{range_below}
use Rattle.context_books.specs.Lists.{In}
use Rattle.context_books.proofs.Truths.{all_true, true_all}
use Rattle.context_books.proofs.Places.{same, same_places}
use Rattle.context_books.proofs.Checking.{same_list, list_same}
use Rattle.result_lines.proofs.Feeds.{same_truth}
use Rattle.result_lines.specs.Journals.{is_journal, broken_journal, stamps_rise}
use Rattle.journal_check.specs.declared.asks.Asked.{Asked}
use Rattle.journal_check.specs.Asks.{ask_from, batch_from}
use Rattle.journal_check.specs.Histories.{spots_from}
use Rattle.journal_check.specs.Piles.{put_on, by_context, joined, spots_told, lanes_told, lanes_asked, in_lanes, asked_on}
use Rattle.journal_check.proofs.PileLists.{by_lane, by_context_stamped, lanes_from}
use Rattle.journal_check.proofs.Asking.{lane_spots_are}
use Rattle.journal_check.proofs.Walks.{drop_next}

-- ---- what lies on a pile

module _ {X : Type 0} (piles : List (List X)) (n : ℕ) (x : X) (c : ℕ) (lt : c < length piles) (rest : List X) where
  -- an item that was put, before the rest
  put_step : (b : Bool) → (n == c) ≡ b → slice_index_or (put_on piles n x) c [] ++ rest ≡ slice_index_or piles c [] ++ cond b (x ∷ rest) rest
  put_step true e =
      let one : n ≡ c = eqb-true n c e in
      let pile : List X = slice_index_or piles n [] ++ x ∷ [] in
      let low : n < length piles = omega (arith, one) in
      let here : slice_index_or (put_on piles n x) n [] ≡ slice_index_or piles n [] ++ x ∷ [] = get_or-set_same piles n pile [] low in
      ap (λ (xs : List X). xs ++ rest) (subst (λ (k : ℕ). slice_index_or (put_on piles n x) k [] ≡ slice_index_or piles k [] ++ x ∷ []) one here)
      ∙ append_assoc (slice_index_or piles c []) (x ∷ []) rest
  put_step false e =
      let pile : List X = slice_index_or piles n [] ++ x ∷ [] in
      let other : c ≢ n = (λ one. absurd (let clash : true ≡ false = sym (eq-eqb n c (sym one)) ∙ e in cc)) in
      ap (λ (xs : List X). xs ++ rest) (get_or-set_other piles n c pile [] other)

length_put : {X : Type 0} (piles : List (List X)) (n : ℕ) (x : X) → length (put_on piles n x) ≡ length piles
length_put piles n x = length-set piles n (slice_index_or piles n [] ++ x ∷ [])

still_low : {X : Type 0} (piles : List (List X)) (n : ℕ) (x : X) (c : ℕ) → c < length piles → c < length (put_on piles n x)
still_low piles n x c lt = let size = length_put piles n x in omega arith

pub length_by_context : (piles : List (List Place)) (ss : List Spot) → length (by_context piles ss) ≡ length piles
length_by_context piles [] = refl
length_by_context piles (s ∷ ss) = length_by_context (put_on piles s.context s.place) ss ∙ length_put piles s.context s.place

pub length_by_lane : (piles : List (List Spot)) (ss : List Spot) → length (by_lane piles ss) ≡ length piles
length_by_lane piles [] = refl
length_by_lane piles (s ∷ ss) = length_by_lane (put_on piles s.place.lane s) ss ∙ length_put piles s.place.lane s

length_stamped : (piles : List (List Mark)) (stamp : ℕ) (ss : List Spot) → length (by_context_stamped piles stamp ss) ≡ length piles
length_stamped piles stamp [] = refl
length_stamped piles stamp (s ∷ ss) =
    length_stamped (put_on piles s.context (mark s.place stamp)) (stamp + 1) ss ∙ length_put piles s.context (mark s.place stamp)

on_pile : (piles : List (List Place)) (ss : List Spot) (c : ℕ) → c < length piles → slice_index_or (by_context piles ss) c [] ≡ slice_index_or piles c [] ++ on c ss
on_pile piles [] c lt = sym (append-nil (slice_index_or piles c []))
on_pile piles (s ∷ ss) c lt =
    on_pile (put_on piles s.context s.place) ss c (still_low piles s.context s.place c lt)
    ∙ put_step piles s.context s.place c lt (on c ss) (s.context == c) refl

lane_pile : (piles : List (List Spot)) (ss : List Spot) (l : ℕ) → l < length piles → slice_index_or (by_lane piles ss) l [] ≡ slice_index_or piles l [] ++ own_spots l ss
lane_pile piles [] l lt = sym (append-nil (slice_index_or piles l []))
lane_pile piles (s ∷ ss) l lt =
    lane_pile (put_on piles s.place.lane s) ss l (still_low piles s.place.lane s l lt)
    ∙ put_step piles s.place.lane s l lt (own_spots l ss) (s.place.lane == l) refl

stamped_pile : (piles : List (List Mark)) (stamp : ℕ) (ss : List Spot) (c : ℕ) → c < length piles
    → slice_index_or (by_context_stamped piles stamp ss) c [] ≡ slice_index_or piles c [] ++ stamped_on c stamp ss
stamped_pile piles stamp [] c lt = sym (append-nil (slice_index_or piles c []))
stamped_pile piles stamp (s ∷ ss) c lt =
    stamped_pile (put_on piles s.context (mark s.place stamp)) (stamp + 1) ss c (still_low piles s.context (mark s.place stamp) c lt)
    ∙ put_step piles s.context (mark s.place stamp) c lt (stamped_on c (stamp + 1) ss) (s.context == c) refl

-- ---- lists that are dealt one after another

by_context_append : (piles : List (List Place)) (xs ys : List Spot) → by_context piles (xs ++ ys) ≡ by_context (by_context piles xs) ys
by_context_append piles [] ys = refl
by_context_append piles (s ∷ xs) ys = by_context_append (put_on piles s.context s.place) xs ys

-- the next list
pub dealt_next : (piles : List (List Place)) (lists : List (List Spot)) (list : List Spot) (more : List (List Spot)) (total : List (List Place)) → lists ≡ list ∷ more
    → by_context piles (joined lists) ≡ total → by_context (by_context piles list) (joined more) ≡ total
dealt_next piles lists list more total is so_far =
    sym (by_context_append piles list (joined more)) ∙ ap (λ (ls : List (List Spot)). by_context piles (joined ls)) (sym is) ∙ so_far

-- ---- lists by their indexes

listed : {X : Type 0} (g : ℕ → X) (d : X) (xs : List X) (a : ℕ) → ((i : ℕ) → i < length xs → slice_index_or xs i d ≡ g (a + i)) → xs ≡ map g (range_with_len a (length xs))
listed g d [] a f = refl
listed {X} g d (x ∷ xs) a f =
    let head : x ≡ g a = f 0 (omega arith) ∙ ap g (let z : a + 0 ≡ a = omega arith in z) in
    let tail = listed g d xs (a + 1) (λ i lt. f (suc i) (omega arith) ∙ ap g (let z : a + suc i ≡ a + 1 + i = omega arith in z)) in
    (λ i. head i ∷ tail i)

listed_to : {X : Type 0} (g : ℕ → X) (d : X) (xs : List X) (n : ℕ) → length xs ≡ n → ((i : ℕ) → i < n → slice_index_or xs i d ≡ g i) → xs ≡ map g (range_with_len 0 n)
listed_to g d xs n size f =
    listed g d xs 0 (λ i lt. f i (omega arith) ∙ ap g (let z : i ≡ 0 + i = omega arith in z)) ∙ ap (λ k. map g (range_with_len 0 k)) size

-- ---- from empty piles

abbrev no_items : {X : Type 0} → List X
no_items = []

module _ (n : ℕ) (ss : List Spot) where
  pub on_empty : (c : ℕ) → c < n → slice_index_or (by_context (replicate n []) ss) c [] ≡ on c ss
  on_empty c lt =
      let size : length (replicate n (no_items {X = Place})) ≡ n = length-replicate n [] in
      on_pile (replicate n []) ss c (omega arith) ∙ ap (λ (ps : List Place). ps ++ on c ss) (get_or-replicate n c [] [] lt)

  pub lanes_empty : by_lane (replicate n []) ss ≡ lanes_told n ss
  lanes_empty =
      let size : length (replicate n (no_items {X = Spot})) ≡ n = length-replicate n [] in
      listed_to (λ l. own_spots l ss) [] (by_lane (replicate n []) ss) n (length_by_lane (replicate n []) ss ∙ size)
      (λ l lt. lane_pile (replicate n []) ss l (omega arith) ∙ ap (λ (xs : List Spot). xs ++ own_spots l ss) (get_or-replicate n l [] [] lt))

  pub stamped_empty : by_context_stamped (replicate n []) 0 ss ≡ journals_of n ss
  stamped_empty =
      let size : length (replicate n (no_items {X = Mark})) ≡ n = length-replicate n [] in
      listed_to (λ c. stamped_on c 0 ss) [] (by_context_stamped (replicate n []) 0 ss) n (length_stamped (replicate n []) 0 ss ∙ size)
      (λ c lt. stamped_pile (replicate n []) 0 ss c (omega arith) ∙ ap (λ (ms : List Mark). ms ++ stamped_on c 0 ss) (get_or-replicate n c [] [] lt))

on_joined : (c : ℕ) (lists : List (List Spot)) → on c (joined lists) ≡ flat_map (on c) lists
on_joined c [] = refl
on_joined c (list ∷ lists) = on-append c list (joined lists) ∙ ap (λ (ps : List Place). on c list ++ ps) (on_joined c lists)

-- ---- the spots of journals

none_told : (c first : ℕ) (journals : List (List Mark)) → c < first → on c (spots_told first journals) ≡ []
none_told c first [] lt = refl
none_told c first (marks ∷ more) lt =
    on-append c (spots first (places marks)) (spots_told (first + 1) more)
    ∙ ap (λ (ps : List Place). ps ++ on c (spots_told (first + 1) more)) (on-spots c first (places marks) ∙ ap (λ b. cond b (places marks) []) (other (first == c) refl))
    ∙ none_told c (first + 1) more (omega arith)
  where
    other : (b : Bool) → (first == c) ≡ b → (first == c) ≡ false
    other false e = e
    other true e = absurd (let one : first ≡ c = eqb-true first c e in omega arith)

on_told : (c first : ℕ) (journals : List (List Mark)) → on (first + c) (spots_told first journals) ≡ places (marks_at journals c)
on_told c first [] = refl
on_told zero first (marks ∷ more) =
    let here : first ≡ first + 0 = omega arith in
    on-append (first + 0) (spots first (places marks)) (spots_told (first + 1) more)
    ∙ ap (λ (ps : List Place). ps ++ on (first + 0) (spots_told (first + 1) more)) (on-spots (first + 0) first (places marks) ∙ ap (λ b. cond b (places marks) []) (eq-eqb first (first + 0) here))
    ∙ ap (λ (ps : List Place). places marks ++ ps) (none_told (first + 0) (first + 1) more (omega arith))
    ∙ append-nil (places marks)
on_told (suc c) first (marks ∷ more) =
    let later : first + suc c ≡ first + 1 + c = omega arith in
    on-append (first + suc c) (spots first (places marks)) (spots_told (first + 1) more)
    ∙ ap (λ (ps : List Place). ps ++ on (first + suc c) (spots_told (first + 1) more)) (on-spots (first + suc c) first (places marks) ∙ ap (λ b. cond b (places marks) []) (other (first == first + suc c) refl))
    ∙ ap (λ (k : ℕ). on k (spots_told (first + 1) more)) later
    ∙ on_told c (first + 1) more
  where
    other : (b : Bool) → (first == first + suc c) ≡ b → (first == first + suc c) ≡ false
    other false e = e
    other true e = absurd (let one : first ≡ first + suc c = eqb-true first (first + suc c) e in omega arith)

-- the places of a journal lie on its pile, lane by lane
pub told_on : (n lanes : ℕ) (journals : List (List Mark)) (c : ℕ) → c < n
    → slice_index_or (by_context (replicate n []) (joined (lanes_told lanes (spots_told 0 journals)))) c [] ≡ in_lanes lanes (places (marks_at journals c))
told_on n lanes journals c lt =
    let told = spots_told 0 journals in
    on_empty n (joined (lanes_told lanes told)) c lt
    ∙ on_joined c (lanes_told lanes told)
    ∙ flat_map-map (on c) (λ l. own_spots l told) (range_with_len 0 lanes)
    ∙ each (range_with_len 0 lanes)
  where
    on_lane : (l : ℕ) → on c (own_spots l (spots_told 0 journals)) ≡ own_places l (places (marks_at journals c))
    on_lane l = sym (own_places-on l c (spots_told 0 journals)) ∙ ap (own_places l) (ap (λ (k : ℕ). on k (spots_told 0 journals)) (let z : c ≡ 0 + c = omega arith in z) ∙ on_told c 0 journals)

    each : (ls : List ℕ) → flat_map (λ l. on c (own_spots l (spots_told 0 journals))) ls ≡ flat_map (λ l. own_places l (places (marks_at journals c))) ls
    each [] = refl
    each (l ∷ ls) = (λ i. on_lane l i ++ each ls i)

-- ---- the spots that lanes ask for

length_lanes : (lane : ℕ) (sizes : List (List Asked)) → length (lanes_from lane sizes) ≡ length sizes
length_lanes lane [] = refl
length_lanes lane (own ∷ more) = ap suc (length_lanes (lane + 1) more)

lane_at : (lane : ℕ) (sizes : List (List Asked)) (i : ℕ) → i < length sizes
    → slice_index_or (lanes_from lane sizes) i [] ≡ spots_from (lane + i) 0 (get_or sizes i [])
lane_at lane [] i lt = absurd (omega arith)
lane_at lane (own ∷ more) zero lt = ap (λ (k : ℕ). spots_from k 0 own) (let z : lane ≡ lane + 0 = omega arith in z)
lane_at lane (own ∷ more) (suc i) lt =
    lane_at (lane + 1) more i (omega arith) ∙ ap (λ (k : ℕ). spots_from k 0 (get_or more i [])) (let z : lane + 1 + i ≡ lane + suc i = omega arith in z)

module _ (sizes : List (List Asked)) where
  as_many : length (batch_from sizes) ≡ length sizes
  as_many = length-map sizes (map ask_from)

  pub lanes_are : lanes_from 0 sizes ≡ lanes_asked (batch_from sizes)
  lanes_are =
      listed_to (λ l. all_asked l 0 (lane_of (batch_from sizes) l)) [] (lanes_from 0 sizes) (length (batch_from sizes)) (length_lanes 0 sizes ∙ sym as_many)
      (λ l lt. lane_at 0 sizes l (let many = as_many in omega arith)
      ∙ ap (λ (k : ℕ). spots_from k 0 (get_or sizes l [])) (let z : 0 + l ≡ l = omega arith in z)
      ∙ lane_spots_are sizes l [] (let many = as_many in omega arith))

-- the places that all lanes ask for on a context lie on its pile, lane by lane
pub asked_lie : (batch : Batch) (n c : ℕ) → c < n → slice_index_or (by_context (replicate n []) (joined (lanes_asked batch))) c [] ≡ asked_on batch c
asked_lie batch n c lt =
    on_empty n (joined (lanes_asked batch)) c lt
    ∙ on_joined c (lanes_asked batch)
    ∙ flat_map-map (on c) (λ l. all_asked l 0 (lane_of batch l)) (range_with_len 0 (length batch))

-- ---- the same lists lane by lane

none_of : {X Y : Type 0} (test : Y → Y → Bool) (f g : X → Y) (xs : List X) → are_same test (map f xs) (map g xs) ≡ list_all (λ (x : X). test (f x) (g x)) xs
none_of test f g [] = refl
none_of test f g (x ∷ xs) = ap (λ b. test (f x) (g x) && b) (none_of test f g xs)

-- the lanes of a history
pub lanes_pass : (batch : Batch) (n : ℕ) (h : List Spot) → length batch ≡ n
    → are_same (are_same is_same_spot) (lanes_told n h) (lanes_asked batch) ≡ list_all (has_lane_spots batch h) (range_with_len 0 n)
lanes_pass batch n h many =
    ap (are_same (are_same is_same_spot) (lanes_told n h)) (ap (λ (k : ℕ). map (λ l. all_asked l 0 (lane_of batch l)) (range_with_len 0 k)) many)
    ∙ none_of (are_same is_same_spot) (λ l. own_spots l h) (λ l. all_asked l 0 (lane_of batch l)) (range_with_len 0 n)

-- ---- places lane by lane, as one list

own_again : (l : ℕ) (ps : List Place) → own_places l (own_places l ps) ≡ own_places l ps
own_again l [] = refl
own_again l (p ∷ ps) = step (own_again l ps) (p.lane == l) refl
  where
    step : own_places l (own_places l ps) ≡ own_places l ps → (b : Bool) → (p.lane == l) ≡ b → own_places l (cond b (p ∷ own_places l ps) (own_places l ps)) ≡ cond b (p ∷ own_places l ps) (own_places l ps)
    step again true e = ap (λ b. cond b (p ∷ own_places l (own_places l ps)) (own_places l (own_places l ps))) e ∙ ap (λ (qs : List Place). p ∷ qs) again
    step again false e = again

own_other : (k l : ℕ) (ps : List Place) → l ≢ k → own_places k (own_places l ps) ≡ []
own_other k l [] ne = refl
own_other k l (p ∷ ps) ne = step (own_other k l ps ne) (p.lane == l) refl
  where
    not_k : (b : Bool) → (p.lane == k) ≡ b → p.lane ≡ l → (p.lane == k) ≡ false
    not_k false e own = e
    not_k true e own = absurd (ne (sym own ∙ eqb-true p.lane k e))

    step : own_places k (own_places l ps) ≡ [] → (b : Bool) → (p.lane == l) ≡ b → own_places k (cond b (p ∷ own_places l ps) (own_places l ps)) ≡ []
    step none true e =
        ap (λ b. cond b (p ∷ own_places k (own_places l ps)) (own_places k (own_places l ps))) (not_k (p.lane == k) refl (eqb-true p.lane l e)) ∙ none
    step none false e = none

-- lists of places, one for each lane
record AreOwn (f : ℕ → List Place) : Type 0 where
  own : (l : ℕ) → own_places l (f l) ≡ f l
  other : (k l : ℕ) → l ≢ k → own_places k (f l) ≡ []

module _ (f : ℕ → List Place) (t : AreOwn f) where
  own_none : (n a k : ℕ) → k < a → own_places k (flat_map f (range_with_len a n)) ≡ []
  own_none zero a k lt = refl
  own_none (suc n) a k lt =
      own_places-append k (f a) (flat_map f (range_with_len (a + 1) n))
      ∙ ap (λ (ps : List Place). ps ++ own_places k (flat_map f (range_with_len (a + 1) n))) (t.other k a (λ e. omega arith))
      ∙ own_none n (a + 1) k (omega arith)

  own_one : (n a k : ℕ) → a ≤ k → k < a + n → own_places k (flat_map f (range_with_len a n)) ≡ f k
  own_one zero a k le lt = absurd (omega arith)
  own_one (suc n) a k le lt =
      own_places-append k (f a) (flat_map f (range_with_len (a + 1) n))
      ∙ elim (cases_eq a k) [
        | inl e ↦
            ap (λ (ps : List Place). own_places k (f a) ++ ps) (own_none n (a + 1) k (omega arith))
            ∙ append-nil (own_places k (f a))
            ∙ ap (λ (j : ℕ). own_places k (f j)) e ∙ t.own k
        | inr ne ↦
            ap (λ (ps : List Place). ps ++ own_places k (flat_map f (range_with_len (a + 1) n))) (t.other k a ne)
            ∙ own_one n (a + 1) k (omega arith) (omega arith)
      ]

flat_same : (f g : ℕ → List Place) (ls : List ℕ) → ((l : ℕ) → In l ls → f l ≡ g l) → flat_map f ls ≡ flat_map g ls
flat_same f g [] same = refl
flat_same f g (l ∷ ls) same =
    let here = same l (inl refl) in
    let rest = flat_same f g ls (λ k i. same k (inr i)) in
    (λ i. here i ++ rest i)

-- lists of all lanes are the same where those of each lane are
lane_by_lane : (f g : ℕ → List Place) (n : ℕ) → AreOwn f → AreOwn g
    → are_same is_same_place (flat_map f (range_with_len 0 n)) (flat_map g (range_with_len 0 n)) ≡ list_all (λ l. are_same is_same_place (f l) (g l)) (range_with_len 0 n)
lane_by_lane f g n own_f own_g =
    same_truth (are_same is_same_place (flat_map f (range_with_len 0 n)) (flat_map g (range_with_len 0 n))) (list_all (λ l. are_same is_same_place (f l) (g l)) (range_with_len 0 n))
    (λ e. true_all (λ l. are_same is_same_place (f l) (g l)) (range_with_len 0 n) (λ l i.
    let low : l < 0 + n = range_below n 0 l i in
    let all : flat_map f (range_with_len 0 n) ≡ flat_map g (range_with_len 0 n) = same_list is_same_place same_places (flat_map f (range_with_len 0 n)) (flat_map g (range_with_len 0 n)) e in
    let one : f l ≡ g l = sym (own_one f own_f n 0 l (omega arith) low) ∙ ap (own_places l) all ∙ own_one g own_g n 0 l (omega arith) low in
    ap (λ (ps : List Place). are_same is_same_place ps (g l)) one ∙ list_same is_same_place same (g l)))
    (λ e.
    let all = flat_same f g (range_with_len 0 n) (λ l i. same_list is_same_place same_places (f l) (g l) (all_true (λ l. are_same is_same_place (f l) (g l)) (range_with_len 0 n) e l i)) in
    ap (λ (ps : List Place). are_same is_same_place ps (flat_map g (range_with_len 0 n))) all ∙ list_same is_same_place same (flat_map g (range_with_len 0 n)))

pub lanes_same : (batch : Batch) (context : ℕ) (ps : List Place)
    → are_same is_same_place (in_lanes (length batch) ps) (asked_on batch context) ≡ list_all (has_lane batch context ps) (range_with_len 0 (length batch))
lanes_same batch context ps =
    lane_by_lane (λ l. own_places l ps) (λ l. lane_places context l (lane_of batch l)) (length batch)
    (record { own = λ l. own_again l ps; other = λ k l ne. own_other k l ps ne })
    (record {
      own = λ l. own_places-on l context (all_asked l 0 (lane_of batch l)) ∙ ap (on context) (own_spots-all_asked l 0 (lane_of batch l));
      other = λ k l ne. own_places-on k context (all_asked l 0 (lane_of batch l)) ∙ ap (on context) (own_spots-all_asked_other k l 0 (lane_of batch l) ne);
    })

-- a journal's places and those that are asked for, lane by lane
pub has_lanes_by : (batch : Batch) (context lanes : ℕ) (ps told asked : List Place) → length batch ≡ lanes → told ≡ in_lanes lanes ps → asked ≡ asked_on batch context
    → list_all (λ p. nat_lt p.lane lanes) ps ≡ true → are_same is_same_place told asked ≡ has_lanes batch context ps
has_lanes_by batch context lanes ps told asked many told_is asked_is there =
    let n = length batch in
    ap (λ (qs : List Place). are_same is_same_place qs asked) (told_is ∙ ap (λ k. in_lanes k ps) (sym many))
    ∙ ap (are_same is_same_place (in_lanes n ps)) asked_is
    ∙ lanes_same batch context ps
    ∙ ap (λ b. b && list_all (has_lane batch context ps) (range_with_len 0 n)) (sym (ap (λ k. list_all (λ p. nat_lt p.lane k) ps) many ∙ there))

-- ---- journals one after another

module _ (stamps : Bool) (batch : Batch) (journals : List (List Mark)) (i : ℕ) (d marks : List Mark) (lt : i < length journals) (here : marks ≡ get_or journals i d) (total : Option ℕ)
    (so_far : broken_journal stamps batch i (drop i journals) ≡ total) (legal : Bool) (judged : legal ≡ is_journal stamps batch i marks) where
  next_journal : cond legal (broken_journal stamps batch (i + 1) (drop (i + 1) journals)) (Some i) ≡ total
  next_journal =
      ap (λ b. cond b (broken_journal stamps batch (i + 1) (drop (i + 1) journals)) (Some i)) (judged ∙ ap (is_journal stamps batch i) here)
      ∙ sym (ap (broken_journal stamps batch i) (drop_next journals i d lt)) ∙ so_far

  pub broken_here : legal ≡ false → Some i ≡ total
  broken_here not_legal = sym (ap (λ b. cond b (broken_journal stamps batch (i + 1) (drop (i + 1) journals)) (Some i)) not_legal) ∙ next_journal

  pub broken_later : legal ≡ true → broken_journal stamps batch (i + 1) (drop (i + 1) journals) ≡ total
  broken_later is_legal = sym (ap (λ b. cond b (broken_journal stamps batch (i + 1) (drop (i + 1) journals)) (Some i)) is_legal) ∙ next_journal

-- what a pile of this index holds
pub pile_is : {X : Type 0} (piles : List (List X)) (i : ℕ) (d pile all : List X) → i < length piles → pile ≡ get_or piles i d → slice_index_or piles i [] ≡ all → pile ≡ all
pile_is piles i d pile all lt here is = here ∙ get_or_default piles i d [] lt ∙ is

-- ---- what calls leave, where they succeeded

-- lists of lanes that were made one after another
pub lanes_end : (sizes : List (List Asked)) (lists : List (List Spot)) (i : ℕ) → length sizes ≤ i
    → lists ++ lanes_from i (drop i sizes) ≡ lanes_from 0 sizes → lists ≡ lanes_asked (batch_from sizes)
lanes_end sizes lists i le so_far =
    sym (append-nil lists)
    ∙ ap (λ (ls : List (List Asked)). lists ++ lanes_from i ls) (sym (drop_all i sizes le))
    ∙ so_far ∙ lanes_are sizes

-- a journal is judged by its places and its stamps
pub journal_is : (stamps : Bool) (batch : Batch) (context : ℕ) (marks : List Mark) (legal good : Bool) → legal ≡ is_legal batch context (places marks)
    → good ≡ (legal && (not stamps || stamps_rise marks)) → good ≡ is_journal stamps batch context marks
journal_is stamps batch context marks legal good legal_is is = is ∙ ap (λ b. b && (not stamps || stamps_rise marks)) legal_is
