-- The tests of journals and guesses hold exactly where the definitions do.
use Rattle.std.proofs.Common.{◌≡◌, ◌≢◌, ℕ, zero, suc, ◌+◌, ◌<◌, ◌≤◌, ◌||◌, not, Bool, true, false, List, [], ◌∷◌, ◌++◌, length, map, sym, refl, ap, ◌∙◌, subst, arith, append_assoc, Option, Some, None, inl, inr}
use Rattle.std.specs.Prelude.{slice_get, IsTrue, nat_lt, nat_le, ◌↔◌}
use Rattle.std.specs.List.{AllPairs, list_all, range_with_len}
use Rattle.std.proofs.lemmas.List.{get_or_past, length-map}
use Rattle.std.proofs.lemmas.Bool.{cases_lt}
use Rattle.call_places.specs.declared.entries.Place.{Place}
use Rattle.hpke_context.specs.Answers.{Item, Cipher}
use Rattle.call_places.specs.Messages.{SealedMessage}
use Rattle.context_books.specs.Batches.{Batch, Ask, Nothing, ToSeal, ToOpen, ToOpenAll, unseal, with_context, item_in_call, item_of, block, place, on, own_places, lane_of}
use Rattle.context_books.specs.Merging.{all_asked, lane_places}
use Rattle.context_books.specs.Legal.{OpensOn, StandTogether, Legal, is_same_place}
use Rattle.context_books.specs.Guesses.{Guessed, least_guess, greatest_guess}
use Rattle.context_books.specs.Checks.{are_same, has_lanes, goes_on, goes_on_in, is_unbroken, is_legal, is_guessed}
use Rattle.context_books.proofs.Members.{In-right, contains_in, got, split_at, none_in, in_range}
use Rattle.context_books.specs.Lists.{In}
use Rattle.context_books.proofs.Truths.{and_left, and_right, both_true, all_true, true_all, lt_true, true_lt, le_true, true_le}
use Rattle.context_books.proofs.Legals.{item_all_asked, legal, lane_is}
use Rattle.context_books.proofs.Refused.{next_stands}
use Rattle.context_books.proofs.Places.{same, same_from, same_places, own_in, own_lane}
use Rattle.context_books.proofs.Guessing.{guesses_between}

-- ---- the same lists

module _ {X : Type 0} (test : X → X → Bool) where
  pub same_list : ((x y : X) → test x y ≡ true → x ≡ y) → (xs ys : List X) → are_same test xs ys ≡ true → xs ≡ ys
  same_list f [] [] e = refl
  same_list f [] (y ∷ ys) e = absurd (let g : false ≡ true = e in cc)
  same_list f (x ∷ xs) [] e = absurd (let g : false ≡ true = e in cc)
  same_list f (x ∷ xs) (y ∷ ys) e = (λ i. f x y (and_left (test x y) (are_same test xs ys) e) i ∷ same_list f xs ys (and_right (test x y) (are_same test xs ys) e) i)

  pub list_same : ((x : X) → test x x ≡ true) → (xs : List X) → are_same test xs xs ≡ true
  list_same f [] = refl
  list_same f (x ∷ xs) = both_true (test x x) (are_same test xs xs) (f x) (list_same f xs)

pub no_item : (x : ℕ × Item) → None ≡ Some x → ⊥
no_item x e = cc

pub one_item : (x y : ℕ × Item) → Some x ≡ Some y → x.0 ≡ y.0
one_item x y e = ap (λ (r : ℕ × Item). r.0) (let f : x ≡ y = cc in f)

-- ---- a list of places in which openings of several messages stand together

module _ (batch : Batch) (journal : List Place) (once : AllPairs (λ (p q : Place). p ≢ q) journal)
    (opens : (p : Place) → In p journal → goes_on batch p ≡ true → (n : ℕ) × StandTogether journal (block p.lane p.call 0 n) × (p.item + 1 < n)) where
  -- where an opening goes on after a place, its next item stands next
  next_is : (xs rest : List Place) (p : Place) → journal ≡ xs ++ (p ∷ rest) → goes_on batch p ≡ true
      → (more : List Place) × (rest ≡ place p.lane p.call (p.item + 1) ∷ more)
  next_is xs rest p e go =
      let o = opens p (subst (In p) (sym e) (In-right p xs (p ∷ rest) (inl refl))) go in
      next_stands journal once xs rest p o.0 e o.1 o.2

  pub unbroken_from : (xs ps : List Place) → journal ≡ xs ++ ps → is_unbroken batch ps ≡ true
  unbroken_from xs [] e = refl
  unbroken_from xs (p ∷ []) e = step (goes_on batch p) refl
    where
      step : (b : Bool) → goes_on batch p ≡ b → not b ≡ true
      step false go = refl
      step true go = absurd (let n = next_is xs [] p e go in let f : [] ≡ place p.lane p.call (p.item + 1) ∷ n.0 = n.1 in cc)
  unbroken_from xs (p ∷ q ∷ ps) e =
      both_true (not (goes_on batch p) || is_same_place q (place p.lane p.call (p.item + 1))) (is_unbroken batch (q ∷ ps))
      (step (goes_on batch p) refl) (unbroken_from (xs ++ p ∷ []) (q ∷ ps) (e ∙ sym (append_assoc xs (p ∷ []) (q ∷ ps))))
    where
      step : (b : Bool) → goes_on batch p ≡ b → (not b || is_same_place q (place p.lane p.call (p.item + 1))) ≡ true
      step false go = refl
      step true go = let n = next_is xs (q ∷ ps) p e go in let f : q ∷ ps ≡ place p.lane p.call (p.item + 1) ∷ n.0 = n.1 in same_from q (place p.lane p.call (p.item + 1)) (let g : q ≡ place p.lane p.call (p.item + 1) = cc in g)

-- ---- a legal journal passes

module _ (batch : Batch) (context : ℕ) (journal : List Place) (t : Legal batch context journal) where
  lanes_pass : has_lanes batch context journal ≡ true
  lanes_pass = both_true _ _
      (true_all (λ p. nat_lt p.lane (length batch)) journal (λ p i.
      let x = (t.served p).0 (contains_in journal p i) in
      elim (cases_lt p.lane (length batch)) [
        | inl low ↦ true_lt p.lane (length batch) low
        | inr high ↦ absurd (no_item (context, x.0) (sym (ap (λ (asks : List Ask). item_in_call (slice_get asks p.call) p.item) (get_or_past batch p.lane [] high)) ∙ x.1))
      ]))
      (true_all (λ lane. are_same is_same_place (own_places lane journal) (lane_places context lane (lane_of batch lane))) (range_with_len 0 (length batch))
      (λ lane i. ap (λ ps. are_same is_same_place ps (lane_places context lane (lane_of batch lane))) (lane_is batch context journal t lane) ∙ list_same is_same_place same (lane_places context lane (lane_of batch lane))))

  -- a place whose opening goes on is that of an opening of several messages on the context
  opens_here : (p : Place) → In p journal → (o : Option Ask) → slice_get (lane_of batch p.lane) p.call ≡ o → goes_on_in o p.item ≡ true
      → (n : ℕ) × OpensOn batch context p.lane p.call n × (p.item + 1 < n)
  opens_here p i None e go = absurd (let f : false ≡ true = go in cc)
  opens_here p i (Some Nothing) e go = absurd (let f : false ≡ true = go in cc)
  opens_here p i (Some (ToSeal c aad text)) e go = absurd (let f : false ≡ true = go in cc)
  opens_here p i (Some (ToOpen c aad ct)) e go = absurd (let f : false ≡ true = go in cc)
  opens_here p i (Some (ToOpenAll c ms)) e go =
      let few : p.item + 1 < length ms = lt_true (p.item + 1) (length ms) go in
      let x = (t.served p).0 (contains_in journal p i) in
      let m = got (map unseal ms) p.item (let size = length-map ms unseal in omega arith) in
      let y : item_of batch p ≡ Some (c, m.0) = ap (λ (a : Option Ask). item_in_call a p.item) e ∙ ap (with_context c) m.1 in
      let same : c ≡ context = one_item (c, m.0) (context, x.0) (sym y ∙ x.1) in
      (length ms, (ms, e ∙ ap (λ k. Some (ToOpenAll k ms)) same, refl), few)

  pub legal_passes : is_legal batch context journal ≡ true
  legal_passes = both_true (has_lanes batch context journal) (is_unbroken batch journal) lanes_pass
      (unbroken_from batch journal t.once (λ p i go. let o = opens_here p i (slice_get (lane_of batch p.lane) p.call) refl go in (o.0, t.together p.lane p.call o.0 o.1, o.2)) [] journal refl)

-- ---- a journal that passes is legal

unbroken_tail : (batch : Batch) (p : Place) (ps : List Place) → is_unbroken batch (p ∷ ps) ≡ true → is_unbroken batch ps ≡ true
unbroken_tail batch p [] e = refl
unbroken_tail batch p (q ∷ ps) e = and_right (not (goes_on batch p) || is_same_place q (place p.lane p.call (p.item + 1))) (is_unbroken batch (q ∷ ps)) e

unbroken_back : (batch : Batch) (xs ps : List Place) → is_unbroken batch (xs ++ ps) ≡ true → is_unbroken batch ps ≡ true
unbroken_back batch [] ps e = e
unbroken_back batch (x ∷ xs) ps e = unbroken_back batch xs ps (unbroken_tail batch x (xs ++ ps) e)

module _ (batch : Batch) (l call : ℕ) where
  run_on : (i k : ℕ) (ps : List Place) → ((j : ℕ) → i ≤ j → j < i + k → goes_on batch (place l call j) ≡ true) → is_unbroken batch (place l call i ∷ ps) ≡ true
      → (after : List Place) × (ps ≡ block l call (i + 1) k ++ after)
  run_on i zero ps f e = (ps, refl)
  run_on i (suc k) [] f e = absurd (let a : not (goes_on batch (place l call i)) ≡ false = ap not (f i (omega arith) (omega arith)) in let b : true ≡ false = sym e ∙ a in cc)
  run_on i (suc k) (q ∷ ps) f e =
      let a = and_left (not (goes_on batch (place l call i)) || is_same_place q (place l call (i + 1))) (is_unbroken batch (q ∷ ps)) e in
      let is : q ≡ place l call (i + 1) = same_places q (place l call (i + 1)) (sym (ap (λ b. not b || is_same_place q (place l call (i + 1))) (f i (omega arith) (omega arith))) ∙ a) in
      let b = and_right (not (goes_on batch (place l call i)) || is_same_place q (place l call (i + 1))) (is_unbroken batch (q ∷ ps)) e in
      let t = run_on (i + 1) k ps (λ j low high. f j (omega arith) (omega arith)) (subst (λ r. is_unbroken batch (r ∷ ps) ≡ true) is b) in
      (t.0, (λ j. is j ∷ t.1 j))

-- an opening whose first place stands in an unbroken list stands together
pub stands_unbroken : (batch : Batch) (l call context m : ℕ) (ms : List SealedMessage) → slice_get (lane_of batch l) call ≡ Some (ToOpenAll context ms) → length ms ≡ suc m
    → (journal : List Place) → In (place l call 0) journal → is_unbroken batch journal ≡ true → StandTogether journal (block l call 0 (suc m))
stands_unbroken batch l call context m ms is size journal here unbroken =
    let s = split_at (place l call 0) journal here in
    let rest : is_unbroken batch (place l call 0 ∷ s.1) ≡ true = unbroken_back batch s.0 (place l call 0 ∷ s.1) (ap (is_unbroken batch) (sym s.2) ∙ unbroken) in
    let goes = λ (j : ℕ) (low : 0 ≤ j) (high : j < 0 + m). ap (λ a. goes_on_in a j) is ∙ true_lt (j + 1) (length ms) (omega arith) in
    let t = run_on batch l call 0 m s.1 goes rest in
    (s.0, t.0, s.2 ∙ ap (λ ps. s.0 ++ (place l call 0 ∷ ps)) t.1)

module _ (batch : Batch) (context : ℕ) (journal : List Place) (passes : is_legal batch context journal ≡ true) where
  lanes_part : has_lanes batch context journal ≡ true
  lanes_part = and_left (has_lanes batch context journal) (is_unbroken batch journal) passes

  lane_from : (l : ℕ) → own_places l journal ≡ lane_places context l (lane_of batch l)
  lane_from l = elim (cases_lt l (length batch)) [
    | inl low ↦ same_list is_same_place same_places (own_places l journal) (lane_places context l (lane_of batch l))
        (all_true (λ lane. are_same is_same_place (own_places lane journal) (lane_places context lane (lane_of batch lane))) (range_with_len 0 (length batch))
        (and_right (list_all (λ (p : Place). nat_lt p.lane (length batch)) journal) _ lanes_part) l (in_range (length batch) 0 l (omega arith) (omega arith)))
    | inr high ↦ none_in (own_places l journal) (λ p i.
        let low = lt_true p.lane (length batch) (all_true (λ (q : Place). nat_lt q.lane (length batch)) journal (and_left (list_all (λ (q : Place). nat_lt q.lane (length batch)) journal) _ lanes_part) p (own_in l p journal i)) in
        let same = own_lane l p journal i in omega arith) ∙ sym (ap (λ asks. on context (all_asked l 0 asks)) (get_or_past batch l [] high))
  ]

  together_from : (l call n : ℕ) → OpensOn batch context l call n → StandTogether journal (block l call 0 n)
  together_from l call zero o = ([], journal, refl)
  together_from l call (suc m) o =
      let size : length (map unseal o.0) ≡ suc m = length-map o.0 unseal ∙ o.2 in
      let x = got (map unseal o.0) 0 (omega arith) in
      let item : item_in_call (slice_get (lane_of batch l) call) 0 ≡ Some (context, x.0) = ap (λ (a : Option Ask). item_in_call a 0) o.1 ∙ ap (with_context context) x.1 in
      let here : In (place l call 0) journal =
      own_in l (place l call 0) journal (subst (In (place l call 0)) (sym (lane_from l))
      (subst (λ k. In (place l k 0) (lane_places context l (lane_of batch l))) (let z : 0 + call ≡ call = omega arith in z) (item_all_asked context l 0 (lane_of batch l) call 0 x.0 item))) in
      stands_unbroken batch l call context m o.0 o.1 o.2 journal here (and_right (has_lanes batch context journal) (is_unbroken batch journal) passes)

  pub passes_legal : Legal batch context journal
  passes_legal = legal batch context journal (record { lanes = lane_from; together = together_from })

pub legal_iff : (batch : Batch) (context : ℕ) (journal : List Place) → IsTrue (is_legal batch context journal) ↔ Legal batch context journal
legal_iff batch context journal = (passes_legal batch context journal, legal_passes batch context journal)

-- ---- a guess

pub guessed_iff : (batch : Batch) (context : ℕ) (c : Cipher) (journal : List Place) (l call n guess : ℕ) → Legal batch context journal → OpensOn batch context l call n → 0 < n
    → IsTrue (is_guessed batch c journal l call guess) ↔ Guessed batch c journal l call n guess
guessed_iff batch context c journal l call n guess legal opens some =
    let least = least_guess batch c journal l call in
    let greatest = greatest_guess batch c journal l call in
    let both = guesses_between batch context c journal l call n guess legal opens some in (
      λ e. both.1 (le_true least guess (and_left (nat_le least guess) (nat_le guess greatest) e), le_true guess greatest (and_right (nat_le least guess) (nat_le guess greatest) e)),
      λ g. let b = both.0 g in both_true (nat_le least guess) (nat_le guess greatest) (true_le least guess b.0) (true_le guess greatest b.1),
    )
