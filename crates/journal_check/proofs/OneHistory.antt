-- The places that were put by their stamps are the one history, where there is one.
use Rattle.std.proofs.Common.{◌≡◌, ℕ, suc, ◌+◌, ◌<◌, ◌==◌, Bool, true, false, List, [], ◌∷◌, length, Some, refl, sym, ap, ◌∙◌, subst, eq-eqb, eqb-true, arith}
use Rattle.std.specs.Prelude.{slice_get}
use Rattle.call_places.specs.declared.entries.Mark.{Mark}
use Rattle.context_books.specs.Batches.{Batch, Spot}
use Rattle.context_books.specs.Legal.{is_same_place}
use Rattle.context_books.specs.Histories.{mark, all_stamps, LegalHistory, journals_of}
use Rattle.context_books.specs.Checks.{are_same, is_same_mark, is_history, is_legal_history}
use Rattle.context_books.proofs.Members.{got}
use Rattle.context_books.proofs.Truths.{and_left, and_right, both_true}
use Rattle.context_books.proofs.Places.{same, same_places}
use Rattle.context_books.proofs.Checking.{same_list, list_same}
use Rattle.context_books.proofs.CheckingHistory.{history_passes, passes_history, legal_history_iff}
use Rattle.context_books.proofs.OneHistory.{all, at_stamp, stands, journals_are, one_history, history_iff}
use Rattle.result_lines.proofs.Feeds.{same_truth}
use Rattle.journal_check.specs.Histories.{spot_of, PutsAll}

-- ---- the same marks

mark_same : (m k : Mark) → is_same_mark m k ≡ true → m ≡ k
mark_same m k e =
    let p = same_places m.place k.place (and_left (is_same_place m.place k.place) (m.stamp == k.stamp) e) in
    let s = eqb-true m.stamp k.stamp (and_right (is_same_place m.place k.place) (m.stamp == k.stamp) e) in
    (λ i. mark (p i) (s i))

same_mark : (m : Mark) → is_same_mark m m ≡ true
same_mark m = both_true (is_same_place m.place m.place) (m.stamp == m.stamp) (same m.place) (eq-eqb m.stamp m.stamp refl)

abbrev pub are_journals : List (List Mark) → List (List Mark) → Bool
are_journals js ks = are_same (are_same is_same_mark) js ks

-- ---- lists with the same elements

same_elements : {X : Type 0} (xs ys : List X) → length xs ≡ length ys → ((i : ℕ) → i < length ys → slice_get xs i ≡ slice_get ys i) → xs ≡ ys
same_elements [] [] size f = refl
same_elements [] (y ∷ ys) size f = absurd (omega arith)
same_elements (x ∷ xs) [] size f = absurd (omega arith)
same_elements {X} (x ∷ xs) (y ∷ ys) size f =
    let first : Some x ≡ Some y = f 0 (omega arith) in
    let head : x ≡ y = cc in
    let rest = same_elements xs ys (omega arith) (λ i lt. f (suc i) (omega arith)) in
    (λ i. head i ∷ rest i)

module _ (batch : Batch) (journals : List (List Mark)) (old h : List Spot) (puts : PutsAll old h 0 journals) (size : length old ≡ length (all_stamps journals)) where
  module _ (t : LegalHistory batch journals) where
    abbrev true_one : List Spot
    true_one = (all batch journals t).0

    here : (i : ℕ) → i < length true_one → slice_get h i ≡ slice_get true_one i
    here i lt =
        let x = got true_one i lt in
        let u = at_stamp batch journals t i x.0 x.1 in
        let stamp : u.0.stamp ≡ i = u.4 ∙ (let z : 0 + i ≡ i = omega arith in z) in
        let many : length true_one ≡ length old = (all batch journals t).1 ∙ sym size in
        subst (λ (k : ℕ). slice_get h k ≡ slice_get true_one k) stamp
        (puts.put true_one x.0.context u.0 many
        (λ c m i. stands batch journals t c m i ∙ ap (λ (k : ℕ). Some (spot_of k m)) (let z : c ≡ 0 + c = omega arith in z)) u.3)

    history_is : h ≡ true_one
    history_is = same_elements h true_one (puts.size ∙ size ∙ sym (all batch journals t).1) here

    journals_pass : are_journals journals (journals_of (length journals) h) ≡ true
    journals_pass =
        ap (λ (g : List Spot). are_journals journals (journals_of (length journals) g)) history_is
        ∙ ap (are_journals journals) (sym (journals_are batch journals t))
        ∙ list_same (are_same is_same_mark) (list_same is_same_mark same_mark) journals

    passes : is_history batch (length journals) h ≡ true
    passes =
        ap (is_history batch (length journals)) history_is
        ∙ history_passes batch (length journals) true_one (one_history batch journals t)

  -- journals that don't come from the places put are no legal history
  pub none_of_these : are_journals journals (journals_of (length journals) h) ≡ false → false ≡ is_legal_history batch journals
  none_of_these other = go (is_legal_history batch journals) refl
    where
      go : (b : Bool) → is_legal_history batch journals ≡ b → false ≡ b
      go false e = refl
      go true e = absurd (let passed : true ≡ false = sym (journals_pass ((legal_history_iff batch journals).0 e)) ∙ other in cc)

  -- of journals that do, the places are a history of the batch exactly where these are a legal one
  pub as_the_history : are_journals journals (journals_of (length journals) h) ≡ true → is_history batch (length journals) h ≡ is_legal_history batch journals
  as_the_history these =
      same_truth (is_history batch (length journals) h) (is_legal_history batch journals)
      (λ e. (legal_history_iff batch journals).1 ((history_iff batch journals).1 (
        h,
        passes_history batch (length journals) h e,
        same_list (are_same is_same_mark) (same_list is_same_mark mark_same) journals (journals_of (length journals) h) these,
      )))
      (λ e. passes ((legal_history_iff batch journals).0 e))
