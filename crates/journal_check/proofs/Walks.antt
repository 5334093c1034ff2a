-- Lists that are walked from their front.
use Rattle.std.proofs.Common.{◌≡◌, ℕ, ◌+◌, ◌-◌, ◌<◌, ◌≤◌, ◌&&◌, ◌||◌, not, Bool, true, false, List, [], ◌∷◌, ◌++◌, length, map, drop, get_or, refl, sym, ap, ◌∙◌, inl, inr, add-one, arith, append_assoc, length-drop}
use Rattle.std.specs.List.{list_all}
use Rattle.std.proofs.Math.Seq.{drop-cons}
use Rattle.std.proofs.lemmas.List.{drop_all}
use Rattle.std.proofs.lemmas.Bool.{cases_lt}
use Rattle.call_places.specs.declared.entries.Place.{Place}
use Rattle.call_places.specs.declared.entries.Mark.{Mark}
use Rattle.context_books.specs.Batches.{Batch, place}
use Rattle.context_books.specs.Legal.{is_same_place}
use Rattle.context_books.specs.Checks.{goes_on, is_unbroken}
use Rattle.result_lines.specs.Journals.{stamps_rise}

-- the element of this number, and those behind it
pub drop_next : {A : Type 0} (xs : List A) (i : ℕ) (d : A) → i < length xs → drop i xs ≡ get_or xs i d ∷ drop (i + 1) xs
drop_next xs i d lt = drop-cons xs i d lt ∙ ap (λ (n : ℕ). get_or xs i d ∷ drop n xs) (sym (add-one i))

-- the last element
pub drop_last : {A : Type 0} (xs : List A) (i : ℕ) (d : A) → i + 1 ≡ length xs → drop i xs ≡ get_or xs i d ∷ []
drop_last {A} xs i d is = drop_next xs i d (omega arith) ∙ ap (λ (ys : List A). get_or xs i d ∷ ys) (drop_all (i + 1) xs (omega arith))

-- two elements that follow one another
pub drop_two : {A : Type 0} (xs : List A) (i : ℕ) (d : A) → i + 1 < length xs
    → drop i xs ≡ get_or xs i d ∷ get_or xs (i + 1) d ∷ drop (i + 1 + 1) xs
drop_two {A} xs i d lt = drop_next xs i d (omega arith) ∙ ap (λ (ys : List A). get_or xs i d ∷ ys) (drop_next xs (i + 1) d lt)

-- ---- one element after another

-- what is made of the next one
pub map_next : {A B : Type 0} (f : A → B) (xs : List A) (i : ℕ) (d : A) (y : B) (made total : List B) → i < length xs → y ≡ f (get_or xs i d)
    → made ++ map f (drop i xs) ≡ total → (made ++ y ∷ []) ++ map f (drop (i + 1) xs) ≡ total
map_next {A} {B} f xs i d y made total low is so_far =
    append_assoc made (y ∷ []) (map f (drop (i + 1) xs))
    ∙ ap (λ (z : B). made ++ z ∷ map f (drop (i + 1) xs)) is
    ∙ ap (λ (ys : List A). made ++ map f ys) (sym (drop_next xs i d low))
    ∙ so_far

module _ {A : Type 0} (test : A → Bool) (xs : List A) (i : ℕ) (d : A) (total : Bool) (low : i < length xs) (so_far : list_all test (drop i xs) ≡ total) where
  next_is : (test (get_or xs i d) && list_all test (drop (i + 1) xs)) ≡ total
  next_is = ap (λ (ys : List A). list_all test ys) (sym (drop_next xs i d low)) ∙ so_far

  -- the next one passes a test
  pub all_next : test (get_or xs i d) ≡ true → list_all test (drop (i + 1) xs) ≡ total
  all_next passes = sym (ap (λ b. b && list_all test (drop (i + 1) xs)) passes) ∙ next_is

  -- or it doesn't
  pub all_fail : test (get_or xs i d) ≡ false → false ≡ total
  all_fail fails = sym (ap (λ b. b && list_all test (drop (i + 1) xs)) fails) ∙ next_is

-- ---- places that follow one another

module _ (batch : Batch) (ps : List Place) where
  -- the last place is that of the last item
  pub unbroken_ends : (i : ℕ) (d : Place) (total : Bool) → i + 1 ≡ length ps → goes_on batch (get_or ps i d) ≡ true
      → is_unbroken batch (drop i ps) ≡ total → false ≡ total
  unbroken_ends i d total last goes so_far =
      sym (ap (is_unbroken batch) (drop_last ps i d last) ∙ ap not goes) ∙ so_far

  two : (i : ℕ) (d : Place) → i + 1 < length ps → is_unbroken batch (drop i ps)
      ≡ ((not (goes_on batch (get_or ps i d)) || is_same_place (get_or ps (i + 1) d) (place (get_or ps i d).lane (get_or ps i d).call ((get_or ps i d).item + 1)))
      && is_unbroken batch (drop (i + 1) ps))
  two i d lt =
      let p = get_or ps i d in
      let q = get_or ps (i + 1) d in
      ap (is_unbroken batch) (drop_two ps i d lt)
      ∙ ap (λ (rest : List Place). (not (goes_on batch p) || is_same_place q (place p.lane p.call (p.item + 1))) && is_unbroken batch rest) (sym (drop_next ps (i + 1) d lt))

  -- another place stands where the next item has to
  pub unbroken_fails : (i : ℕ) (d : Place) (total : Bool) → i + 1 < length ps → goes_on batch (get_or ps i d) ≡ true
      → is_same_place (get_or ps (i + 1) d) (place (get_or ps i d).lane (get_or ps i d).call ((get_or ps i d).item + 1)) ≡ false
      → is_unbroken batch (drop i ps) ≡ total → false ≡ total
  unbroken_fails i d total lt goes other so_far =
      let p = get_or ps i d in
      let q = get_or ps (i + 1) d in
      let next = is_same_place q (place p.lane p.call (p.item + 1)) in
      sym (two i d lt ∙ ap (λ b. (not b || next) && is_unbroken batch (drop (i + 1) ps)) goes ∙ ap (λ b. b && is_unbroken batch (drop (i + 1) ps)) other) ∙ so_far

  -- the next item stands next
  pub unbroken_goes_on : (i : ℕ) (d : Place) (total : Bool) → i + 1 < length ps → goes_on batch (get_or ps i d) ≡ true
      → is_same_place (get_or ps (i + 1) d) (place (get_or ps i d).lane (get_or ps i d).call ((get_or ps i d).item + 1)) ≡ true
      → is_unbroken batch (drop i ps) ≡ total → is_unbroken batch (drop (i + 1) ps) ≡ total
  unbroken_goes_on i d total lt goes same so_far =
      let p = get_or ps i d in
      let q = get_or ps (i + 1) d in
      let next = is_same_place q (place p.lane p.call (p.item + 1)) in
      sym (two i d lt ∙ ap (λ b. (not b || next) && is_unbroken batch (drop (i + 1) ps)) goes ∙ ap (λ b. b && is_unbroken batch (drop (i + 1) ps)) same) ∙ so_far

  -- no item has to stand next
  pub unbroken_passes : (i : ℕ) (d : Place) (total : Bool) → i < length ps → goes_on batch (get_or ps i d) ≡ false
      → is_unbroken batch (drop i ps) ≡ total → is_unbroken batch (drop (i + 1) ps) ≡ total
  unbroken_passes i d total lt stays so_far =
      elim (cases_lt (i + 1) (length ps)) [
        | inl low ↦ (
            let p = get_or ps i d in
            let q = get_or ps (i + 1) d in
            let next = is_same_place q (place p.lane p.call (p.item + 1)) in
            sym (two i d low ∙ ap (λ b. (not b || next) && is_unbroken batch (drop (i + 1) ps)) stays) ∙ so_far)
        | inr high ↦ (
            let last : i + 1 ≡ length ps = omega arith in
            ap (is_unbroken batch) (drop_all (i + 1) ps high)
            ∙ sym (ap (is_unbroken batch) (drop_last ps i d last) ∙ ap not stays) ∙ so_far)
      ]

-- ---- stamps

one_rises : (marks : List Mark) → length marks ≤ 1 → stamps_rise marks ≡ true
one_rises [] few = refl
one_rises (m ∷ []) few = refl
one_rises (m ∷ k ∷ marks) few = absurd (omega arith)

pub stamps_end : (marks : List Mark) (i : ℕ) (total : Bool) → 1 ≤ i → length marks ≤ i → stamps_rise (drop (i - 1) marks) ≡ total → true ≡ total
stamps_end marks i total some le so_far =
    let size : length (drop (i - 1) marks) ≡ length marks - (i - 1) = length-drop (i - 1) marks in
    sym (one_rises (drop (i - 1) marks) (omega arith)) ∙ so_far
