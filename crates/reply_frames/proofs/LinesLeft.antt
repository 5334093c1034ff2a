-- The lines of a list from one of its elements on: what the next element adds, and the end.
use Rattle.std.proofs.Common.{◌≡◌, ◌<◌, ◌≤◌, ◌+◌, ℕ, suc, List, [], ◌∷◌, ◌++◌, length, map, drop, get_or, sym, ap, ◌∙◌, add-one}
use Rattle.std.proofs.Math.Seq.{drop-cons}
use Rattle.std.proofs.lemmas.List.{drop_all}
use Rattle.std.proofs.lemmas.List.Folds.{concat-append}
use Rattle.std.specs.List.{concat}
use Rattle.batch_plans.specs.ReplyText.{numbered, all_lines}

-- the element of this number, and those behind it
pub drop-next : {A : Type 0} (xs : List A) (i : ℕ) (d x : A) → i < length xs → x ≡ get_or xs i d
    → drop i xs ≡ x ∷ drop (i + 1) xs
drop-next xs i d x lt is =
    drop-cons xs i d lt ∙ ap (λ y. y ∷ drop (suc i) xs) (sym is)
    ∙ ap (λ (n : ℕ). x ∷ drop n xs) (sym (add-one i))

-- ---- one line for each element

module _ {A : Type 0} (line : A → List ℕ) (xs : List A) where
  abbrev pub each_from : ℕ → List ℕ
  each_from i = concat (map line (drop i xs))

  pub each-next : (i : ℕ) (d x : A) → i < length xs → x ≡ get_or xs i d
      → each_from i ≡ line x ++ each_from (i + 1)
  each-next i d x lt is = ap (λ ys. concat (map line ys)) (drop-next xs i d x lt is)

  pub each-end : (i : ℕ) → length xs ≤ i → each_from i ≡ []
  each-end i le = ap (λ ys. concat (map line ys)) (drop_all i xs le)

-- ---- one line for each element and its number

module _ {A : Type 0} (line : ℕ → A → List ℕ) (xs : List A) where
  abbrev pub numbered_from : ℕ → List ℕ
  numbered_from i = concat (numbered line i (drop i xs))

  pub numbered-next : (i : ℕ) (d x : A) → i < length xs → x ≡ get_or xs i d
      → numbered_from i ≡ line i x ++ numbered_from (i + 1)
  numbered-next i d x lt is = ap (λ ys. concat (numbered line i ys)) (drop-next xs i d x lt is)

  pub numbered-end : (i : ℕ) → length xs ≤ i → numbered_from i ≡ []
  numbered-end i le = ap (λ ys. concat (numbered line i ys)) (drop_all i xs le)

-- ---- some lines for each element and its number

module _ {A : Type 0} (lines : ℕ → A → List (List ℕ)) (xs : List A) where
  abbrev pub parts_from : ℕ → List ℕ
  parts_from i = concat (all_lines (numbered lines i (drop i xs)))

  pub parts-next : (i : ℕ) (d x : A) → i < length xs → x ≡ get_or xs i d
      → parts_from i ≡ concat (lines i x) ++ parts_from (i + 1)
  parts-next i d x lt is =
      ap (λ ys. concat (all_lines (numbered lines i ys))) (drop-next xs i d x lt is)
      ∙ concat-append (lines i x) (all_lines (numbered lines (i + 1) (drop (i + 1) xs)))

  pub parts-end : (i : ℕ) → length xs ≤ i → parts_from i ≡ []
  parts-end i le = ap (λ ys. concat (all_lines (numbered lines i ys))) (drop_all i xs le)
