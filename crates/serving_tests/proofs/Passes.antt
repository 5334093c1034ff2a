-- Lists of passes from which one is taken.
use Rattle.std.proofs.Common.{◌≡◌, ◌+◌, ℕ, zero, suc, List, [], ◌∷◌, All, length, subst, arith, Some}
use Rattle.std.specs.Prelude.{slice_get, remove}
use Rattle.std.proofs.lemmas.List.Elements.{All-cons, All-head, All-tail}
use Rattle.turn_lock.specs.Passes.{PassView}

module _ (P : PassView → Type 0) where
  pub All-removed : (xs : List PassView) (i : ℕ) → All P xs → All P (remove xs i)
  All-removed [] zero all = all
  All-removed [] (suc i) all = all
  All-removed (x ∷ xs) zero all = All-tail P x xs all
  All-removed (x ∷ xs) (suc i) all = All-cons P x (remove xs i) (All-head P x xs all) (All-removed xs i (All-tail P x xs all))

  pub All-at : (xs : List PassView) (i : ℕ) (p : PassView) → All P xs → slice_get xs i ≡ Some p → P p
  All-at [] i p all is = absurd (cc)
  All-at (x ∷ xs) zero p all is = subst P (let e : x ≡ p = cc in e) (All-head P x xs all)
  All-at (x ∷ xs) (suc i) p all is = All-at xs i p (All-tail P x xs all) is

pub length-removed : (xs : List PassView) (i : ℕ) (p : PassView) → slice_get xs i ≡ Some p → length (remove xs i) + 1 ≡ length xs
length-removed [] i p is = absurd (cc)
length-removed (x ∷ xs) zero p is = omega arith
length-removed (x ∷ xs) (suc i) p is = let h = length-removed xs i p is in omega arith
