-- Steps that take the lines of a list's elements one after another.
use Rattle.std.proofs.Common.{◌≡◌, ℕ, ◌+◌, ◌-◌, ◌<◌, suc, List, [], ◌∷◌, ◌++◌, length, drop, get_or, Result, Ok, sym, ap, ◌∙◌, add-one, append-nil, append_assoc, arith}
use Rattle.std.proofs.Math.Seq.{drop-cons}
use Rattle.batch_plans.specs.ReplyText.{numbered}
use Rattle.result_lines.specs.declared.stop.Stop.{Stop}
use Rattle.result_lines.specs.declared.stop.Stop.TheVariants as stops
use Rattle.result_lines.specs.Places.{◌>>=◌}
use Rattle.result_lines.specs.Readings.{Stops}

-- the element of this number, and those behind it
pub drop-next : {A : Type 0} (xs : List A) (i : ℕ) (d x : A) → i < length xs → x ≡ get_or xs i d
    → drop i xs ≡ x ∷ drop (i + 1) xs
drop-next xs i d x lt is =
    drop-cons xs i d lt ∙ ap (λ y. y ∷ drop (suc i) xs) (sym is)
    ∙ ap (λ (n : ℕ). x ∷ drop n xs) (sym (add-one i))

-- a step that found a wrong line
pub step_stops : {A B : Type 0} (stop : Stop) (step : Result A ℕ) (next : A → Result B ℕ) (total : Result B ℕ)
    → Stops stop step → (step >>= next) ≡ total → Stops stop total
step_stops stops.OutOfMemory step next total is all = tt
step_stops {A} {B} (stops.Wrong line) step next total is all =
    sym all ∙ ap (λ (s : Result A ℕ). s >>= next) is

module _ {S A : Type 0} (all : ℕ → List A → S → Result S ℕ) (step : ℕ → A → S → Result S ℕ)
    (is_cons : (n : ℕ) (x : A) (xs : List A) (s : S) → all n (x ∷ xs) s ≡ (step n x s >>= all (n + 1) xs)) where
  first : (xs : List A) (i : ℕ) (d x : A) (s : S) → i < length xs → x ≡ get_or xs i d
      → all i (drop i xs) s ≡ (step i x s >>= all (i + 1) (drop (i + 1) xs))
  first xs i d x s lt is = ap (λ (ys : List A). all i ys s) (drop-next xs i d x lt is) ∙ is_cons i x (drop (i + 1) xs) s

  -- the lines of the next element were taken
  pub goes_on : (xs : List A) (i : ℕ) (d x : A) (s new : S) (total : Result S ℕ) → i < length xs → x ≡ get_or xs i d
      → step i x s ≡ Ok new → all i (drop i xs) s ≡ total → all (i + 1) (drop (i + 1) xs) new ≡ total
  goes_on xs i d x s new total lt is taken so_far =
      sym (ap (λ (r : Result S ℕ). r >>= all (i + 1) (drop (i + 1) xs)) taken) ∙ sym (first xs i d x s lt is) ∙ so_far

  -- one of its lines is wrong
  pub stops_at : (stop : Stop) (xs : List A) (i : ℕ) (d x : A) (s : S) (total : Result S ℕ) → i < length xs → x ≡ get_or xs i d
      → Stops stop (step i x s) → all i (drop i xs) s ≡ total → Stops stop total
  stops_at stop xs i d x s total lt is wrong so_far =
      step_stops stop (step i x s) (all (i + 1) (drop (i + 1) xs)) total wrong (sym (first xs i d x s lt is) ∙ so_far)

-- ---- so many steps

module _ {S : Type 0} (all : ℕ → S → Result S ℕ) (step : S → Result S ℕ)
    (is_suc : (n : ℕ) (s : S) → all (suc n) s ≡ (step s >>= all n)) where
  one_of : (n i : ℕ) (s : S) → i < n → all (n - i) s ≡ (step s >>= all (n - (i + 1)))
  one_of n i s lt =
      let less : n - i ≡ suc (n - (i + 1)) = omega arith in
      ap (λ (k : ℕ). all k s) less ∙ is_suc (n - (i + 1)) s

  pub count_goes_on : (n i : ℕ) (s new : S) (total : Result S ℕ) → i < n
      → step s ≡ Ok new → all (n - i) s ≡ total → all (n - (i + 1)) new ≡ total
  count_goes_on n i s new total lt taken so_far =
      sym (ap (λ (r : Result S ℕ). r >>= all (n - (i + 1))) taken) ∙ sym (one_of n i s lt) ∙ so_far

  pub count_stops_at : (stop : Stop) (n i : ℕ) (s : S) (total : Result S ℕ) → i < n
      → Stops stop (step s) → all (n - i) s ≡ total → Stops stop total
  count_stops_at stop n i s total lt wrong so_far =
      step_stops stop (step s) (all (n - (i + 1))) total wrong (sym (one_of n i s lt) ∙ so_far)

-- ---- lists that are made of one element after another

-- what is made of the next one and its number
pub numbered_goes_on : {A B : Type 0} (f : ℕ → A → B) (xs : List A) (i : ℕ) (d x : A) (y : B) (made total : List B) → i < length xs → x ≡ get_or xs i d
    → y ≡ f i x → made ++ numbered f i (drop i xs) ≡ total → (made ++ y ∷ []) ++ numbered f (i + 1) (drop (i + 1) xs) ≡ total
numbered_goes_on {A} {B} f xs i d x y made total lt is made_of so_far =
    let later = numbered f (i + 1) (drop (i + 1) xs) in
    append_assoc made (y ∷ []) later
    ∙ ap (λ (z : B). made ++ z ∷ later) made_of
    ∙ ap (λ (ys : List A). made ++ numbered f i ys) (sym (drop-next xs i d x lt is))
    ∙ so_far

-- nothing more is made
pub nothing_more : {B : Type 0} (made rest total : List B) → rest ≡ [] → made ++ rest ≡ total → made ≡ total
nothing_more {B} made rest total none is = sym (append-nil made) ∙ ap (λ (ys : List B). made ++ ys) (sym none) ∙ is
