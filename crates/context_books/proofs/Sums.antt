-- Sums over numbers, and lists counted part by part.
use Rattle.std.proofs.Common.{◌≡◌, ◌<◌, ◌≤◌, ℕ, zero, suc, ◌+◌, ◌==◌, Bool, true, false, cond, List, [], ◌∷◌, length, get_or, sym, refl, ap, ◌∙◌, subst, arith, inl, inr, eq-eqb, ne_eqb}
use Rattle.std.specs.Prelude.{filter, sum_by}
use Rattle.std.specs.List.{range_with_len}
use Rattle.std.proofs.lemmas.Bool.{cases_eq}
use Rattle.std.proofs.lemmas.List.Sums.{sum_by-cons}
use Rattle.context_books.specs.Lists.{In}

-- one of these numbers counts one more
sum_one : (f g : ℕ → ℕ) (d a n : ℕ) → ((l : ℕ) → f l ≡ cond (d == l) (suc (g l)) (g l))
    → a ≤ d → d < a + n
    → sum_by f (range_with_len a n) ≡ suc (sum_by g (range_with_len a n))
sum_one f g d a zero each low high = absurd (omega arith)
sum_one f g d a (suc n) each low high =
    let rest = range_with_len (a + 1) n in
    let fs = sum_by-cons f a rest in
    let gs = sum_by-cons g a rest in
    elim (cases_eq d a) [
      | inl same ↦
          (let first : f a ≡ suc (g a) = each a
          ∙ ap (λ b. cond b (suc (g a)) (g a)) (eq-eqb d a same) in
          let later = same_later (a + 1) n (omega arith) in
          omega (arith, fs, gs, first, later))
      | inr ne ↦
          (let first : f a ≡ g a = each a ∙ ap (λ b. cond b (suc (g a)) (g a)) (ne_eqb d a ne) in
          let later = sum_one f g d (a + 1) n each (omega arith) (omega arith) in
          omega (arith, fs, gs, first, later))
    ]
  where
    same_later : (b k : ℕ) → d < b
        → sum_by f (range_with_len b k) ≡ sum_by g (range_with_len b k)
    same_later b zero up = refl
    same_later b (suc k) up =
        let first : f b ≡ g b = each b
        ∙ ap (λ t. cond t (suc (g b)) (g b)) (ne_eqb d b (λ e. absurd (omega arith))) in
        omega (
          arith,
          sum_by-cons f b (range_with_len (b + 1) k),
          sum_by-cons g b (range_with_len (b + 1) k),
          first,
          same_later (b + 1) k (omega arith),
        )

pub sum_none : (a n : ℕ) → sum_by (λ (l : ℕ). 0) (range_with_len a n) ≡ 0
sum_none a zero = refl
sum_none a (suc n) =
    omega (arith, sum_by-cons (λ (l : ℕ). 0) a (range_with_len (a + 1) n), sum_none (a + 1) n)

-- a list has as many elements as its parts by key, where the keys are below n
pub count_parts : {X : Type 0} (key : X → ℕ) (n : ℕ) (xs : List X)
    → ((x : X) → In x xs → key x < n)
    → sum_by (λ l. length (filter (λ x. key x == l) xs)) (range_with_len 0 n) ≡ length xs
count_parts key n [] low = sum_none 0 n
count_parts {X = X} key n (x ∷ xs) low =
    let part = λ (ys : List X). λ (l : ℕ). length (filter (λ y. key y == l) ys) in
    sum_one (part (x ∷ xs)) (part xs) (key x) 0 n (λ l. one (key x == l) l) (omega arith)
    (let f : key x < n = low x (inl refl) in omega arith)
    ∙ ap suc (count_parts key n xs (λ y has. low y (inr has)))
  where
    one : (b : Bool) (l : ℕ)
        → length (cond b (x ∷ filter (λ y. key y == l) xs) (filter (λ y. key y == l) xs))
        ≡ cond b (suc (length (filter (λ y. key y == l) xs))) (length (filter (λ y. key y == l) xs))
    one true l = refl
    one false l = refl

-- a sum over the numbers of a list's elements
pub sum_numbers : {X : Type 0} (f : ℕ → ℕ) (g : X → ℕ) (d : X) (start : ℕ) (xs : List X)
    → ((i : ℕ) → i < length xs → f (start + i) ≡ g (get_or xs i d))
    → sum_by f (range_with_len start (length xs)) ≡ sum_by g xs
sum_numbers f g d start [] each = refl
sum_numbers f g d start (x ∷ xs) each =
    let first : f start ≡ g x = ap f (let e : start ≡ start + 0 = omega arith in e)
    ∙ each 0 (omega arith) in
    let rest = sum_numbers f g d (start + 1) xs
    (λ i low. ap f (let e : start + 1 + i ≡ start + suc i = omega arith in e)
    ∙ each (suc i) (omega arith)) in
    omega (
      arith,
      sum_by-cons f start (range_with_len (start + 1) (length xs)),
      sum_by-cons g x xs,
      first,
      rest,
    )

pub sum_numbers-le : {X : Type 0} (f : ℕ → ℕ) (g : X → ℕ) (d : X) (start : ℕ) (xs : List X)
    → ((i : ℕ) → i < length xs → f (start + i) ≤ g (get_or xs i d))
    → sum_by f (range_with_len start (length xs)) ≤ sum_by g xs
sum_numbers-le f g d start [] each = omega arith
sum_numbers-le f g d start (x ∷ xs) each =
    let here : start ≡ start + 0 = omega arith in
    let first : f start ≤ g x = subst (λ n. f n ≤ g x) (sym here) (each 0 (omega arith)) in
    let rest = sum_numbers-le f g d (start + 1) xs
    (λ i low. subst (λ n. f n ≤ g (get_or xs i d))
    (let e : start + suc i ≡ start + 1 + i = omega arith in e) (each (suc i) (omega arith))) in
    omega (
      arith,
      sum_by-cons f start (range_with_len (start + 1) (length xs)),
      sum_by-cons g x xs,
      first,
      rest,
    )

-- two sums over one list are one
pub sum_both : {X : Type 0} (f g : X → ℕ) (xs : List X)
    → sum_by (λ x. f x + g x) xs ≡ sum_by f xs + sum_by g xs
sum_both f g [] = refl
sum_both f g (x ∷ xs) =
    omega (
      arith,
      sum_by-cons (λ x. f x + g x) x xs,
      sum_by-cons f x xs,
      sum_by-cons g x xs,
      sum_both f g xs,
    )

-- the terms of a double sum in the other order, where each is bounded
pub sum_swapped-le : {X Y : Type 0} (f : X → Y → ℕ) (most : Y → ℕ) (xs : List X) (ys : List Y)
    → ((y : Y) → sum_by (λ x. f x y) xs ≤ most y)
    → sum_by (λ x. sum_by (f x) ys) xs ≤ sum_by most ys
sum_swapped-le {X = X} f most xs [] each = none xs
  where
    none : (zs : List X) → sum_by (λ z. sum_by (f z) []) zs ≤ 0
    none [] = omega arith
    none (z ∷ zs) = omega (arith, sum_by-cons (λ z. sum_by (f z) []) z zs, none zs)
sum_swapped-le f most xs (y ∷ ys) each =
    let split : sum_by (λ x. sum_by (f x) (y ∷ ys)) xs
    ≡ sum_by (λ x. f x y + sum_by (f x) ys) xs =
    ap (λ g. sum_by g xs) (λ i x. sum_by-cons (f x) y ys i) in
    omega (
      arith,
      split,
      sum_both (λ x. f x y) (λ x. sum_by (f x) ys) xs,
      sum_by-cons most y ys,
      each y,
      sum_swapped-le f most xs ys each,
    )
