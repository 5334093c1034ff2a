-- Lists that grow at their ends, and what holds of the numbers below one.
use Rattle.std.proofs.Common.{◌≡◌, ◌≢◌, ◌==◌, true, false, ℕ, zero, suc, ◌+◌, ◌<◌, List, [], ◌∷◌, ◌++◌, length, map, get_or, Some, inl, inr, sym, refl, ap, ◌∙◌, subst, arith, length-append}
use Rattle.std.specs.Prelude.{◌⊎◌, slice_get}
use Rattle.std.proofs.lemmas.Bool.Decides.{nat_tests}
use Rattle.std.proofs.lemmas.List.{length-map, get_or-map, nil_from_length}
use Rattle.context_books.proofs.Lists.{is_cases}
use Rattle.shared_runs.specs.Serving.{InOrder}
use Rattle.lane_workers.proofs.Found.{none_some}

pub at_front : {X : Type 0} (xs ys : List X) (d : X) (k : ℕ) → k < length xs
    → get_or (xs ++ ys) k d ≡ get_or xs k d
at_front [] ys d k low = absurd (omega arith)
at_front (x ∷ xs) ys d zero low = refl
at_front (x ∷ xs) ys d (suc k) low = at_front xs ys d k (omega arith)

pub at_end : {X : Type 0} (xs ys : List X) (y d : X)
    → get_or (xs ++ y ∷ ys) (length xs) d ≡ y
at_end [] ys y d = refl
at_end (x ∷ xs) ys y d = at_end xs ys y d

pub one_more : (P : ℕ → Type 0) (n : ℕ) → ((k : ℕ) → k < n → P k) → P n
    → (k : ℕ) → k < n + 1 → P k
one_more P n below here k low = elim (is_cases k n) [
  | inl same ↦ subst P (sym same) here
  | inr apart ↦ below k (less k n low apart)
]
  where
    less : (k n : ℕ) → k < n + 1 → k ≢ n → k < n
    less k n low apart = omega arith

-- what stands in a list with one element more stood there before, or is that element
pub pushed_at : {X : Type 0} (xs : List X) (y w : X) (k : ℕ) → slice_get (xs ++ y ∷ []) k ≡ Some w
    → (slice_get xs k ≡ Some w) ⊎ ((k ≡ length xs) × (y ≡ w))
pushed_at [] y w zero e = inr (refl, cc)
pushed_at [] y w (suc k) e = absurd (none_some w e)
pushed_at (x ∷ xs) y w zero e = inl e
pushed_at (x ∷ xs) y w (suc k) e = elim (pushed_at xs y w k e) [
  | inl before ↦ inl before
  | inr here ↦ inr (ap suc here.0, here.1)
]

-- what stands behind so many others
pub got_here : {X : Type 0} (front rest : List X) (x : X)
    → slice_get (front ++ x ∷ rest) (length front) ≡ Some x
got_here [] rest x = refl
got_here (y ∷ front) rest x = got_here front rest x

-- an element of a list that is made of another, behind so many others
module _ {X Y : Type 0} (f : Y → X) (ys : List Y) (all front rest : List X) (x : X)
    (is : all ≡ front ++ x ∷ rest) (of : all ≡ map f ys) where
  pub below_count : length front < length ys
  below_count =
      let a = ap length is in
      let b = ap length of in
      let c = length-map ys f in
      let d = length-append front (x ∷ rest) in
      omega arith

  pub made_of : (d : Y) → x ≡ f (get_or ys (length front) d)
  made_of d =
      sym (at_end front rest x x)
      ∙ ap (λ l. get_or l (length front) x) (sym is ∙ of)
      ∙ get_or-map f ys (length front) d x below_count

-- a list that is made of another, all of which was taken
pub all_made : {X Y : Type 0} (f : Y → X) (ys : List Y) (all front rest : List X)
    → all ≡ front ++ rest → all ≡ map f ys → length rest ≡ 0 → length front ≡ length ys
all_made f ys all front rest is of none =
    let a = ap length is in
    let b = ap length of in
    let c = length-map ys f in
    let d = length-append front rest in
    omega arith

-- what `is_empty` tells of a list
pub no_elements : {X : Type 0} (xs : List X) → true ≡ (length xs == 0) → xs ≡ []
no_elements xs e =
    let none : length xs ≡ 0 = grind (arith, nat_tests) in
    nil_from_length xs none

pub some_elements : {X : Type 0} (xs : List X) → false ≡ (length xs == 0) → 0 < length xs
some_elements xs e = grind (arith, nat_tests)

-- ---- lanes in their order

module _ {L : Type 0} (P : ℕ → L → Type 0) where
  pub none_in_order : InOrder P 0 []
  none_in_order = record { count_is = refl; each = λ lane l at. absurd (none_some l at) }

  pub one_in_order : (n : ℕ) (lanes : List L) (l : L) → InOrder P n lanes → P n l
      → InOrder P (n + 1) (lanes ++ l ∷ [])
  one_in_order n lanes l before here = record {
    count_is = length-append lanes (l ∷ []) ∙ ap (λ k. k + 1) before.count_is;
    each = λ lane x at. elim (pushed_at lanes l x lane at) [
      | inl there ↦ before.each lane x there
      | inr last ↦ subst (P lane) last.1
          (subst (λ k. P k l) (sym (last.0 ∙ before.count_is)) here)
    ];
  }

  -- the next one, behind so many others
  module _ (n : ℕ) (lanes front rest : List L) (l : L) (all : InOrder P n lanes)
      (is : lanes ≡ front ++ l ∷ rest) where
    pub in_order_here : P (length front) l
    in_order_here =
        all.each (length front) l (ap (λ ls. slice_get ls (length front)) is ∙ got_here front rest l)

    pub in_order_below : length front < n
    in_order_below = omega (arith, ap length is, length-append front (l ∷ rest), all.count_is)
