-- The marks give the coefficients of a short polynomial: they are small, and w of them aren't 0.
use Rattle.std.proofs.Common.{◌≡◌, ◌≢◌, ℕ, zero, suc, ◌+◌, ◌*◌, ◌/◌, ◌%◌, ◌≤◌, Bool, true, false, cond, pos, List, [], ◌∷◌, length, map, take, drop, arith, ap, ◌∙◌, refl, inl, inr}
use Rattle.std.specs.Prelude.{◌-ℤ◌}
use Rattle.std.specs.List.{All, count_by}
use Rattle.std.proofs.lemmas.Bool.{le-leb, lt-leb, cases_lt}
use Rattle.std.proofs.lemmas.List.{length-take}
use Rattle.std.proofs.lemmas.List.Elements.{All-append, All-map, All-cons, All-head, All-tail}
use Rattle.std.proofs.lemmas.List.Sums.{sum_by-cons, sum_by-append}
use Rattle.std.proofs.lemmas.Int.{ints}
use Rattle.ring_core.specs.Product.{is_nonzero, weight}
use Rattle.ring_core.specs.Sets.{Set}
use Rattle.rand_words.specs.Samples.{marked_nonzero, marked_zero, marked, short_coefficient, short, IsMarked}
use Rattle.rand_words.specs.Sorted.{sorted, insert_sorted}
use Rattle.rand_words.proofs.SortedOnce.{count_by-sorted}

AreMarked-marked : (w : ℕ) (words : List ℕ) → All IsMarked (marked w words)
AreMarked-marked w words =
    All-append IsMarked (map marked_nonzero (take w words)) (map marked_zero (drop w words))
    (All-map IsMarked marked_nonzero (take w words) (λ k d l. omega arith))
    (All-map IsMarked marked_zero (drop w words) (λ k d l. omega arith))

All-insert : (P : ℕ → Type 0) (x : ℕ) (xs : List ℕ) → P x → All P xs → All P (insert_sorted x xs)
All-insert P x [] h a = All-cons P x [] h a
All-insert P x (y ∷ ys) h a =
    elim (cases_lt y x) [
      | inl less ↦ rw (lt-leb x y less) (All-cons P y (insert_sorted x ys) (All-head P y ys a) (All-insert P x ys h (All-tail P y ys a)))
      | inr from ↦ rw (le-leb x y from) (All-cons P x (y ∷ ys) h a)
    ]

pub All-sorted : (P : ℕ → Type 0) (xs : List ℕ) → All P xs → All P (sorted xs)
All-sorted P [] a = a
All-sorted P (x ∷ xs) a =
    All-insert P x (sorted xs) (All-head P x xs a) (All-sorted P xs (All-tail P x xs a))

pub AreMarked-sorted : (w : ℕ) (words : List ℕ) → All IsMarked (sorted (marked w words))
AreMarked-sorted w words = All-sorted IsMarked (marked w words) (AreMarked-marked w words)

nonzero_at : (r : ℕ) → r ≢ 1 → is_nonzero (pos r -ℤ pos 1) ≡ true
nonzero_at zero h = refl
nonzero_at (suc zero) h = absurd (h refl)
nonzero_at (suc (suc n)) h =
    let e : pos (suc (suc n)) -ℤ pos 1 ≡ pos (suc n) = omega (arith, ints) in ap is_nonzero e

gives_nonzero : (u : ℕ) → is_nonzero (short_coefficient (marked_nonzero u)) ≡ true
gives_nonzero u = nonzero_at (2 * (u / 2) % 4) (λ e. absurd (omega arith))

gives_zero : (u : ℕ) → is_nonzero (short_coefficient (marked_zero u)) ≡ false
gives_zero u =
    let e : (4 * (u / 4) + 1) % 4 ≡ 1 = omega arith in
    ap (λ r. is_nonzero (pos r -ℤ pos 1)) e

-- a test that all pass, or none
all_pass : {X Y : Type 0} (p : Y → Bool) (f : X → Y) (b : Bool) → ((x : X) → p (f x) ≡ b) → (xs : List X) → count_by p (map f xs) ≡ length xs * cond b 1 0
all_pass p f b h [] = omega arith
all_pass p f b h (x ∷ xs) =
    sum_by-cons (λ y. cond (p y) 1 0) (f x) (map f xs)
    ∙ omega (arith, ap {B = ℕ} (λ t. cond t 1 0) (h x), all_pass p f b h xs)

count_by-map : {X Y : Type 0} (p : Y → Bool) (f : X → Y) (xs : List X) → count_by p (map f xs) ≡ count_by (λ x. p (f x)) xs
count_by-map p f [] = refl
count_by-map p f (x ∷ xs) = omega (
  arith,
  sum_by-cons (λ y. cond (p y) 1 0) (f x) (map f xs),
  sum_by-cons (λ y. cond (p (f y)) 1 0) x xs,
  count_by-map p f xs,
)

pub weight-marked : (w : ℕ) (words : List ℕ) → w ≤ length words → weight (map short_coefficient (sorted (marked w words))) ≡ w
weight-marked w words h =
    let p : ℕ → Bool = λ u. is_nonzero (short_coefficient u) in
    let ones : List ℕ = map marked_nonzero (take w words) in
    let zeros : List ℕ = map marked_zero (drop w words) in
    count_by-map is_nonzero short_coefficient (sorted (marked w words))
    ∙ count_by-sorted p (marked w words)
    ∙ sum_by-append (λ u. cond (p u) 1 0) ones zeros
    ∙ omega (
      arith,
      all_pass p marked_nonzero true gives_nonzero (take w words),
      all_pass p marked_zero false gives_zero (drop w words),
      length-take w words,
    )

pub weight-short : (set : Set) (words : List ℕ) → set.w ≤ length words → weight (short set words) ≡ set.w
weight-short set words h = weight-marked set.w words h
