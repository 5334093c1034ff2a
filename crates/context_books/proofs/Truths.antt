-- Tests that pass.
use Rattle.std.proofs.Common.{◌≡◌, ℕ, ◌<◌, ◌≤◌, ◌&&◌, Bool, true, false, List, [], ◌∷◌, sym, refl, ap, ◌∙◌, arith, inl, inr}
use Rattle.std.specs.Prelude.{nat_lt, nat_le}
use Rattle.std.specs.List.{list_all}
use Rattle.std.proofs.lemmas.Bool.{cases_lt}
use Rattle.context_books.specs.Lists.{In}

pub and_left : (x y : Bool) → (x && y) ≡ true → x ≡ true
and_left true y e = refl
and_left false y e = absurd (let f : false ≡ true = e in cc)

pub and_right : (x y : Bool) → (x && y) ≡ true → y ≡ true
and_right true y e = e
and_right false y e = absurd (let f : false ≡ true = e in cc)

pub both_true : (x y : Bool) → x ≡ true → y ≡ true → (x && y) ≡ true
both_true x y a b = (λ i. a i && b i)

pub all_true : {X : Type 0} (test : X → Bool) (xs : List X) → list_all test xs ≡ true → (x : X) → In x xs → test x ≡ true
all_true test [] e x i = absurd i
all_true test (y ∷ xs) e x i = elim i [
  | inl is ↦ ap test (sym is) ∙ and_left (test y) (list_all test xs) e
  | inr later ↦ all_true test xs (and_right (test y) (list_all test xs) e) x later
]

pub true_all : {X : Type 0} (test : X → Bool) (xs : List X) → ((x : X) → In x xs → test x ≡ true) → list_all test xs ≡ true
true_all test [] f = refl
true_all test (y ∷ xs) f = both_true (test y) (list_all test xs) (f y (inl refl)) (true_all test xs (λ x i. f x (inr i)))

pub lt_true : (a b : ℕ) → nat_lt a b ≡ true → a < b
lt_true a b e = elim (cases_lt a b) [ inl low ↦ low | inr high ↦ absurd (let f : nat_lt a b ≡ false = grind arith in let g : true ≡ false = sym e ∙ f in cc) ]

pub true_lt : (a b : ℕ) → a < b → nat_lt a b ≡ true
true_lt a b low = grind arith

pub le_true : (a b : ℕ) → nat_le a b ≡ true → a ≤ b
le_true a b e = grind arith

pub true_le : (a b : ℕ) → a ≤ b → nat_le a b ≡ true
true_le a b low = grind arith
