-- Membership in a list, by recursion, and lists that rise.
use Rattle.std.proofs.Common.{◌≡◌, ℕ, zero, suc, ◌+◌, ◌<◌, ◌≤◌, Bool, true, false, cond, List, [], ◌∷◌, ◌++◌, length, map, sym, refl, ap, ◌∙◌, subst, arith, Some, None, ◌⊎◌, inl, inr}
use Rattle.std.specs.Prelude.{slice_get, slice_index_or, filter, Contains}
use Rattle.std.specs.List.{AllPairs, AllByRecursion, range_with_len}
use Rattle.std.proofs.lemmas.Bool.{cases_eq}
use Rattle.std.proofs.lemmas.List.Elements.{All-from_recursion}
use Rattle.std.proofs.lemmas.List.Kept.{AllPairs-cons}
use Rattle.std.proofs.lemmas.Option.{slice_get_within}
use Rattle.context_books.specs.Lists.{In}

-- ---- membership

pub In-left : {X : Type 0} (p : X) (xs ys : List X) → In p xs → In p (xs ++ ys)
In-left p [] ys h = absurd h
In-left p (x ∷ xs) ys h = elim h [ inl e ↦ inl e | inr r ↦ inr (In-left p xs ys r) ]

pub In-right : {X : Type 0} (p : X) (xs ys : List X) → In p ys → In p (xs ++ ys)
In-right p [] ys h = h
In-right p (x ∷ xs) ys h = inr (In-right p xs ys h)

pub In-append : {X : Type 0} (p : X) (xs ys : List X) → In p (xs ++ ys) → In p xs ⊎ In p ys
In-append p [] ys h = inr h
In-append p (x ∷ xs) ys h = elim h [ inl e ↦ inl (inl e) | inr r ↦ elim (In-append p xs ys r) [ inl a ↦ inl (inr a) | inr b ↦ inr b ] ]

pub contains_in : {X : Type 0} (xs : List X) (p : X) → In p xs → Contains xs p
contains_in [] p h = absurd h
contains_in (x ∷ xs) p h = elim h [ inl e ↦ (0, omega arith, e) | inr r ↦ (let c = contains_in xs p r in (suc c.0, (let n : ℕ = c.0 in let l : n < length xs = c.1 in omega arith), c.2)) ]

in_at : {X : Type 0} (xs : List X) (p : X) (k : ℕ) → k < length xs → slice_index_or xs k p ≡ p → In p xs
in_at [] p k h e = absurd (omega arith)
in_at (x ∷ xs) p zero h e = inl e
in_at (x ∷ xs) p (suc k) h e = inr (in_at xs p k (omega arith) e)

pub in_contains : {X : Type 0} (xs : List X) (p : X) → Contains xs p → In p xs
in_contains xs p c = in_at xs p c.0 c.1 c.2

-- a list is parted by its element
pub split_at : {X : Type 0} (p : X) (ps : List X) → In p ps → (xs rest : List X) × (ps ≡ xs ++ (p ∷ rest))
split_at p [] i = absurd i
split_at p (q ∷ ps) i = elim i [
  | inl e ↦ ([], ps, ap (λ r. r ∷ ps) e)
  | inr later ↦ (let t = split_at p ps later in (q ∷ t.0, t.1, ap (λ m. q ∷ m) t.2))
]

-- ---- elements by their index

pub got : {X : Type 0} (xs : List X) (i : ℕ) → i < length xs → (x : X) × (slice_get xs i ≡ Some x)
got [] i h = absurd (omega arith)
got (x ∷ xs) zero h = (x, refl)
got (x ∷ xs) (suc i) h = got xs i (omega arith)

pub value_at : {X : Type 0} (xs : List X) (i : ℕ) (x d : X) → slice_get xs i ≡ Some x → slice_index_or xs i d ≡ x
value_at [] i x d e = absurd (let f : None ≡ Some x = e in cc)
value_at (y ∷ xs) zero x d e = let f : Some y ≡ Some x = e in cc
value_at (y ∷ xs) (suc i) x d e = value_at xs i x d e

pub contains_at : {X : Type 0} (xs : List X) (i : ℕ) (x : X) → slice_get xs i ≡ Some x → Contains xs x
contains_at xs i x e = (i, slice_get_within xs i x e, value_at xs i x x e)

pub at_contained : {X : Type 0} (xs : List X) (x : X) → Contains xs x → (i : ℕ) × (slice_get xs i ≡ Some x)
at_contained xs x t =
    let g = got xs t.0 t.1 in
    (t.0, g.1 ∙ ap Some (sym (value_at xs t.0 g.0 x g.1) ∙ t.2))

pub at_in : {X : Type 0} (xs : List X) (x : X) → In x xs → (i : ℕ) × (slice_get xs i ≡ Some x)
at_in xs x i = at_contained xs x (contains_in xs x i)

-- ---- elements that are kept, and their values

pub in_filter : {X : Type 0} (test : X → Bool) (x : X) (xs : List X) → In x xs → test x ≡ true → In x (filter test xs)
in_filter test x [] i e = absurd i
in_filter test x (y ∷ xs) i e = elim i [
  | inl is ↦ subst (λ b. In x (cond b (y ∷ filter test xs) (filter test xs))) (sym (ap test is ∙ e)) (inl is)
  | inr later ↦ step (test y) (in_filter test x xs later e)
]
  where
    step : (b : Bool) → In x (filter test xs) → In x (cond b (y ∷ filter test xs) (filter test xs))
    step true j = inr j
    step false j = j

pub filter_in : {X : Type 0} (test : X → Bool) (x : X) (xs : List X) → In x (filter test xs) → In x xs × (test x ≡ true)
filter_in test x [] i = absurd i
filter_in test x (y ∷ xs) i = choose (test y) refl i (filter_in test x xs)
  where
    choose : (b : Bool) → test y ≡ b → In x (cond b (y ∷ filter test xs) (filter test xs)) → (In x (filter test xs) → In x xs × (test x ≡ true)) → In x (y ∷ xs) × (test x ≡ true)
    choose true e j f = elim j [ inl is ↦ (inl is, ap test (sym is) ∙ e) | inr k ↦ (let r = f k in (inr r.0, r.1)) ]
    choose false e j f = let r = f j in (inr r.0, r.1)

pub in_map : {X Y : Type 0} (f : X → Y) (x : X) (xs : List X) → In x xs → In (f x) (map f xs)
in_map f x [] i = absurd i
in_map f x (y ∷ xs) i = elim i [ inl e ↦ inl (ap f e) | inr later ↦ inr (in_map f x xs later) ]

pub map_in : {X Y : Type 0} (f : X → Y) (y : Y) (xs : List X) → In y (map f xs) → (x : X) × In x xs × (f x ≡ y)
map_in f y [] i = absurd i
map_in f y (x ∷ xs) i = elim i [
  | inl e ↦ (x, inl refl, e)
  | inr later ↦ (let t = map_in f y xs later in (t.0, inr t.1, t.2))
]

pub none_in : {X : Type 0} (xs : List X) → ((x : X) → In x xs → ⊥) → xs ≡ []
none_in [] f = refl
none_in (x ∷ xs) f = absurd (f x (inl refl))

-- ---- numbers from one on

pub in_range : (n a k : ℕ) → a ≤ k → k < a + n → In k (range_with_len a n)
in_range zero a k low high = absurd (omega arith)
in_range (suc n) a k low high = elim (cases_eq a k) [ inl e ↦ inl e | inr ne ↦ inr (in_range n (a + 1) k (omega arith) (omega arith)) ]

pub range_below : (n a k : ℕ) → In k (range_with_len a n) → k < a + n
range_below zero a k i = absurd i
range_below (suc n) a k i = elim i [ inl e ↦ (let f : a ≡ k = e in omega arith) | inr later ↦ (let f = range_below n (a + 1) k later in omega arith) ]

-- ---- lists that rise

-- of two elements the earlier is in this relation to the later
abbrev pub RisesBy : {X : Type 0} → (X → X → Type 0) → List X → Type 0
RisesBy R [] = Unit {0}
RisesBy {X = X} R (x ∷ xs) = ((y : X) → In y xs → R x y) × RisesBy R xs

module _ {X : Type 0} (R : X → X → Type 0) where
  pub rises-append : (xs ys : List X) → RisesBy R xs → RisesBy R ys → ((p q : X) → In p xs → In q ys → R p q) → RisesBy R (xs ++ ys)
  rises-append [] ys a b between = b
  rises-append (x ∷ xs) ys a b between = (
    λ q i. elim (In-append q xs ys i) [ inl u ↦ a.0 q u | inr v ↦ between x q (inl refl) v ],
    rises-append xs ys a.1 b (λ p q i j. between p q (inr i) j),
  )

  -- the elements that are kept rise, where the relation holds of any two of them
  pub rises-filter : (test : X → Bool) (xs : List X)
      → ((i j : ℕ) (x y : X) → i < j → slice_get xs i ≡ Some x → slice_get xs j ≡ Some y → test x ≡ true → test y ≡ true → R x y) → RisesBy R (filter test xs)
  rises-filter test [] f = tt
  rises-filter test (x ∷ xs) f = step (test x) refl (rises-filter test xs (λ i j y z low a b. f (suc i) (suc j) y z (omega arith) a b))
    where
      step : (b : Bool) → test x ≡ b → RisesBy R (filter test xs) → RisesBy R (cond b (x ∷ filter test xs) (filter test xs))
      step true e rest = (λ y i. let k = filter_in test y xs i in let at = at_in xs y k.0 in f 0 (suc at.0) x y (omega arith) refl at.1 e k.1, rest)
      step false e rest = rest

  pub rises_from : (xs : List X) → ((i j : ℕ) (x y : X) → i < j → slice_get xs i ≡ Some x → slice_get xs j ≡ Some y → R x y) → RisesBy R xs
  rises_from [] f = tt
  rises_from (x ∷ xs) f = (
    λ y k. let at = at_in xs y k in f 0 (suc at.0) x y (omega arith) refl at.1,
    rises_from xs (λ i j y z low a b. f (suc i) (suc j) y z (omega arith) a b),
  )

  all_in : (P : X → Type 0) (xs : List X) → ((y : X) → In y xs → P y) → AllByRecursion P xs
  all_in P [] f = tt
  all_in P (x ∷ xs) f = (f x (inl refl), all_in P xs (λ y i. f y (inr i)))

  pub pairs_rise : (xs : List X) → RisesBy R xs → AllPairs R xs
  pairs_rise [] t = λ i j d a b. absurd (omega arith)
  pairs_rise (x ∷ xs) t = AllPairs-cons R x xs (All-from_recursion (R x) xs (all_in (R x) xs t.0)) (pairs_rise xs t.1)

  pub pairs_at : (xs : List X) → AllPairs R xs → (i j : ℕ) (x y : X) → i < j → slice_get xs i ≡ Some x → slice_get xs j ≡ Some y → R x y
  pairs_at xs t i j x y low a b =
      subst (R x) (value_at xs j y x b) (subst (λ z. R z (slice_index_or xs j x)) (value_at xs i x x a) (t i j x low (slice_get_within xs j y b)))

  pub rises_pairs : (xs : List X) → AllPairs R xs → RisesBy R xs
  rises_pairs xs t = rises_from xs (pairs_at xs t)

  pub pairs_tail : (x : X) (xs : List X) → AllPairs R (x ∷ xs) → AllPairs R xs
  pairs_tail x xs t = λ i j d low few. t (suc i) (suc j) d (omega arith) (omega arith)

  pub pairs_back : (xs ys : List X) → AllPairs R (xs ++ ys) → AllPairs R ys
  pairs_back [] ys t = t
  pairs_back (x ∷ xs) ys t = pairs_back xs ys (pairs_tail x (xs ++ ys) t)

  -- two rising lists with the same elements are one
  module _ (apart : (x y : X) → R x y → R y x → ⊥) where
    pub one_list : (xs ys : List X) → RisesBy R xs → RisesBy R ys → ((x : X) → In x xs → In x ys) → ((x : X) → In x ys → In x xs) → xs ≡ ys
    one_list [] [] a b f g = refl
    one_list [] (y ∷ ys) a b f g = absurd (g y (inl refl))
    one_list (x ∷ xs) [] a b f g = absurd (f x (inl refl))
    one_list (x ∷ xs) (y ∷ ys) a b f g =
        let head : x ≡ y = elim (f x (inl refl)) [
          | inl e ↦ sym e
          | inr later ↦ elim (g y (inl refl)) [ inl e ↦ e | inr more ↦ absurd (apart x y (a.0 y more) (b.0 x later)) ]
        ] in
        (λ i. head i ∷ one_list xs ys a.1 b.1
        (λ p j. elim (f p (inr j)) [ inl e ↦ absurd (let r : R p p = subst (λ q. R q p) (head ∙ e) (a.0 p j) in apart p p r r) | inr k ↦ k ])
        (λ p j. elim (g p (inr j)) [ inl e ↦ absurd (let r : R p p = subst (λ q. R q p) (sym head ∙ e) (b.0 p j) in apart p p r r) | inr k ↦ k ]) i)
