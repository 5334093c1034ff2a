-- Places: which are the same, which stands before which, and the part of a journal before a place.
use Rattle.std.proofs.Common.{◌≡◌, ◌≢◌, ℕ, suc, ◌+◌, ◌==◌, ◌&&◌, Bool, true, false, cond, List, [], ◌∷◌, ◌++◌, length, sym, refl, ap, ◌∙◌, subst, arith, eq-eqb, eqb-true, length-append, ◌⊎◌, inl, inr}
use Rattle.std.specs.List.{AllPairs}
use Rattle.std.proofs.lemmas.Bool.{cases_lt, cases_eq}
use Rattle.std.proofs.lemmas.List.{get_or_at}
use Rattle.call_places.specs.declared.entries.Place.{Place}
use Rattle.call_places.specs.Orders.{IsBefore}
use Rattle.context_books.specs.Batches.{own_places}
use Rattle.context_books.specs.Legal.{is_same_place, before}
use Rattle.context_books.proofs.Members.{in_filter, filter_in, pairs_tail}
use Rattle.context_books.specs.Lists.{In}
use Rattle.context_books.proofs.Truths.{and_left, and_right}

-- ---- the same place

pub same_place : (p q : Place) → p.lane ≡ q.lane → p.call ≡ q.call → p.item ≡ q.item → p ≡ q
same_place p q a b c = (λ i. record { lane = a i; call = b i; item = c i })

pub same : (p : Place) → is_same_place p p ≡ true
same p = (λ i. eq-eqb p.lane p.lane refl i && eq-eqb p.call p.call refl i && eq-eqb p.item p.item refl i)

pub same_from : (q p : Place) → q ≡ p → is_same_place q p ≡ true
same_from q p e = subst (λ r. is_same_place q r ≡ true) e (same q)

pub same_places : (q p : Place) → is_same_place q p ≡ true → q ≡ p
same_places q p e =
    let lanes_calls = and_left ((q.lane == p.lane) && (q.call == p.call)) (q.item == p.item) e in
    same_place q p
    (eqb-true q.lane p.lane (and_left (q.lane == p.lane) (q.call == p.call) lanes_calls))
    (eqb-true q.call p.call (and_right (q.lane == p.lane) (q.call == p.call) lanes_calls))
    (eqb-true q.item p.item (and_right ((q.lane == p.lane) && (q.call == p.call)) (q.item == p.item) e))

pub not_same : (q p : Place) → q ≢ p → is_same_place q p ≡ false
not_same q p ne = step (is_same_place q p) refl
  where
    step : (b : Bool) → is_same_place q p ≡ b → b ≡ false
    step true e = absurd (ne (same_places q p e))
    step false e = refl

-- ---- the order of a lane

pub not_both : (p q : Place) → IsBefore p q → IsBefore q p → ⊥
not_both p q a b = elim a [
  | inl x ↦ elim b [ inl y ↦ absurd (omega arith) | inr y ↦ (let z = y.0 in absurd (omega arith)) ]
  | inr x ↦ elim b [ inl y ↦ (let z = x.0 in absurd (omega arith)) | inr y ↦ (let u = x.1 in let v = y.1 in absurd (omega arith)) ]
]

pub not_before : (p : Place) → IsBefore p p → ⊥
not_before p h = not_both p p h h

-- of two places of one lane one stands before the other, or they are the same
pub either_before : (p q : Place) → p.lane ≡ q.lane → (IsBefore p q ⊎ IsBefore q p) ⊎ (p ≡ q)
either_before p q lane = elim (cases_lt p.call q.call) [
  | inl low ↦ inl (inl (inl low))
  | inr high ↦ elim (cases_eq p.call q.call) [
    | inr ne ↦ inl (inr (inl (omega arith)))
    | inl same ↦ elim (cases_lt p.item q.item) [
      | inl low ↦ inl (inl (inr (same, low)))
      | inr up ↦ elim (cases_eq p.item q.item) [
        | inr ne ↦ inl (inr (inr (sym same, omega arith)))
        | inl item ↦ inr (same_place p q lane same item)
      ]
    ]
  ]
]

-- ---- the places of one lane

pub in_own : (p : Place) (xs : List Place) → In p xs → In p (own_places p.lane xs)
in_own p xs i = in_filter (λ (q : Place). q.lane == p.lane) p xs i (eq-eqb p.lane p.lane refl)

pub own_in : (l : ℕ) (p : Place) (xs : List Place) → In p (own_places l xs) → In p xs
own_in l p xs i = (filter_in (λ (q : Place). q.lane == l) p xs i).0

pub own_lane : (l : ℕ) (p : Place) (xs : List Place) → In p (own_places l xs) → p.lane ≡ l
own_lane l p xs i = eqb-true p.lane l (filter_in (λ (q : Place). q.lane == l) p xs i).1

-- ---- the part before a place

-- a place that stands once does not stand before itself
pub not_in_front : (xs rest : List Place) (p : Place) → AllPairs (λ (p q : Place). p ≢ q) (xs ++ (p ∷ rest)) → In p xs → ⊥
not_in_front [] rest p t i = absurd i
not_in_front (x ∷ xs) rest p t i = elim i [
  | inl e ↦ (let size : length (xs ++ (p ∷ rest)) ≡ length xs + suc (length rest) = length-append xs (p ∷ rest) in
      t 0 (suc (length xs)) p (omega arith) (omega arith) (e ∙ sym (get_or_at xs p rest p (length xs) refl)))
  | inr r ↦ not_in_front xs rest p (pairs_tail (λ (p q : Place). p ≢ q) x (xs ++ (p ∷ rest)) t) r
]

pub before_split : (xs rest : List Place) (p : Place) → (In p xs → ⊥) → before p (xs ++ (p ∷ rest)) ≡ xs
before_split [] rest p none = ap (λ b. cond b [] (p ∷ before p rest)) (same p)
before_split (x ∷ xs) rest p none = step (is_same_place x p) refl (before_split xs rest p (λ i. none (inr i)))
  where
    step : (b : Bool) → is_same_place x p ≡ b → before p (xs ++ (p ∷ rest)) ≡ xs → cond b [] (x ∷ before p (xs ++ (p ∷ rest))) ≡ x ∷ xs
    step true e later = absurd (none (inl (same_places x p e)))
    step false e later = ap (λ l. x ∷ l) later
