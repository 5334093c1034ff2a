-- Sums over views, and numbers that are each there once.
use Rattle.std.proofs.Common.{◌≡◌, ◌≢◌, ℕ, zero, suc, ◌+◌, ◌*◌, ◌<◌, ◌≤◌, List, [], ◌∷◌, ◌++◌, set, sym, refl, ap, subst, arith, eq-eqb, ne_eqb, add-one, if◌then◌else◌}
use mathlib.Core.Option.{some, some-injective, some-ne-none}
use mathlib.Core.Logic.{dite}
use native.Mathlib.Decide.{ℕ_discrete}
use lib.ListN.{get_elem?}
use Rattle.turn_lock.specs.declared.views.View.{View}
use Rattle.turn_lock.specs.declared.views.Part.{Part}
use Rattle.turn_lock.specs.Views.{total, once, once_below, number_in, most_turns}

pub total_set : (f : View → ℕ) (vs : List View) (j : ℕ) (v w : View) → get_elem? vs j ≡ some v → total f (set vs j w) + f v ≡ total f vs + f w
total_set f [] j v w e = absurd (some-ne-none v (sym e))
total_set f (x ∷ vs) zero v w e = let same : f x ≡ f v = ap f (some-injective x v e) in omega arith
total_set f (x ∷ vs) (suc j) v w e = let h = total_set f vs j v w e in omega arith

pub total_snoc : (f : View → ℕ) (vs : List View) (w : View) → total f (vs ++ w ∷ []) ≡ total f vs + f w
total_snoc f [] w = omega arith
total_snoc f (x ∷ vs) w = let h = total_snoc f vs w in omega arith

pub total_one : (f : View → ℕ) (vs : List View) (j : ℕ) (v : View) → get_elem? vs j ≡ some v → f v ≤ total f vs
total_one f [] j v e = absurd (some-ne-none v (sym e))
total_one f (x ∷ vs) zero v e = let same : f x ≡ f v = ap f (some-injective x v e) in omega arith
total_one f (x ∷ vs) (suc j) v e = let h = total_one f vs j v e in omega arith

pub total_two : (f : View → ℕ) (vs : List View) (i j : ℕ) (u v : View) → i ≢ j → get_elem? vs i ≡ some u → get_elem? vs j ≡ some v → f u + f v ≤ total f vs
total_two f [] i j u v n a b = absurd (some-ne-none v (sym b))
total_two f (x ∷ vs) zero zero u v n a b = absurd (n refl)
total_two f (x ∷ vs) zero (suc j) u v n a b = let same : f x ≡ f u = ap f (some-injective x u a) in let h = total_one f vs j v b in omega arith
total_two f (x ∷ vs) (suc i) zero u v n a b = let same : f x ≡ f v = ap f (some-injective x v b) in let h = total_one f vs i u a in omega arith
total_two f (x ∷ vs) (suc i) (suc j) u v n a b = let h = total_two f vs i j u v (λ e. n (ap suc e)) a b in omega arith

pub total_most : (f g : View → ℕ) (vs : List View) → ((j : ℕ) (v : View) → get_elem? vs j ≡ some v → f v ≤ most_turns * g v) → total f vs ≤ most_turns * total g vs
total_most f g [] each = omega arith
total_most f g (x ∷ vs) each = let h = total_most f g vs (λ j v e. each (suc j) v e) in let a = each 0 x refl in omega arith

pub once_same : (k : ℕ) → once k k ≡ 1
once_same k = ap (λ b. if b then 1 else 0) (eq-eqb k k refl)

pub once_other : (k n : ℕ) → n ≢ k → once k n ≡ 0
once_other k n ne = ap (λ b. if b then 1 else 0) (ne_eqb n k ne)

pub below_next : (k n : ℕ) → once_below k (n + 1) ≡ once k n + once_below k n
below_next k n = rw add-one refl

pub not_below : (k n : ℕ) → n ≤ k → once_below k n ≡ 0
not_below k zero h = refl
not_below k (suc n) h = let a = not_below k n (omega arith) in let b = once_other k n (λ e. omega arith) in omega arith

pub is_below : (k n : ℕ) → k < n → once_below k n ≡ 1
is_below k zero h = absurd (omega arith)
is_below k (suc n) h = dite (ℕ_discrete n k)
    (λ (e : n ≡ k). let a = not_below k n (omega arith) in let b : once k n ≡ 1 = subst (λ m. once k m ≡ 1) (sym e) (once_same k) in omega arith)
    (λ (ne : n ≢ k). let a = is_below k n (omega arith) in let b = once_other k n ne in omega arith)

pub below_most : (k n : ℕ) → once_below k n ≤ 1
below_most k zero = omega arith
below_most k (suc n) = dite (ℕ_discrete n k)
    (λ (e : n ≡ k). let a = not_below k n (omega arith) in let b : once k n ≡ 1 = subst (λ m. once k m ≡ 1) (sym e) (once_same k) in omega arith)
    (λ (ne : n ≢ k). let a = below_most k n in let b = once_other k n ne in omega arith)

-- a part's number is among the numbers
pub number_at : (ps : List Part) (k : ℕ) (p : Part) → get_elem? ps k ≡ some p → 1 ≤ number_in p.number ps
number_at [] k p e = absurd (some-ne-none p (sym e))
number_at (x ∷ ps) zero p e = let same : once p.number x.number ≡ 1 = subst (λ (y : Part). once p.number y.number ≡ 1) (sym (some-injective x p e)) (once_same p.number) in omega arith
number_at (x ∷ ps) (suc k) p e = let h = number_at ps k p e in omega arith

pub number_in-append : (k : ℕ) (ps qs : List Part) → number_in k (ps ++ qs) ≡ number_in k ps + number_in k qs
number_in-append k [] qs = omega arith
number_in-append k (p ∷ ps) qs = let h = number_in-append k ps qs in omega arith
