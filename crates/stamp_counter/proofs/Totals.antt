-- Sums over views.
use Rattle.std.proofs.Common.{◌≡◌, ◌≢◌, refl, ℕ, zero, suc, ◌+◌, ◌≤◌, List, [], ◌∷◌, ◌++◌, set, sym, ap, arith}
use mathlib.Core.Option.{some, some-injective, some-ne-none}
use lib.ListN.{get_elem?}
use Rattle.stamp_counter.specs.declared.views.View.{View}
use Rattle.stamp_counter.specs.Views.{total}

pub total_set : (f : View → ℕ) (vs : List View) (j : ℕ) (v w : View) → get_elem? vs j ≡ some v → total f (set vs j w) + f v ≡ total f vs + f w
total_set f [] j v w e = absurd (some-ne-none v (sym e))
total_set f (x ∷ vs) zero v w e = let same : f x ≡ f v = ap f (some-injective x v e) in omega arith
total_set f (x ∷ vs) (suc j) v w e = let h = total_set f vs j v w e in omega arith

pub total_snoc : (f : View → ℕ) (vs : List View) (w : View) → total f (vs ++ w ∷ []) ≡ total f vs + f w
total_snoc f [] w = omega arith
total_snoc f (x ∷ vs) w = let h = total_snoc f vs w in omega arith

pub total_one : (f : View → ℕ) (vs : List View) (j : ℕ) (v : View) → get_elem? vs j ≡ some v → f v ≤ total f vs
total_one f [] j v e = absurd (some-ne-none v (sym e))
total_one f (x ∷ vs) zero v e = let same : f x ≡ f v = ap f (some-injective x v e) in omega arith
total_one f (x ∷ vs) (suc j) v e = let h = total_one f vs j v e in omega arith

pub total_two : (f : View → ℕ) (vs : List View) (i j : ℕ) (u v : View) → i ≢ j → get_elem? vs i ≡ some u → get_elem? vs j ≡ some v → f u + f v ≤ total f vs
total_two f [] i j u v n a b = absurd (some-ne-none v (sym b))
total_two f (x ∷ vs) zero zero u v n a b = absurd (n refl)
total_two f (x ∷ vs) zero (suc j) u v n a b = let same : f x ≡ f u = ap f (some-injective x u a) in let h = total_one f vs j v b in omega arith
total_two f (x ∷ vs) (suc i) zero u v n a b = let same : f x ≡ f v = ap f (some-injective x v b) in let h = total_one f vs i u a in omega arith
total_two f (x ∷ vs) (suc i) (suc j) u v n a b = let h = total_two f vs i j u v (λ e. n (ap suc e)) a b in omega arith

pub total_le : (f g : View → ℕ) (vs : List View) → ((v : View) → f v ≤ g v) → total f vs ≤ total g vs
total_le f g [] each = omega arith
total_le f g (x ∷ vs) each = let a = each x in let h = total_le f g vs each in omega arith

-- where one view has the whole sum of g, it has the whole sum of f, which is nowhere more
pub total_alone : (f g : View → ℕ) (vs : List View) (j : ℕ) (v : View) → get_elem? vs j ≡ some v → ((u : View) → f u ≤ g u) → total g vs ≡ g v → total f vs ≡ f v
total_alone f g [] j v e each all = absurd (some-ne-none v (sym e))
total_alone f g (x ∷ vs) zero v e each all =
    let same : f x ≡ f v = ap f (some-injective x v e) in let same' : g x ≡ g v = ap g (some-injective x v e) in let h = total_le f g vs each in omega arith
total_alone f g (x ∷ vs) (suc j) v e each all =
    let a = each x in let b = total_one g vs j v e in let rest : total g vs ≡ g v = omega arith in let h = total_alone f g vs j v e each rest in omega arith
