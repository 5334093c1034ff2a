-- Elements by the places of their coefficients.
use Rattle.std.proofs.Common.{◌≡◌, ℕ, ◌+◌, ◌≤◌, Bool, true, false, if◌then◌else◌, ℤ, pos, negsuc, List, [], ◌∷◌, ◌++◌, length, arith, ap, sym, ◌∙◌, inl, inr}
use Rattle.std.specs.Prelude.{nat_eq, unsigned_abs}
use Rattle.std.specs.List.{list_any}
use Rattle.std.proofs.lemmas.Bool.{cases_lt}
use Rattle.std.proofs.lemmas.List.{get_or_past}
use Rattle.std.proofs.lemmas.List.FromFn.{length-map-range_with_len, map-range_with_len_more}
use Rattle.ring_core.specs.Bounds.{IsWithin}
use Rattle.lattice_tests.specs.Examples.{placed, placed_at}
use Rattle.ring_core.proofs.ProductLaws.{made_at}

pub length-placed : (p : ℕ) (ones minus_ones : List ℕ) → length (placed p ones minus_ones) ≡ p
length-placed p ones minus_ones = length-map-range_with_len (placed_at ones minus_ones) 0 p

pub placed-more : (k : ℕ) (ones minus_ones : List ℕ) (xs : List ℤ) (x : ℤ) → xs ≡ placed k ones minus_ones → x ≡ placed_at ones minus_ones k → xs ++ x ∷ [] ≡ placed (k + 1) ones minus_ones
placed-more k ones minus_ones xs x e f =
    ap (λ ys. ys ++ x ∷ []) e
    ∙ ap (λ y. placed k ones minus_ones ++ y ∷ []) f
    ∙ sym (map-range_with_len_more (placed_at ones minus_ones) 0 k k (omega arith))

sign_small : (b c : Bool) → unsigned_abs (if b then pos 1 else (if c then negsuc 0 else pos 0)) ≤ 1
sign_small true c = omega arith
sign_small false true = omega arith
sign_small false false = omega arith

pub IsWithin-placed : (p : ℕ) (ones minus_ones : List ℕ) → IsWithin 1 (placed p ones minus_ones)
IsWithin-placed p ones minus_ones k =
    elim (cases_lt k p) [
      | inl l ↦ omega (arith, ap unsigned_abs (made_at p (placed_at ones minus_ones) k l), sign_small (list_any (λ y. nat_eq y k) ones) (list_any (λ y. nat_eq y k) minus_ones))
      | inr l ↦ omega (arith, ap unsigned_abs (get_or_past (placed p ones minus_ones) k (pos 0) (omega (arith, length-placed p ones minus_ones))))
    ]
