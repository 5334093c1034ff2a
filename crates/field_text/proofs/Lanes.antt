-- What reading and printing hex digits by lanes both need.
use Rattle.std.proofs.Common.{◌≡◌, ℕ, ◌+◌, ◌-◌, ◌%◌, ◌^◌, Bool, true, false, cond, ltb, List, length, get_or, map, refl, sym, arith}
use Rattle.std.specs.List.{range_with_len}
use Rattle.std.proofs.Math.Nat.{zero-add}
use Rattle.std.proofs.lemmas.List.{ext_get_or, length-map}
use Rattle.std.proofs.lemmas.List.FromFn.{get_or-map-range_with_len, length-range_with_len}
use lib.Lanes.{top}

-- a lane's difference
abbrev pub less : ℕ → ℕ → ℕ
less a b = (a + (2 ^ 8 - b)) % 2 ^ 8

-- its sum
abbrev pub more : ℕ → ℕ → ℕ
more a b = (a + b) % 2 ^ 8

-- its comparison
abbrev pub below : ℕ → ℕ → ℕ
below a b = cond (ltb a b) (2 ^ 8 - 1) 0

-- a choice by a comparison
pub one_choice : (b : Bool) (x y : ℕ) → cond (top 7 (cond b 255 0)) x y ≡ cond b x y
one_choice true x y = refl
one_choice false x y = refl

-- a list of n elements, spelled
pub spelled : (xs : List ℕ) (n : ℕ) → length xs ≡ n
    → xs ≡ map (λ i. get_or xs i 0) (range_with_len 0 n)
spelled xs n e =
    let places = range_with_len 0 n in
    let size : length (map (λ i. get_or xs i 0) places) ≡ n =
    omega (arith, length-map places (λ i. get_or xs i 0), length-range_with_len 0 n) in
    ext_get_or 0 xs _ (omega (arith, size)) (λ i h.
    sym (get_or-map-range_with_len (λ i. get_or xs i 0) 0 n i i 0 (omega arith) (zero-add i)))
