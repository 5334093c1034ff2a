-- Radices over the levels.
use Rattle.std.proofs.Common.{◌≡◌, ℕ, zero, suc, ◌+◌, ◌/◌, List, [], ◌∷◌, length, arith, refl}
use Rattle.radix_pack.specs.Radix.{next_radices, AreRadices}
use Rattle.radix_pack.proofs.Turns.{pair_radix_below, pair_radix_least}

pub length-next_radices : (ms : List ℕ) → length (next_radices ms) ≡ (length ms + 1) / 2
length-next_radices [] = refl
length-next_radices (m ∷ []) = refl
length-next_radices (m ∷ n ∷ rest) = omega (arith, length-next_radices rest)

pub AreRadices-next : (ms : List ℕ) → AreRadices ms → AreRadices (next_radices ms)
AreRadices-next [] h k l = h k l
AreRadices-next (m ∷ []) h k l = h k l
AreRadices-next (m ∷ n ∷ rest) h zero l =
    let first = h 0 (omega arith) in
    let second = h 1 (omega arith) in
    (pair_radix_least m n first.0 second.0, pair_radix_below m n first.1 second.1)
AreRadices-next (m ∷ n ∷ rest) h (suc k) l = AreRadices-next rest (λ i b. h (suc (suc i)) (omega arith)) k (omega arith)
