-- One ciphertext more.
use Rattle.std.proofs.Common.{◌≡◌, ℕ, zero, suc, ◌+◌, ◌<◌, List, [], ◌∷◌, length, get_or, take, arith}
use Rattle.hex.specs.Hex.{IsBytes}
use Rattle.demo_runs.specs.Ciphertexts.{AreCiphertexts}

pub seen_more : (cts : List (List ℕ)) (i : ℕ) (d : List ℕ) → i < length cts → IsBytes (get_or cts i d)
    → length (get_or cts i []) ≡ 80 → AreCiphertexts (take i cts) → AreCiphertexts (take (i + 1) cts)
seen_more [] i d within are size before = absurd (omega arith)
seen_more (ct ∷ cts) zero d within are size before = (record { are = are; size = size }, tt)
seen_more (ct ∷ cts) (suc i) d within are size before =
    let e : suc i + 1 ≡ suc (i + 1) = omega arith in
    rw e (before.0, seen_more cts i d (omega arith) are size before.1)
