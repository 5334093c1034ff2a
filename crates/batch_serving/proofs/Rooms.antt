-- Bytes that are read behind those that were.
use Rattle.std.proofs.Common.{◌≡◌, ℕ, zero, suc, ◌+◌, ◌≤◌, List, [], ◌∷◌, ◌++◌, length, take, drop, Option, Some, None, sym, ap, ◌∙◌, subst, arith, append_assoc}
use Rattle.std.specs.Io.KnownBytes.{Consumes}

taken_on : {X : Type 0} (f n : ℕ) (xs : List X) → f ≤ length xs
    → take (f + n) xs ≡ take f xs ++ take n (drop f xs)
taken_on zero n xs few = ap (λ k. take k xs) (let e : zero + n ≡ n = omega arith in e)
taken_on (suc f) n [] few = absurd (omega arith)
taken_on (suc f) n (x ∷ xs) few =
    ap (λ k. take k (x ∷ xs)) (let e : suc f + n ≡ suc (f + n) = omega arith in e)
    ∙ ap (λ ys. x ∷ ys) (taken_on f n xs (omega arith))

consumed_on : (a b c : Option (List ℕ)) (front rest : List ℕ) → Consumes a b front
    → Consumes b c rest → Consumes a c (front ++ rest)
consumed_on None b c front rest first second = tt
consumed_on (Some xs) None c front rest first second = absurd first
consumed_on (Some xs) (Some ys) None front rest first second = absurd second
consumed_on (Some xs) (Some ys) (Some zs) front rest first second =
    first ∙ ap (λ l. front ++ l) second ∙ sym (append_assoc front rest zs)

-- what stood at the front of a room, and what was read behind it
pub read_on : (a b c : Option (List ℕ)) (old new : List ℕ) (f n : ℕ) → f ≤ length new
    → take f new ≡ take f old → Consumes a b (take f old) → Consumes b c (take n (drop f new))
    → Consumes a c (take (f + n) new)
read_on a b c old new f n few same first second =
    subst (Consumes a c) (sym (taken_on f n new few))
    (consumed_on a b c (take f new) (take n (drop f new)) (subst (Consumes a b) (sym same) first) second)
