-- Two lists that are joined place by place, into the first of them.
use Rattle.std.proofs.Common.{◌≡◌, ◌<◌, ◌+◌, ℕ, List, [], ◌∷◌, ◌++◌, length, take, drop, set, get_or, sym, ◌∙◌, ap, refl, append_assoc, arith}
use Rattle.std.proofs.lemmas.List.{take_more, drop_more, length-take-le, set_at, get_or_at}
use Rattle.std.proofs.lemmas.Simd.{length-zip2}
use Rattle.std.specs.Simd.Lanes.{zip2}

-- joined lists, joined place by place
zip2-append : (f : ℕ → ℕ → ℕ) (xs ys us vs : List ℕ) → length xs ≡ length ys
    → zip2 f (xs ++ us) (ys ++ vs) ≡ zip2 f xs ys ++ zip2 f us vs
zip2-append f [] [] us vs e = refl
zip2-append f [] (y ∷ ys) us vs e = absurd (omega (arith, e))
zip2-append f (x ∷ xs) [] us vs e = absurd (omega (arith, e))
zip2-append f (x ∷ xs) (y ∷ ys) us vs e = ap (λ zs. f x y ∷ zs) (zip2-append f xs ys us vs (omega (arith, e)))

-- one more place
pub joined_more : (f : ℕ → ℕ → ℕ) (xs ys zs : List ℕ) (i : ℕ) → i < length xs → length ys ≡ length xs
    → zs ≡ zip2 f (take i xs) (take i ys) ++ drop i xs
    → set zs i (f (get_or zs i 0) (get_or ys i 0)) ≡ zip2 f (take (i + 1) xs) (take (i + 1) ys) ++ drop (i + 1) xs
joined_more f xs ys zs i within same so_far =
    let front = zip2 f (take i xs) (take i ys) in
    let x = get_or xs i 0 in
    let y = get_or ys i 0 in
    let in_ys : i < length ys = omega arith in
    let fronts : length (take i xs) ≡ length (take i ys) =
    length-take-le i xs (omega arith) ∙ sym (length-take-le i ys (omega arith)) in
    let long : length front ≡ i = length-zip2 f (take i xs) (take i ys) fronts ∙ length-take-le i xs (omega arith) in
    let parts : zs ≡ front ++ x ∷ drop (i + 1) xs = so_far ∙ ap (λ us. front ++ us) (drop_more xs i 0 within) in
    let read : get_or zs i 0 ≡ x = ap (λ us. get_or us i 0) parts ∙ get_or_at front x (drop (i + 1) xs) 0 i long in
    let more : zip2 f (take (i + 1) xs) (take (i + 1) ys) ≡ front ++ f x y ∷ [] =
    ap (λ us. zip2 f us (take (i + 1) ys)) (take_more xs i 0 within)
    ∙ ap (λ us. zip2 f (take i xs ++ x ∷ []) us) (take_more ys i 0 in_ys)
    ∙ zip2-append f (take i xs) (take i ys) (x ∷ []) (y ∷ []) fronts in
    ap (λ v. set zs i (f v y)) read
    ∙ ap (λ us. set us i (f x y)) parts
    ∙ set_at front x (drop (i + 1) xs) (f x y) i long
    ∙ sym (ap (λ us. us ++ drop (i + 1) xs) more ∙ append_assoc front (f x y ∷ []) (drop (i + 1) xs))
