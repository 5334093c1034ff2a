-- Lists of stamps.
use Rattle.std.proofs.Common.{◌≡◌, ◌≢◌, ◌==◌, ℕ, zero, suc, ◌+◌, ◌<◌, ◌≤◌, List, [], ◌∷◌, ◌++◌, length, sym, refl, ap, subst, ◌∙◌, arith, eq-eqb, ne_eqb, if◌then◌else◌, All}
use Rattle.std.specs.Prelude.{IsPermutation}
use Rattle.std.specs.List.{range_with_len}
use Rattle.std.proofs.lemmas.List.Elements.{All-nil, All-cons}
use Rattle.std.proofs.lemmas.List.Sorted.{IsPermutation-refl, IsPermutation-cons, IsPermutation-trans, IsPermutation-sym, IsPermutation-middle, IsPermutation-to_front}
use mathlib.Core.Logic.{dite}
use native.Mathlib.Decide.{ℕ_discrete}
use Rattle.stamp_counter.specs.Views.{times}

pub times-append : (k : ℕ) (xs ys : List ℕ) → times k (xs ++ ys) ≡ times k xs + times k ys
times-append k [] ys = omega arith
times-append k (x ∷ xs) ys = let h = times-append k xs ys in omega arith

abbrev once : ℕ → ℕ → ℕ
once k x = if x == k then 1 else 0

same : (k x : ℕ) → x ≡ k → once k x ≡ 1
same k x e = ap (λ b. if b then 1 else 0) (eq-eqb x k e)

other : (k x : ℕ) → x ≢ k → once k x ≡ 0
other k x ne = ap (λ b. if b then 1 else 0) (ne_eqb x k ne)

pub times_most : (k : ℕ) (xs : List ℕ) → times k xs ≤ length xs
times_most k [] = omega arith
times_most k (x ∷ xs) =
    let h = times_most k xs in
    dite (ℕ_discrete x k)
    (λ (e : x ≡ k). let a = same k x e in omega arith)
    (λ (ne : x ≢ k). let a = other k x ne in omega arith)

-- ---- stamps that follow one another

range_push : (a n : ℕ) → range_with_len a (suc n) ≡ range_with_len a n ++ (a + n) ∷ []
range_push a zero = ap (λ k. k ∷ []) (let z : a ≡ a + 0 = omega arith in z)
range_push a (suc n) = ap (λ l. a ∷ l) (range_push (a + 1) n ∙ ap (λ k. range_with_len (a + 1) n ++ k ∷ []) (let z : a + 1 + n ≡ a + suc n = omega arith in z))

-- the numbers below n + 1 are those below n, and n
first_push : (n : ℕ) → range_with_len 0 (suc n) ≡ range_with_len 0 n ++ n ∷ []
first_push n = range_push 0 n ∙ ap (λ k. range_with_len 0 n ++ k ∷ []) (let z : 0 + n ≡ n = omega arith in z)

first_times : (k n : ℕ) → times k (range_with_len 0 (n + 1)) ≡ times k (range_with_len 0 n) + times k (n ∷ [])
first_times k n = ap (λ m. times k (range_with_len 0 m)) (let z : n + 1 ≡ suc n = omega arith in z) ∙ ap (times k) (first_push n) ∙ times-append k (range_with_len 0 n) (n ∷ [])

-- the stamps from n on are those that come after the ones below n
pub below_more : (k n count : ℕ) → times k (range_with_len 0 n) + times k (range_with_len n count) ≡ times k (range_with_len 0 (n + count))
below_more k n zero = let e : times k (range_with_len 0 n) ≡ times k (range_with_len 0 (n + 0)) = ap (λ m. times k (range_with_len 0 m)) (let q : n ≡ n + 0 = omega arith in q) in omega arith
below_more k n (suc count) =
    let h = below_more k (n + 1) count in
    let a = first_times k n in
    let e : times k (range_with_len 0 (n + 1 + count)) ≡ times k (range_with_len 0 (n + suc count)) = ap (λ m. times k (range_with_len 0 m)) (let q : n + 1 + count ≡ n + suc count = omega arith in q) in
    omega arith

none_before : (k a n : ℕ) → k < a → times k (range_with_len a n) ≡ 0
none_before k a zero h = refl
none_before k a (suc n) h = let z = other k a (λ e. omega arith) in let r = none_before k (a + 1) n (omega arith) in omega arith

pub range_once : (k a n : ℕ) → times k (range_with_len a n) ≤ 1
range_once k a zero = omega arith
range_once k a (suc n) = dite (ℕ_discrete a k)
    (λ (e : a ≡ k). let z = same k a e in let r = none_before k (a + 1) n (omega arith) in omega arith)
    (λ (ne : a ≢ k). let z = other k a ne in let r = range_once k (a + 1) n in omega arith)

pub All-range : (a n m : ℕ) → a + n ≤ m → All (λ stamp. stamp < m) (range_with_len a n)
All-range a zero m h = All-nil (λ stamp. stamp < m)
All-range a (suc n) m h = All-cons (λ stamp. stamp < m) a (range_with_len (a + 1) n) (omega arith) (All-range (a + 1) n m (omega arith))

-- ---- stamps that stand as often as the numbers below n are these numbers

parted : (n : ℕ) (xs : List ℕ) → 0 < times n xs → (us vs : List ℕ) × (xs ≡ us ++ (n ∷ vs))
parted n [] h = absurd (omega arith)
parted n (x ∷ xs) h = dite (ℕ_discrete x n)
    (λ (e : x ≡ n). ([], xs, ap (λ y. y ∷ xs) e))
    (λ (ne : x ≢ n). let z = other n x ne in let r = parted n xs (omega arith) in (x ∷ r.0, r.1, ap (λ l. x ∷ l) r.2))

pub are_first : (n : ℕ) (xs : List ℕ) → ((k : ℕ) → times k xs ≡ times k (range_with_len 0 n)) → IsPermutation xs (range_with_len 0 n)
are_first zero [] each = IsPermutation-refl []
are_first zero (x ∷ xs) each = absurd (let a = each x in let b = same x x refl in omega arith)
are_first (suc n) xs each =
    let first = ap (times n) (first_push n) ∙ times-append n (range_with_len 0 n) (n ∷ []) in
    let one = same n n refl in
    let whole = each n in
    let t = parted n xs (omega arith) in
    let rest = are_first n (t.0 ++ t.1) (λ k.
    let a = ap (times k) (sym t.2) ∙ each k ∙ ap (times k) (first_push n) ∙ times-append k (range_with_len 0 n) (n ∷ []) in
    let b = times-append k t.0 (n ∷ t.1) in
    let c = times-append k t.0 t.1 in
    omega arith) in
    subst (λ ys. IsPermutation ys (range_with_len 0 (suc n))) (sym t.2)
    (subst (IsPermutation (t.0 ++ (n ∷ t.1))) (sym (first_push n))
    (IsPermutation-trans _ _ _ (IsPermutation-middle t.0 n t.1)
    (IsPermutation-trans _ _ _ (IsPermutation-cons n _ _ rest) (IsPermutation-sym _ _ (IsPermutation-to_front (range_with_len 0 n) n)))))
