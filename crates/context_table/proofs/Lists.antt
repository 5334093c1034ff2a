-- Lists that grow at their end.
use Rattle.std.proofs.Common.{◌≡◌, ◌<◌, ℕ, zero, suc, List, [], ◌∷◌, ◌++◌, length, take, Some, None, refl, ap, ◌∙◌, arith, length-append}
use Rattle.std.specs.Prelude.{slice_get}
use Rattle.std.proofs.lemmas.Option.{slice_get_past}

pub slice_get-append_low : {X : Type 0} (xs ys : List X) (i : ℕ) → i < length xs
    → slice_get (xs ++ ys) i ≡ slice_get xs i
slice_get-append_low [] ys i lt = absurd (omega arith)
slice_get-append_low (x ∷ xs) ys zero lt = refl
slice_get-append_low (x ∷ xs) ys (suc i) lt = slice_get-append_low xs ys i (omega arith)

pub slice_get-append_end : {X : Type 0} (xs : List X) (y : X) (i : ℕ) → i ≡ length xs
    → slice_get (xs ++ y ∷ []) i ≡ Some y
slice_get-append_end [] y zero e = refl
slice_get-append_end [] y (suc i) e = absurd (omega arith)
slice_get-append_end (x ∷ xs) y zero e = absurd (omega arith)
slice_get-append_end (x ∷ xs) y (suc i) e = slice_get-append_end xs y i (omega arith)

pub slice_get-append_past : {X : Type 0} (xs : List X) (y : X) (i : ℕ) → length xs < i
    → slice_get (xs ++ y ∷ []) i ≡ None
slice_get-append_past xs y i lt =
    slice_get_past (xs ++ y ∷ []) i (omega (arith, length-append xs (y ∷ [])))

pub slice_get-take : {X : Type 0} (xs : List X) (n i : ℕ) → i < n
    → slice_get (take n xs) i ≡ slice_get xs i
slice_get-take xs zero i lt = absurd (omega arith)
slice_get-take [] (suc n) i lt = refl
slice_get-take (x ∷ xs) (suc n) zero lt = refl
slice_get-take (x ∷ xs) (suc n) (suc i) lt = slice_get-take xs n i (omega arith)

pub same_some : {X : Type 0} {x y : X} → Some x ≡ Some y → x ≡ y
same_some e = cc

-- two lists with the same elements are equal
pub same_lists : {X : Type 0} (xs ys : List X) → length xs ≡ length ys
    → ((i : ℕ) (x y : X) → slice_get xs i ≡ Some x → slice_get ys i ≡ Some y → x ≡ y) → xs ≡ ys
same_lists [] [] e h = refl
same_lists [] (y ∷ ys) e h = absurd (omega arith)
same_lists (x ∷ xs) [] e h = absurd (omega arith)
same_lists (x ∷ xs) (y ∷ ys) e h =
    ap (λ z. z ∷ xs) (h 0 x y refl refl)
    ∙ ap (λ zs. y ∷ zs) (same_lists xs ys (omega arith) (λ i a b p q. h (suc i) a b p q))

-- where one list has an element, another of the same length has one
pub some_within : {X Y : Type 0} (xs : List X) (ys : List Y) (i : ℕ) (x : X) → length xs ≡ length ys
    → slice_get xs i ≡ Some x
    → (y : Y) × (slice_get ys i ≡ Some y)
some_within [] ys i x e h = absurd (let none : None ≡ Some x = h in cc)
some_within (z ∷ xs) [] i x e h = absurd (omega arith)
some_within (z ∷ xs) (y ∷ ys) zero x e h = (y, refl)
some_within (z ∷ xs) (y ∷ ys) (suc i) x e h = some_within xs ys i x (omega arith) h
