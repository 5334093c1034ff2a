-- The guesses that a lane keeps, after one call more.
use Rattle.std.proofs.Common.{◌≡◌, ℕ, ◌+◌, List, [], ◌∷◌, ◌++◌, length, take, Some, sym, refl, ap, ◌∙◌, arith, length-append}
use Rattle.std.specs.Prelude.{slice_get}
use Rattle.std.proofs.lemmas.List.Sums.{sum_by-cons, sum_by-append}
use Rattle.context_books.specs.Batches.{Ask, Nothing, ToSeal, ToOpen, ToOpenAll}
use Rattle.context_books.specs.Guesses.{guess_of, guess_count}
use Rattle.context_books.proofs.OneLane.{taken_more}

as_many : (a : Ask) (g : ℕ) → length (guess_of a g) ≡ length (guess_of a 0)
as_many Nothing g = refl
as_many (ToSeal c aad text) g = refl
as_many (ToOpen c aad ct) g = refl
as_many (ToOpenAll c ms) g = refl

pub guesses_more : (asks : List Ask) (k : ℕ) (a : Ask) (gs : List ℕ) (g : ℕ)
    → slice_get asks k ≡ Some a → length gs ≡ guess_count (take k asks)
    → length (gs ++ guess_of a g) ≡ guess_count (take (k + 1) asks)
guesses_more asks k a gs g at count =
    let kept = λ (ask : Ask). length (guess_of ask 0) in
    let one : guess_count (a ∷ []) ≡ length (guess_of a 0) + 0 = sum_by-cons kept a [] in
    length-append gs (guess_of a g) ∙ (λ i. count i + as_many a g i)
    ∙ (let e : guess_count (take k asks) + length (guess_of a 0) ≡ guess_count (take k asks)
    + guess_count (a ∷ []) = omega (arith, one) in e)
    ∙ sym (sum_by-append kept (take k asks) (a ∷ []))
    ∙ ap guess_count (sym (taken_more asks k a at))
