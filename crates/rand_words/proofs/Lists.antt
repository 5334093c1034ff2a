-- Lists that a loop wrote, place by place.
use Rattle.std.proofs.Common.{◌≡◌, ℕ, zero, suc, ◌+◌, ◌<◌, List, [], ◌∷◌, length, map, get_or, arith, ap, ◌∙◌, refl}
use Rattle.rand_words.specs.Words.{words_from}

pub mapped : {X Y : Type 0} (f : X → Y) (xs : List X) (ys : List Y) (d : X) (e : Y) → length ys ≡ length xs → ((k : ℕ) → k < length xs → get_or ys k e ≡ f (get_or xs k d)) → ys ≡ map f xs
mapped f [] [] d e l h = refl
mapped f [] (y ∷ ys) d e l h = absurd (omega arith)
mapped f (x ∷ xs) [] d e l h = absurd (omega arith)
mapped f (x ∷ xs) (y ∷ ys) d e l h =
    ap (λ t. t ∷ ys) (h 0 (omega arith))
    ∙ ap (λ t. f x ∷ t) (mapped f xs ys d e (omega arith) (λ k b. h (suc k) (omega arith)))

pub drawn_is : (word : ℕ → ℕ) (place n : ℕ) (xs : List ℕ) → length xs ≡ n → ((k : ℕ) → k < n → get_or xs k 0 ≡ word (place + k)) → xs ≡ words_from word place n
drawn_is word place zero [] l h = refl
drawn_is word place zero (x ∷ xs) l h = absurd (omega arith)
drawn_is word place (suc n) [] l h = absurd (omega arith)
drawn_is word place (suc n) (x ∷ xs) l h =
    ap (λ t. t ∷ xs) (h 0 (omega arith) ∙ ap word (omega arith))
    ∙ ap (λ t. word place ∷ t) (drawn_is word (place + 1) n xs (omega arith) (λ k b. h (suc k) (omega arith) ∙ ap word (omega arith)))
