-- Answers to items in two parts.
use Rattle.std.proofs.Common.{◌≡◌, ℕ, List, [], ◌∷◌, ◌++◌, ap, refl}
use Rattle.hpke_context.specs.Answers.{Item, Cipher, answer, next, run, due}

pub run-append : (c : Cipher) (n : ℕ) (xs ys : List Item) → run c n (xs ++ ys) ≡ run c n xs ++ run c (due c n xs) ys
run-append c n [] ys = refl
run-append c n (x ∷ xs) ys = ap (λ answers. answer c n x ∷ answers) (run-append c (next n (answer c n x)) xs ys)

pub due-append : (c : Cipher) (n : ℕ) (xs ys : List Item) → due c n (xs ++ ys) ≡ due c (due c n xs) ys
due-append c n [] ys = refl
due-append c n (x ∷ xs) ys = due-append c (next n (answer c n x)) xs ys
