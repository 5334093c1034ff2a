-- Lists that are made of the elements of another and their numbers.
use Rattle.std.proofs.Common.{◌≡◌, ◌+◌, ℕ, List, [], ◌∷◌, length, refl, arith}
use Rattle.batch_plans.specs.ReplyText.{numbered}

pub length-numbered : {A B : Type 0} (f : ℕ → A → B) (start : ℕ) (xs : List A)
    → length (numbered f start xs) ≡ length xs
length-numbered f start [] = refl
length-numbered f start (x ∷ xs) = omega (arith, length-numbered f (start + 1) xs)
