-- ---- for the proofs: lists by recursion
use Rattle.std.specs.Prelude.{ℕ, ◌≡◌, ◌⊎◌, List, [], ◌∷◌}
use Rattle.call_places.specs.declared.entries.Entry.{Entry}
use Rattle.context_books.specs.Entries.{number_after}

-- membership
abbrev pub In : {X : Type 0} → X → List X → Type 0
In p [] = ⊥
In p (x ∷ xs) = (x ≡ p) ⊎ In p xs

-- what holds of each entry and the number that is due before it
abbrev pub EachFrom : (ℕ → Entry → Type 0) → ℕ → List Entry → Type 0
EachFrom P n [] = Unit {0}
EachFrom P n (e ∷ es) = P n e × EachFrom P (number_after n e.step) es
