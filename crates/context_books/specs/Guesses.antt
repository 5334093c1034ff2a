-- The guess of an opening of several messages. Before its turn comes, an opening guesses the number
-- that will be due there, and tests its tags ahead of time around that guess. A guess that came
-- true spares the tests at the turn; one that did not changes no answer.
use Rattle.std.specs.Prelude.{ℕ, ◌≡◌, ◌==◌, ◌+◌, ◌&&◌, min, nat_le, Bool, if◌then◌else◌, List, [], ◌∷◌, ◌++◌, length, take, map, sum_by, slice_index}
use Rattle.std.specs.List.{list_any}
use Rattle.call_places.specs.declared.entries.Place.{Place}
use Rattle.hpke_context.specs.Answers.{Cipher}
use Rattle.context_books.specs.Batches.{Batch, Ask, Nothing, ToSeal, ToOpen, ToOpenAll, lane_of, block, place, own_places}
use Rattle.context_books.specs.Legal.{OpensOn, due_after, before, number_of}

-- The guess of a call of n messages is the number that was due after a front of the journal. This
-- front holds all earlier places of the call's lane, and it ends before the call's own places.
pub record Guessed (batch : Batch) (c : Cipher) (journal : List Place)
    (lane call n guess : ℕ) : Type 0 where
  pub front : List Place
  pub others : List Place
  pub after : List Place
  pub stands : journal ≡ front ++ (others ++ (block lane call 0 n ++ after))
  pub of_others : own_places lane others ≡ []
  pub number : due_after batch c front ≡ guess

-- item i is tested ahead of time at the numbers guess + i - k, for k from 0 to min(i, 3)
abbrev pub is_in_window : ℕ → ℕ → ℕ → Bool
is_in_window guess i number = nat_le number (guess + i) && nat_le (guess + i) (number + min i 3)

-- how many of these numbers, the first that of item i, a guess missed: they lie outside the windows
abbrev pub missed : ℕ → ℕ → List ℕ → ℕ
missed guess i [] = 0
missed guess i (number ∷ numbers) =
    (if is_in_window guess i number then 0 else 1) + missed guess (i + 1) numbers

-- how many items of a call of n messages its guess missed
abbrev pub missed_in : Batch → Cipher → List Place → ℕ → ℕ → ℕ → ℕ → ℕ
missed_in batch c journal lane call n guess =
    missed guess 0 (map (number_of batch c journal) (block lane call 0 n))

-- ---- the least and the greatest guess

-- a list of places up to and with the last one of a lane; nothing where the lane has none
abbrev pub through : ℕ → List Place → List Place
through lane [] = []
through lane (p ∷ ps) =
    if list_any (λ q. q.lane == lane) (p ∷ ps) then p ∷ through lane ps else []

-- the number that is due just after the last earlier place of the call's lane, or 0 without one
abbrev pub least_guess : Batch → Cipher → List Place → ℕ → ℕ → ℕ
least_guess batch c journal lane call =
    due_after batch c (through lane (before (place lane call 0) journal))

-- the number that is due at the call's first place
abbrev pub greatest_guess : Batch → Cipher → List Place → ℕ → ℕ → ℕ
greatest_guess batch c journal lane call = number_of batch c journal (place lane call 0)

-- ---- the guesses of a lane

-- what a call keeps of its guess: an opening of several messages prints it, and no other call
abbrev pub guess_of : Ask → ℕ → List ℕ
guess_of Nothing guess = []
guess_of (ToSeal context aad text) guess = []
guess_of (ToOpen context aad ct) guess = []
guess_of (ToOpenAll context messages) guess = guess ∷ []

-- how many of these calls keep a guess
abbrev pub guess_count : List Ask → ℕ
guess_count asks = sum_by (λ ask. length (guess_of ask 0)) asks

-- a lane keeps its guesses in the order of its calls: that of this call
abbrev pub guess_at : List Ask → List ℕ → ℕ → ℕ
guess_at asks guesses call = slice_index guesses (guess_count (take call asks))

-- the lane has one guess for each of its openings of several messages, and each may have been made
pub record AllGuessed (batch : Batch) (ciphers : ℕ → Cipher) (journals : ℕ → List Place)
    (lane : ℕ) (guesses : List ℕ) : Type 0 where
  pub count : length guesses ≡ guess_count (lane_of batch lane)
  pub each : (context call n : ℕ) → OpensOn batch context lane call n
      → Guessed batch (ciphers context) (journals context) lane call n
      (guess_at (lane_of batch lane) guesses call)
