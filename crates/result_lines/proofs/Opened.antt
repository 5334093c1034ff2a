-- What the openings of a lane print
use Rattle.std.specs.Prelude.{ℕ, ◌≡◌, ◌+◌, List, [], ◌∷◌, length, take, slice_index}
use Rattle.context_books.specs.Batches.{Ask, Nothing, ToSeal, ToOpen, ToOpenAll, lane_of}
use Rattle.context_books.specs.Guesses.{missed_in, guess_count, guess_at}
use Rattle.batch_plans.specs.declared.replies.Batch.{Batch}
use Rattle.context_books.specs.Asks.{cipher_at}
use Rattle.context_books.specs.Runs.{Run, asks_of, journal_of, guesses_of}

-- the guess of an opening of n messages, and how many of them it missed
abbrev pub opened_with : Run → ℕ → ℕ → ℕ → ℕ → ℕ → Batch
opened_with run lane number context n guess = record {
  guess = guess;
  missed = missed_in (asks_of run) (cipher_at run.contexts context) (journal_of run context) lane
      number n guess;
}

-- those of these calls of a lane, from this number on, with these guesses
abbrev pub opened : Run → ℕ → ℕ → List Ask → List ℕ → List Batch
opened run lane number [] guesses = []
opened run lane number (Nothing ∷ asks) guesses = opened run lane (number + 1) asks guesses
opened run lane number (ToSeal context aad text ∷ asks) guesses =
    opened run lane (number + 1) asks guesses
opened run lane number (ToOpen context aad ct ∷ asks) guesses =
    opened run lane (number + 1) asks guesses
opened run lane number (ToOpenAll context messages ∷ asks) [] = []
opened run lane number (ToOpenAll context messages ∷ asks) (guess ∷ guesses) =
    opened_with run lane number context (length messages) guess
    ∷ opened run lane (number + 1) asks guesses

-- the guesses of these calls of a lane, from this number on, are these
abbrev pub Keeps : Run → ℕ → ℕ → List Ask → List ℕ → Type 0
Keeps run lane number asks guesses = (i : ℕ)
    → guess_at (lane_of (asks_of run) lane) (guesses_of run lane) (number + i)
    ≡ slice_index guesses (guess_count (take i asks))
