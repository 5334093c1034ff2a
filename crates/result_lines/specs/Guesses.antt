-- Which guesses a result may tell.
use Rattle.std.specs.Prelude.{ℕ, ◌+◌, ◌==◌, ◌&&◌, nat_le, Bool, List, [], ◌∷◌, length, Option, Some, None, if◌then◌else◌}
use Rattle.context_books.specs.Batches.{Ask, Nothing, ToSeal, ToOpen, ToOpenAll, lane_of}
use Rattle.context_books.specs.Guesses.{least_guess, greatest_guess, missed_in}
use Rattle.batch_plans.specs.declared.replies.Batch.{Batch}
use Rattle.context_books.specs.Asks.{cipher_at}
use Rattle.context_books.specs.Runs.{Run, asks_of, journal_of}
use Rattle.result_lines.specs.declared.told.GuessLine.{GuessLine}

-- the guess of an opening of so many messages may have been made, and it missed so many of them
abbrev pub is_right : Run → ℕ → ℕ → ℕ → ℕ → Batch → Bool
is_right run context lane number n told =
    let c = cipher_at run.contexts context in
    nat_le (least_guess (asks_of run) c (journal_of run context) lane number) told.guess
    && nat_le told.guess (greatest_guess (asks_of run) c (journal_of run context) lane number)
    && (told.missed == missed_in (asks_of run) c (journal_of run context) lane number n told.guess)

-- the line of the first guess that isn't right of these calls of a lane, from this number on
abbrev pub wrong_guess : Run → ℕ → ℕ → List Ask → List GuessLine → Option ℕ
wrong_guess run lane number [] guesses = None
wrong_guess run lane number (Nothing ∷ asks) guesses =
    wrong_guess run lane (number + 1) asks guesses
wrong_guess run lane number (ToSeal context aad text ∷ asks) guesses =
    wrong_guess run lane (number + 1) asks guesses
wrong_guess run lane number (ToOpen context aad ct ∷ asks) guesses =
    wrong_guess run lane (number + 1) asks guesses
wrong_guess run lane number (ToOpenAll context messages ∷ asks) [] = None
wrong_guess run lane number (ToOpenAll context messages ∷ asks) (told ∷ guesses) =
    if is_right run context lane number (length messages) told.guess
    then wrong_guess run lane (number + 1) asks guesses
    else Some told.number

-- the first that was found
abbrev pub or_else : Option ℕ → Option ℕ → Option ℕ
or_else None later = later
or_else (Some line) later = Some line

-- of all lanes, from this number on
abbrev pub wrong_guesses : Run → ℕ → List (List GuessLine) → Option ℕ
wrong_guesses run lane [] = None
wrong_guesses run lane (guesses ∷ more) =
    or_else (wrong_guess run lane 0 (lane_of (asks_of run) lane) guesses)
    (wrong_guesses run (lane + 1) more)
