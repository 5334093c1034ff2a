-- The core over the small batch of context_books: two lanes, with an opening of two messages.
use Rattle.std.specs.Prelude.{ℕ, List, [], ◌∷◌, map}
use Rattle.call_places.specs.declared.entries.Mark.{Mark}
use Rattle.context_books.specs.Histories.{journals_of}
use Rattle.context_books.specs.Rows.{toy, two_lanes}
use Rattle.context_core.specs.Core.{Core, Lane, core}

abbrev pub after : List ℕ → Core
after schedule = core two_lanes (λ context. toy) schedule

abbrev pub journals_after : List ℕ → List (List Mark)
journals_after schedule = journals_of 2 (after schedule).history

-- by lane
abbrev pub guesses_after : List ℕ → List (List ℕ)
guesses_after schedule = map (λ (lane : Lane). lane.guesses) (after schedule).lanes

-- lane 0 has sealed, guessed and tested, and then lane 1 draws the place of its seal
abbrev pub seal_in_between : List ℕ
seal_in_between = 0 ∷ 0 ∷ 0 ∷ 0 ∷ 1 ∷ 0 ∷ []

-- lane 1 opens its message after lane 0 has guessed
abbrev pub overtaking : List ℕ
overtaking = 0 ∷ 0 ∷ 0 ∷ 1 ∷ 1 ∷ 1 ∷ 1 ∷ 1 ∷ []

-- lane 1 opens its message before lane 0 does anything
abbrev pub lane_1_first : List ℕ
lane_1_first = 1 ∷ 1 ∷ 1 ∷ 1 ∷ 1 ∷ []
