-- ---- for the proofs: how far a lane of the core is with its next call
use Rattle.std.specs.Prelude.{ℕ, ◌+◌, List, [], ◌∷◌, ◌++◌, drop}
use Rattle.context_books.specs.Batches.{Ask, Spot, asked}
use Rattle.context_core.specs.Core.{Check, Commit, Finish, Task, tasks, all_tasks, Lane}

pub data Stage : Type 0 where
  Fresh : Stage
  HasGuess : Stage
  HasTests : Stage
  HasPlaces : Stage

abbrev pub tasks_at : Stage → ℕ → List Ask → List Task
tasks_at stage call [] = []
tasks_at Fresh call (a ∷ rest) = all_tasks call (a ∷ rest)
tasks_at HasGuess call (a ∷ rest) = tasks call a (Check ∷ Commit ∷ Finish ∷ []) ++ all_tasks (call + 1) rest
tasks_at HasTests call (a ∷ rest) = tasks call a (Commit ∷ Finish ∷ []) ++ all_tasks (call + 1) rest
tasks_at HasPlaces call (a ∷ rest) = tasks call a (Finish ∷ []) ++ all_tasks (call + 1) rest

-- the places of the next call that stand already
abbrev pub placed : Stage → ℕ → ℕ → List Ask → List Spot
placed stage l call [] = []
placed Fresh l call (a ∷ rest) = []
placed HasGuess l call (a ∷ rest) = []
placed HasTests l call (a ∷ rest) = []
placed HasPlaces l call (a ∷ rest) = asked l call a

-- the lane of these calls, at this call and stage
abbrev pub lane_at : List Ask → ℕ → Stage → ℕ → List ℕ → Lane
lane_at asks call stage guess guesses = record { to_come = tasks_at stage call (drop call asks); guess = guess; guesses = guesses }
