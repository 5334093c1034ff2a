-- What a run reads of its source.
use Rattle.std.specs.Prelude.{◌≡◌, ◌⊎◌, ◌≤◌, ◌+◌, ℕ, List, length, Option}
use Rattle.std.specs.Io.KnownBytes.{Consumes, IsAtEnd}
use Rattle.batch_plans.specs.Limits.{most_input}

-- the most bytes that are taken: one more than a batch may have
abbrev pub input_limit : ℕ
input_limit = most_input + 1

-- the bytes that were left, up to their end or to the most that are taken
abbrev pub IsInput : Option (List ℕ) → Option (List ℕ) → List ℕ → Type 0
IsInput old new input =
    Consumes old new input
    × (length input ≤ input_limit)
    × (IsAtEnd new ⊎ (length input ≡ input_limit))
