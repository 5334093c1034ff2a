-- ---- for the proofs of what serves lanes: how far a lane has come along a run
use Rattle.std.specs.Prelude.{ℕ, ◌≡◌, ◌++◌, List, [], length, take, slice_index_or}
use Rattle.call_places.specs.declared.entries.Place.{Place}
use Rattle.context_books.specs.Batches.{Batch, Ask, IsServed, items_in, context_in, block, place}
use Rattle.context_books.specs.Lists.{In}
use Rattle.batch_plans.specs.declared.plan.CallLine.{CallLine}
use Rattle.context_books.specs.Runs.{Run, asks_of, journal_of, lane_call_lines}

-- the calls of a lane of the run's plan
abbrev pub calls_of : Run → ℕ → List CallLine
calls_of run lane = slice_index_or run.plan.lanes lane []

-- the lines of the first calls of a lane
abbrev pub done_lines : Run → ℕ → ℕ → List (List ℕ)
done_lines run lane number = lane_call_lines run lane (take number (calls_of run lane))

-- each place of a list is one that the context serves
abbrev pub AllServed : Batch → ℕ → List Place → Type 0
AllServed batch context ps = (p : Place) → In p ps → IsServed batch context p

-- the places of what a call asks stand in the journal of its context behind this front; the places
-- of the front are served, and none of them is the call's
pub record StandsBehind (run : Run) (lane number : ℕ) (ask : Ask)
    (front : List Place) : Type 0 where
  pub after : List Place
  pub stands : journal_of run (context_in ask) ≡ front ++
      (block lane number 0 (length (items_in ask)) ++ after)
  pub served : AllServed (asks_of run) (context_in ask) front
  pub fresh : (item : ℕ) → In (place lane number item) front → ⊥
