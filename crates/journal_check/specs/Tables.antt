-- ---- for the proofs: the table, as a journal of calls that are two each
use Rattle.std.specs.Prelude.{ℕ, ◌&&◌, nat_lt, Bool, List, [], ◌∷◌, ◌++◌, length, map, Option}
use Rattle.std.specs.List.{list_all}
use Rattle.call_places.specs.declared.entries.Entry.{Entry}
use Rattle.call_places.specs.declared.entries.Mark.{Mark}
use Rattle.hpke_context.specs.Contexts.{ContextView}
use Rattle.batch_plans.specs.declared.plan.Plan.{Plan}
use Rattle.batch_plans.specs.declared.plan.CallLine.{CallLine}
use Rattle.context_books.specs.Live.{noting, LiveRun, live_run_along}
use Rattle.context_books.specs.LiveChecks.{note_ask, note_mark, call_mark}
use Rattle.journal_check.specs.declared.asks.Asked.{Asked}
use Rattle.journal_check.specs.Asks.{size_in, size_of}

-- the plan with its calls as they were written
abbrev pub written : Plan → List (List CallLine) → Plan
written plan calls = record plan { lanes = calls }

-- what the table and the journals of a run depend on
abbrev pub live_along : Plan → List (Option ContextView) → List (List CallLine) → List (List Mark)
    → List Entry → LiveRun
live_along plan standing calls journals notes =
    live_run_along (written plan calls) [] standing journals [] notes

-- ---- each call as two

-- of each call of a lane what its note asks, and then what it asks as it was served
abbrev pub pairs_by : Plan → List (Option ContextView) → ℕ → List CallLine → List CallLine
    → List Asked
pairs_by plan standing table [] served = []
pairs_by plan standing table (call ∷ calls) [] = []
pairs_by plan standing table (call ∷ calls) (own ∷ served) =
    size_of (note_ask table (noting plan standing call)) ∷ size_in standing own
    ∷ pairs_by plan standing table calls served

-- those of all lanes
abbrev pub all_pairs_by : Plan → List (Option ContextView) → ℕ → List (List CallLine)
    → List (List CallLine) → List (List Asked)
all_pairs_by plan standing table [] served = []
all_pairs_by plan standing table (calls ∷ lanes) [] = []
all_pairs_by plan standing table (calls ∷ lanes) (own ∷ served) =
    pairs_by plan standing table calls own ∷ all_pairs_by plan standing table lanes served

-- how many calls each lane has
abbrev pub lane_lengths : List (List CallLine) → List ℕ
lane_lengths lanes = map (λ calls. length calls) lanes

-- ---- places

-- the place is of a call that a lane may have
abbrev pub is_low : Mark → Bool
is_low m = nat_lt m.place.call 65536

abbrev pub is_low_note : Entry → Bool
is_low_note e = nat_lt e.place.call 65536

abbrev pub are_low : List (List Mark) → List Entry → Bool
are_low journals notes = list_all (list_all is_low) journals && list_all is_low_note notes

-- the journals, and the table behind them, of calls that are two each
abbrev pub with_marks : List (List Mark) → List Entry → List (List Mark)
with_marks journals notes = map (map call_mark) journals ++ (map note_mark notes ∷ [])
