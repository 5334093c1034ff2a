-- The table and the journals as one history, and a test of both which computes. Each call stands for
-- two: the first asks for the call's note, on a context of its own behind all others, and the second
-- asks what the call asks. So the notes are a journal, and `LegalHistory` speaks of all.
use Rattle.std.specs.Prelude.{ℕ, ◌≡◌, ◌+◌, ◌==◌, ◌&&◌, Bool, true, false, not, List, [], ◌∷◌, ◌++◌, length, map, take, Contains, Option, Some, None, slice_get, slice_index_or}
use Rattle.std.specs.List.{list_all, range_with_len}
use Rattle.call_places.specs.declared.entries.Act.{Act}
use Rattle.call_places.specs.declared.entries.Act.TheVariants as acts
use Rattle.call_places.specs.declared.entries.Step.{Step}
use Rattle.call_places.specs.declared.entries.Step.TheVariants.{Note}
use Rattle.call_places.specs.declared.entries.Entry.{Entry}
use Rattle.call_places.specs.declared.entries.Mark.{Mark}
use Rattle.call_places.specs.Notes.{live_at}
use Rattle.hpke_context.specs.Contexts.{ContextView}
use Rattle.context_books.specs.Batches.{Batch, Ask, Nothing, ToSeal}
use Rattle.context_books.specs.Checks.{is_legal_history}
use Rattle.batch_plans.specs.declared.plan.Plan.{Plan}
use Rattle.batch_plans.specs.declared.plan.CallLine.{CallLine}
use Rattle.batch_plans.specs.ReplyText.{numbered}
use Rattle.context_books.specs.Asks.{ask_of}
use Rattle.context_books.specs.Live.{Noting, noting, noting_in, IsNoted, looked_up, looked_up_plan, LiveRun}
pub use Rattle.context_books.specs.Live.{note_mark, call_mark}

-- ---- each call as two

-- a call that is noted asks for one place in the table, and another one for none
abbrev pub note_ask : ℕ → Option Noting → Ask
note_ask table None = Nothing
note_ask table (Some n) = ToSeal table [] []

-- the calls of a lane, from this number on, each as its note and what it asks
abbrev pub pairs : (CallLine → Ask) → (ℕ → CallLine → Ask) → ℕ → List CallLine → List Ask
pairs note ask number [] = []
pairs note ask number (call ∷ calls) =
    note call ∷ ask number call ∷ pairs note ask (number + 1) calls

-- what the calls of a run ask as they are served, and before it their notes
abbrev pub asks_with_notes : LiveRun → Batch
asks_with_notes live =
    let table = length live.journals in
    numbered
    (λ lane calls. pairs (λ call. note_ask table (noting live.plan live.standing call))
    (λ number call. ask_of (looked_up_plan live.plan live.notes) live.standing
    (looked_up live.plan live.notes lane number call)) 0 calls) 0 live.plan.lanes

-- the journals, and the table behind them
abbrev pub with_table : LiveRun → List (List Mark)
with_table live = map (map call_mark) live.journals ++ (map note_mark live.notes ∷ [])

-- ---- what the notes say

-- each note of a call says what the call does
abbrev pub TellActs : Plan → List (Option ContextView) → List Entry → Type 0
TellActs plan standing notes = (e : Entry) (n : Noting) → Contains notes e
    → IsNoted plan standing e.place n → (live : Bool) × (e.step ≡ Note n.name n.act live)

abbrev pub is_same_act : Act → Act → Bool
is_same_act acts.Add acts.Add = true
is_same_act acts.Retire acts.Retire = true
is_same_act acts.Look acts.Look = true
is_same_act a b = false

-- the step is a note of this act and this name
abbrev pub notes_act : Act → ℕ → Step → Bool
notes_act act name (Note other does live) = (other == name) && is_same_act does act
notes_act act name step = false

abbrev pub tells_noting : Option Noting → Step → Bool
tells_noting None step = true
tells_noting (Some n) step = notes_act n.act n.name step

abbrev pub tells_act : Plan → List (Option ContextView) → Entry → Bool
tells_act plan standing e = tells_noting
    (noting_in plan standing (slice_get (slice_index_or plan.lanes e.place.lane []) e.place.call))
    e.step

abbrev pub is_same_truth : Bool → Bool → Bool
is_same_truth true b = b
is_same_truth false b = not b

-- the step is a note, and tells whether its name was live after these notes
abbrev pub tells_live_after : List Entry → Step → Bool
tells_live_after before (Note name act live) = is_same_truth live (live_at before name)
tells_live_after before step = false

abbrev pub tells_live_at : List Entry → ℕ → Option Entry → Bool
tells_live_at notes i None = true
tells_live_at notes i (Some e) = tells_live_after (take i notes) e.step

-- ---- the test

-- the table is legal, and one history with the journals
abbrev pub is_live_history : LiveRun → Bool
is_live_history live =
    is_legal_history (asks_with_notes live) (with_table live)
    && list_all (tells_act live.plan live.standing) live.notes
    && list_all (λ i. tells_live_at live.notes i (slice_get live.notes i))
    (range_with_len 0 (length live.notes))
