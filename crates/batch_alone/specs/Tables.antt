-- ---- for the proofs: the table of a plan whose lanes are served one after another, each call's note before its places:
-- the notes, and the stamps of the places of calls. A stamp is how many notes and places stand before.
use Rattle.std.specs.Prelude.{ℕ, ◌+◌, ◌||◌, nat_lt, Bool, false, if◌then◌else◌, List, [], ◌∷◌, ◌++◌, length, Option, Some, None, slice_index_or}
use Rattle.std.specs.List.{range_with_len}
use Rattle.call_places.specs.declared.entries.Entry.{Entry}
use Rattle.call_places.specs.declared.entries.Mark.{Mark}
use Rattle.call_places.specs.Notes.{note_entry, live_at}
use Rattle.hpke_context.specs.Contexts.{ContextView}
use Rattle.context_books.specs.Batches.{place, items_in}
use Rattle.context_books.specs.Histories.{mark}
use Rattle.batch_plans.specs.declared.plan.Plan.{Plan}
use Rattle.batch_plans.specs.declared.plan.CallLine.{CallLine}
use Rattle.batch_plans.specs.Calls.{context_of}
use Rattle.batch_plans.specs.Limits.{first_name}
use Rattle.batch_plans.specs.Names.{at_position}
use Rattle.context_books.specs.Asks.{ask_of}
use Rattle.context_books.specs.Live.{Noting, noting}

-- the notes so far, and the stamps of the places that calls were given so far
pub record SoFar : Type 0 where
  pub notes : List Entry
  pub stamps : List ℕ

-- the stamp that comes next
abbrev pub next_stamp : SoFar → ℕ
next_stamp t = length t.notes + length t.stamps

-- ---- one call

-- its note tells that the name is live
abbrev pub tells : Option Noting → SoFar → Bool
tells None t = false
tells (Some n) t = live_at t.notes n.name

-- the call as it is served
abbrev pub served : Plan → List (Option ContextView) → CallLine → SoFar → CallLine
served plan standing call t =
    if nat_lt (context_of call) first_name || tells (noting plan standing call) t
    then at_position plan call else call

-- with its note
abbrev pub with_note : ℕ → ℕ → Option Noting → SoFar → SoFar
with_note lane number None t = t
with_note lane number (Some n) t =
    record t {
      notes = t.notes ++ note_entry (place lane number 0) (next_stamp t) n.name n.act
          (live_at t.notes n.name) ∷ [];
    }

-- with so many places
abbrev pub with_places : ℕ → SoFar → SoFar
with_places count t =
    record t { stamps = t.stamps ++ range_with_len (next_stamp t) count }

abbrev pub after_call : Plan → List (Option ContextView) → ℕ → ℕ → CallLine → SoFar → SoFar
after_call plan standing lane number call t =
    with_places (length (items_in (ask_of plan standing (served plan standing call t))))
    (with_note lane number (noting plan standing call) t)

-- ---- all calls

-- the calls of a lane, from this number on
abbrev pub after_calls : Plan → List (Option ContextView) → ℕ → ℕ → List CallLine → SoFar → SoFar
after_calls plan standing lane number [] t = t
after_calls plan standing lane number (call ∷ calls) t =
    after_calls plan standing lane (number + 1) calls (after_call plan standing lane number call t)

-- the lanes, from this one on
abbrev pub after_lanes : Plan → List (Option ContextView) → ℕ → List (List CallLine) → SoFar → SoFar
after_lanes plan standing lane [] t = t
after_lanes plan standing lane (calls ∷ lanes) t =
    after_lanes plan standing (lane + 1) lanes (after_calls plan standing lane 0 calls t)

abbrev pub nothing : SoFar
nothing = record { notes = []; stamps = [] }

-- the table of a plan
abbrev pub table_of : Plan → List (Option ContextView) → SoFar
table_of plan standing = after_lanes plan standing 0 plan.lanes nothing

-- ---- journals

-- a place whose stamp counts the places before it alone, with the stamp that counts the notes too
abbrev pub restamped : List ℕ → Mark → Mark
restamped stamps m = mark m.place (slice_index_or stamps m.stamp 0)
