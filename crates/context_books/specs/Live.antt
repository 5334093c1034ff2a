-- What a plan is due whose lanes add and retire contexts while they are served. Each time that a lane
-- adds a context, retires it or looks it up for a call stands as a note in one list, the table, which
-- tells whether the context could be called there. A call that finds its context is the call of a
-- plan whose contexts stay; of the others no context serves any.
use Rattle.std.specs.Prelude.{ℕ, ◌≡◌, ◌≢◌, ◌↔◌, ◌+◌, ◌-◌, ◌*◌, ◌<◌, ◌&&◌, ◌||◌, nat_lt, Bool, true, false, if◌then◌else◌, List, [], ◌∷◌, ◌++◌, length, map, flat_map, Contains, Option, Some, None, slice_get, slice_index_or}
use Rattle.std.specs.List.{AllPairs, concat, list_any}
use Rattle.call_places.specs.declared.entries.Act.{Act}
use Rattle.call_places.specs.declared.entries.Act.TheVariants as acts
use Rattle.call_places.specs.declared.entries.Step.TheVariants.{Note}
use Rattle.call_places.specs.declared.entries.Entry.{Entry}
use Rattle.call_places.specs.declared.entries.Mark.{Mark}
use Rattle.call_places.specs.declared.entries.Place.{Place}
use Rattle.call_places.specs.Orders.{StampsRise, IsBefore}
use Rattle.call_places.specs.Notes.{AreLive}
use Rattle.hpke_context.specs.Contexts.{ContextView}
use Rattle.context_books.specs.Batches.{Batch, place}
use Rattle.context_books.specs.Legal.{is_same_place}
use Rattle.context_books.specs.Histories.{entry_places, LegalMarks, AreAllFrom0, HasLowerStamp, mark, stamps, marks_at}
use Rattle.context_books.specs.Guesses.{AllGuessed}
use Rattle.batch_plans.specs.declared.plan.Plan.{Plan}
use Rattle.batch_plans.specs.declared.plan.CallLine.{CallLine}
use Rattle.batch_plans.specs.declared.plan.CallLine.TheVariants.{Add, Retire}
use Rattle.batch_plans.specs.declared.replies.KeyReply.{KeyReply}
use Rattle.batch_plans.specs.declared.replies.ContextReply.{ContextReply}
use Rattle.batch_plans.specs.declared.replies.ContextReply.TheVariants as contexts
use Rattle.batch_plans.specs.declared.replies.ContextRefusal.TheVariants as set_ups
use Rattle.batch_plans.specs.declared.replies.CallRefusal.TheVariants as refusals
use Rattle.batch_plans.specs.Limits.{first_name}
use Rattle.batch_plans.specs.Calls.{context_of}
use Rattle.batch_plans.specs.Names.{line_count, at_position}
use Rattle.batch_plans.specs.Lines.{added_line, retired_line, refused_line}
use Rattle.batch_plans.specs.ReplyText.{all_lines, numbered}
use Rattle.batch_plans.specs.LiveText.{tells_live, live_lines}
use Rattle.context_books.specs.Standing.{standing_at}
use Rattle.context_books.specs.Asks.{cipher_at}
use Rattle.context_books.specs.Runs.{Run, run_along, asks_of, journal_of, guesses_of, call_lines}

-- ---- which calls are noted

-- what a call does, and to which name
pub record Noting : Type 0 where
  pub act : Act
  pub name : ℕ

-- a name that no line adds is not noted
abbrev pub noting_of : Plan → Act → ℕ → Option Noting
noting_of plan act name =
    if nat_lt name plan.added then Some (record { act = act; name = name }) else None

-- a call on `+K` looks K up
abbrev pub looking : Plan → ℕ → Option Noting
looking plan context =
    if nat_lt context first_name then None else noting_of plan acts.Look (context - first_name)

-- a context is added that stands
abbrev pub adding : Option ContextView → ℕ → Option Noting
adding None name = None
adding (Some context) name = Some (record { act = acts.Add; name = name })

abbrev pub noting : Plan → List (Option ContextView) → CallLine → Option Noting
noting plan standing (Add name) = adding (standing_at standing (line_count plan + name)) name
noting plan standing (Retire name) = noting_of plan acts.Retire name
noting plan standing call = looking plan (context_of call)

abbrev pub noting_in : Plan → List (Option ContextView) → Option CallLine → Option Noting
noting_in plan standing None = None
noting_in plan standing (Some call) = noting plan standing call

-- the place of a call that is noted: it has one note, at its first item
pub record IsNoted (plan : Plan) (standing : List (Option ContextView)) (p : Place) (n : Noting)
    : Type 0 where
  pub first : p.item ≡ 0
  pub noting_is : noting_in plan standing (slice_get (slice_index_or plan.lanes p.lane []) p.call)
      ≡ Some n

-- ---- the table

pub record LegalTable (plan : Plan) (standing : List (Option ContextView)) (notes : List Entry)
    : Type 0 where
  -- each call that is noted has a note, and there is no other
  pub noted : (p : Place) → Contains (entry_places notes) p
      ↔ ((n : Noting) × IsNoted plan standing p n)
  -- it has one
  pub once : AllPairs (λ p q. p ≢ q) (entry_places notes)
  -- which says what the call does
  pub acts : (e : Entry) (n : Noting) → Contains notes e → IsNoted plan standing e.place n
      → (live : Bool) × (e.step ≡ Note n.name n.act live)
  -- and whether the name was live after the notes before
  pub live : AreLive notes
  -- the stamps rise
  pub rise : StampsRise notes

-- the note of this place tells that the name was live
abbrev pub was_live : List Entry → Place → Bool
was_live notes p = list_any (λ e. is_same_place e.place p && tells_live e.step) notes

-- ---- the calls as they are served

-- The call on the place of its context. A call on a name that wasn't live keeps its number, which no
-- context has: it is refused as a call on a context that isn't there.
abbrev pub looked_up : Plan → List Entry → ℕ → ℕ → CallLine → CallLine
looked_up plan notes lane number call =
    if nat_lt (context_of call) first_name || was_live notes (place lane number 0)
    then at_position plan call else call

-- the plan whose calls are these
abbrev pub looked_up_plan : Plan → List Entry → Plan
looked_up_plan plan notes =
    record plan {
      lanes = numbered (λ lane calls. numbered (looked_up plan notes lane) 0 calls) 0 plan.lanes;
    }

-- what a reply depends on: the plan, the replies to its contexts and those that stand, the journals,
-- the guesses, and the table
pub record LiveRun : Type 0 where
  pub plan : Plan
  pub replies : List ContextReply
  pub standing : List (Option ContextView)
  pub journals : List (List Mark)
  pub guesses : List (List ℕ)
  pub notes : List Entry

-- the run of a plan along these journals, with these guesses and this table
abbrev pub live_run_along : Plan → List ContextReply → List (Option ContextView) → List (List Mark)
    → List (List ℕ) → List Entry → LiveRun
live_run_along plan replies standing journals guesses notes =
    record {
      plan = plan;
      replies = replies;
      standing = standing;
      journals = journals;
      guesses = guesses;
      notes = notes;
    }

-- the run of the calls as they are served
abbrev pub run_of : LiveRun → Run
run_of live =
    run_along (looked_up_plan live.plan live.notes) live.standing live.journals live.guesses

-- ---- the lines of a call

-- `added`, or why the context wasn't set up (RFC 9180, 5.1, VerifyPSKInputs)
abbrev pub add_line : Option ContextReply → List ℕ
add_line (Some (contexts.Refused set_ups.PskPair)) = refused_line refusals.PskPair
add_line (Some (contexts.Refused set_ups.PskExtra)) = refused_line refusals.PskExtra
add_line (Some (contexts.Refused set_ups.PskMissing)) = refused_line refusals.PskMissing
add_line other = added_line

-- `retired` where the name was live
abbrev pub retire_line : Bool → List ℕ
retire_line true = retired_line
retire_line false = refused_line refusals.NoContext

abbrev pub live_call_lines : LiveRun → ℕ → ℕ → CallLine → List (List ℕ)
live_call_lines live lane number (Add name) =
    add_line (slice_get live.replies (line_count live.plan + name)) ∷ []
live_call_lines live lane number (Retire name) =
    retire_line (was_live live.notes (place lane number 0)) ∷ []
live_call_lines live lane number call =
    call_lines (run_of live) lane number (looked_up live.plan live.notes lane number call)

abbrev pub live_lane_lines : LiveRun → ℕ → List CallLine → List (List ℕ)
live_lane_lines live lane calls = all_lines (numbered (live_call_lines live lane) 0 calls)

-- ---- the whole reply

abbrev pub live_run_text : List KeyReply → LiveRun → List ℕ
live_run_text keys live =
    concat (live_lines (line_count live.plan) keys live.replies
    (numbered (live_lane_lines live) 0 live.plan.lanes) live.journals live.notes)

-- ---- which tables, journals and guesses there may be

-- In a lane a call has two numbers: at the first stands its note, and at the second its places.
abbrev pub note_mark : Entry → Mark
note_mark e = mark (place e.place.lane (2 * e.place.call) e.place.item) e.stamp

abbrev pub call_mark : Mark → Mark
call_mark m = mark (place m.place.lane (2 * m.place.call + 1) m.place.item) m.stamp

-- the places of all journals, and the notes of the table
abbrev pub events : List (List Mark) → List Entry → List Mark
events journals notes = flat_map (map call_mark) journals ++ map note_mark notes

-- The journals of all contexts and the table: the stamps merge them into one history.
pub record LiveHistory (batch : Batch) (journals : List (List Mark)) (notes : List Entry)
    : Type 0 where
  pub each : (context : ℕ) → LegalMarks batch context (marks_at journals context)
  -- all stamps together are the numbers from 0 on, each once
  pub stamped : AreAllFrom0 (stamps (events journals notes))
  -- in a lane stamps rise: by call, from a call's note to its places, and by item
  pub in_order : (m k : Mark) → Contains (events journals notes) m → Contains (events journals notes) k
      → m.place.lane ≡ k.place.lane → IsBefore m.place k.place → HasLowerStamp m k

-- each context has its journal, each lane its guesses; the table is legal, and one history with the
-- journals; each guess may have been made
pub record IsAllowedLive (live : LiveRun) : Type 0 where
  pub journals : length live.journals ≡ length live.plan.contexts
  pub lanes : length live.guesses ≡ length live.plan.lanes
  pub table : LegalTable live.plan live.standing live.notes
  pub history : LiveHistory (asks_of (run_of live)) live.journals live.notes
  pub guessed : (lane : ℕ) → lane < length live.plan.lanes
      → AllGuessed (asks_of (run_of live)) (cipher_at live.standing) (journal_of (run_of live)) lane
      (guesses_of (run_of live) lane)

-- ---- calls on added contexts

-- the call of this place has a note: it looked the name up, and found it live
pub record FoundLive (notes : List Entry) (p : Place) (name : ℕ) : Type 0 where
  pub note : Entry
  pub noted : Contains notes note
  pub at : note.place ≡ place p.lane p.call 0
  pub step : note.step ≡ Note name acts.Look true
