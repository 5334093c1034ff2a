-- ---- for the proofs: calls as they were served, with a table or without
use Rattle.std.specs.Prelude.{ℕ, ◌≡◌, ◌+◌, ◌<◌, Bool, true, false, List, [], ◌∷◌, slice_get, slice_index_or, Option, Some, None}
use Rattle.std.specs.List.{list_all}
use Rattle.call_places.specs.declared.entries.Mark.{Mark}
use Rattle.hpke_context.specs.Contexts.{ContextView}
use Rattle.context_books.specs.Batches.{place}
use Rattle.batch_plans.specs.declared.plan.Plan.{Plan}
use Rattle.batch_plans.specs.declared.plan.CallLine.{CallLine}
use Rattle.batch_plans.specs.declared.replies.KeyReply.{KeyReply}
use Rattle.batch_plans.specs.declared.replies.ContextReply.{ContextReply}
use Rattle.batch_plans.specs.declared.plan.CallLine.TheVariants.{Add, Retire}
use Rattle.batch_plans.specs.Names.{line_count}
use Rattle.batch_plans.specs.ReplyText.{all_lines, numbered, has_stamps}
use Rattle.context_books.specs.Asks.{batch_of}
use Rattle.context_books.specs.Live.{LiveRun, looked_up_plan, was_live, add_line, retire_line}
use Rattle.context_books.specs.LiveChecks.{tells_act, is_live_history}
use Rattle.context_books.specs.Runs.{Run}
use Rattle.result_lines.specs.declared.verdicts.Verdict.{Verdict}
use Rattle.result_lines.specs.declared.verdicts.Verdict.TheVariants as verdicts
use Rattle.result_lines.specs.Journals.{broken_journal, is_one_history}
use Rattle.result_lines.specs.LiveVerdicts.{called, live_told}
use Rattle.result_lines.specs.Replies.{reply_lines}
use Rattle.result_lines.specs.Tables.{table_told}
use Rattle.result_lines.specs.Told.{ToldView, told_by}
use Rattle.result_lines.specs.ToldLive.{told_live_by}
use Rattle.journal_check.specs.declared.tables.Table.{Table}
use Rattle.journal_check.specs.Tables.{written, live_along}
use Rattle.result_lines.specs.Computed.{by_stamps, by_form, verdict_on, is_table, by_table, live_by_form, live_verdict_on}

-- the plan's calls are those of the table as they were served, and its notes say what the calls do
pub record IsServedBy (plan : Plan) (contexts : List (Option ContextView)) (table : Table) : Type 0 where
  pub lanes : plan.lanes ≡ (looked_up_plan (written plan table.calls.now) table.notes.now).lanes
  pub acts : list_all (tells_act (written plan table.calls.now) contexts) table.notes.now ≡ true

abbrev pub IsServed : Plan → List (Option ContextView) → Option Table → Type 0
IsServed plan contexts None = Unit {0}
IsServed plan contexts (Some table) = IsServedBy plan contexts table

-- what the table and the journals of a run depend on
abbrev pub table_along : Plan → List (Option ContextView) → Table → List (List Mark) → LiveRun
table_along plan contexts table journals =
    live_along plan contexts table.calls.now journals table.notes.now

-- ---- the replies to calls

-- where there is a table, calls add and retire contexts: `live` says whether the call's name was live
abbrev pub changed_lines : Table → Run → Bool → ℕ → ℕ → CallLine → List (List ℕ)
changed_lines table run live lane number (Add name) =
    add_line (slice_get table.adds.now (line_count run.plan + name)) ∷ []
changed_lines table run live lane number (Retire name) = retire_line live ∷ []
changed_lines table run live lane number call = reply_lines run lane number call

abbrev pub due_by : Option Table → Run → Bool → ℕ → ℕ → CallLine → List (List ℕ)
due_by None run live lane number call = reply_lines run lane number call
due_by (Some table) run live lane number call = changed_lines table run live lane number call

-- a note tells that the name of this call was live
abbrev pub live_at : Option Table → ℕ → ℕ → Bool
live_at None lane number = false
live_at (Some table) lane number = was_live table.notes.now (place lane number 0)

-- of so many calls of a lane whether a note tells that
abbrev pub AreLives : Option Table → ℕ → ℕ → List Bool → Type 0
AreLives table lane count lives = (i : ℕ) → i < count
    → slice_index_or lives i false ≡ live_at table lane i

abbrev pub due_lines : Option Table → Run → ℕ → ℕ → CallLine → List (List ℕ)
due_lines table run lane number call = due_by table run (live_at table lane number) lane number call

abbrev pub lane_due : Option Table → Run → ℕ → List CallLine → List (List ℕ)
lane_due table run lane calls = all_lines (numbered (due_lines table run lane) 0 calls)

abbrev pub all_due : Option Table → Run → List (List ℕ)
all_due table run = all_lines (numbered (lane_due table run) 0 run.plan.lanes)

-- ---- the verdict

abbrev pub stamps_by : Plan → Option Table → Bool
stamps_by plan None = has_stamps plan.version
stamps_by plan (Some table) = true

-- the number of the context at this place
abbrev pub named_by : Plan → Option Table → ℕ → ℕ
named_by plan None at = at
named_by plan (Some table) at = called (line_count plan) at

abbrev pub by_broken : Plan → Option Table → Option ℕ → Verdict → Verdict
by_broken plan table None later = later
by_broken plan table (Some at) later = verdicts.Journal (named_by plan table at)

-- the table and the stamps, or what later parts say
abbrev pub by_history : Plan → List (Option ContextView) → Option Table → List (List Mark) → Verdict
    → Verdict
by_history plan contexts None journals later =
    by_stamps (is_one_history (has_stamps plan.version) (batch_of plan contexts) journals) later
by_history plan contexts (Some table) journals later =
    by_table (is_table (table_along plan contexts table journals))
    (by_stamps (is_live_history (table_along plan contexts table journals)) later)

-- the journals before them
abbrev pub by_order : Plan → List (Option ContextView) → Option Table → List (List Mark) → Verdict
    → Verdict
by_order plan contexts table journals later =
    by_broken plan table
    (broken_journal (stamps_by plan table) (batch_of plan contexts) 0 journals)
    (by_history plan contexts table journals later)

abbrev pub verdict_by : Plan → List (Option ContextView) → Option Table → ToldView → Verdict
verdict_by plan contexts None told = verdict_on plan contexts told
verdict_by plan contexts (Some table) told =
    live_verdict_on
    (live_told (written plan table.calls.now) table.adds.now contexts table.notes.now told) told

-- the verdict on a text, where these are the replies to the key lines and to the contexts
abbrev pub verdict_over : Plan → List KeyReply → List ContextReply → List (Option ContextView)
    → List ℕ → Verdict
verdict_over plan keys replies standing text =
    by_form plan standing (told_by plan keys replies standing text)

-- as a result of a plan whose lanes add and retire contexts
abbrev pub live_verdict_over : Plan → List KeyReply → List ContextReply → List (Option ContextView)
    → List ℕ → Verdict
live_verdict_over plan keys replies standing text =
    let notes = table_told plan standing text in
    live_by_form plan replies standing notes
    (told_live_by plan keys replies standing notes text)
