-- The verdict as it is computed, by tests of journals, tables and guesses. The laws say that it is the
-- first thing that is wrong.
use Rattle.std.specs.Prelude.{ℕ, ◌&&◌, Bool, true, false, List, length, map, slice_get, Option, Some, None, Result, Ok, Err}
use Rattle.std.specs.List.{list_all, range_with_len}
use Rattle.call_places.specs.declared.entries.Entry.{Entry}
use Rattle.hpke_context.specs.Contexts.{ContextView}
use Rattle.batch_plans.specs.declared.plan.Plan.{Plan}
use Rattle.batch_plans.specs.declared.replies.ContextReply.{ContextReply}
use Rattle.batch_plans.specs.Names.{line_count}
use Rattle.batch_plans.specs.ReplyText.{has_stamps}
use Rattle.context_books.specs.Live.{LiveRun, run_of}
use Rattle.context_books.specs.LiveChecks.{asks_with_notes, note_mark, tells_act, tells_live_at, is_live_history}
use Rattle.context_books.specs.Runs.{asks_of}
use Rattle.result_lines.specs.Told.{ToldView}
use Rattle.result_lines.specs.declared.verdicts.Verdict.{Verdict}
use Rattle.result_lines.specs.declared.verdicts.Verdict.TheVariants as verdicts
use Rattle.result_lines.specs.Guesses.{wrong_guesses}
use Rattle.result_lines.specs.Journals.{broken_journal, is_journal, is_one_history}
use Rattle.result_lines.specs.Replies.{all_replies, wrong_reply}
use Rattle.result_lines.specs.LiveVerdicts.{called, live_replies, live_told}
use Rattle.result_lines.specs.Verdicts.{run_told}

-- ---- of `run`

-- a guess that isn't right, or nothing
abbrev pub by_guess : Option ℕ → Verdict
by_guess None = verdicts.Legal
by_guess (Some line) = verdicts.Guess line

-- a reply that isn't the one that is due, or what the guesses say
abbrev pub by_reply : Option ℕ → Verdict → Verdict
by_reply None later = later
by_reply (Some line) later = verdicts.Reply line

-- stamps that make no history, or what the replies say
abbrev pub by_stamps : Bool → Verdict → Verdict
by_stamps true later = later
by_stamps false later = verdicts.Stamps

-- a journal that isn't legal, or what the stamps say
abbrev pub by_journal : Option ℕ → Verdict → Verdict
by_journal None later = later
by_journal (Some context) later = verdicts.Journal context

-- the verdict that was found, or what later parts say
abbrev pub or_later : Option Verdict → Verdict → Verdict
or_later None later = later
or_later (Some wrong) later = wrong

-- the first that is wrong of the journals, their stamps, the replies and the guesses
abbrev pub verdict_on : Plan → List (Option ContextView) → ToldView → Verdict
verdict_on plan contexts told =
    let run = run_told plan contexts told in
    let stamps = has_stamps plan.version in
    by_journal (broken_journal stamps (asks_of run) 0 told.journals)
    (by_stamps (is_one_history stamps (asks_of run) told.journals)
    (by_reply (wrong_reply told.replies (all_replies run))
    (by_guess (wrong_guesses run 0 told.lanes))))

-- a line that has no form comes first
abbrev pub by_form : Plan → List (Option ContextView) → Result ToldView ℕ → Verdict
by_form plan contexts (Err line) = verdicts.Form line
by_form plan contexts (Ok told) = verdict_on plan contexts told

-- ---- of `live`

-- It is legal: it has the notes that calls make, with stamps that rise; each says what its call does,
-- and whether its name was live after the notes before.
abbrev pub is_table : LiveRun → Bool
is_table live =
    is_journal true (asks_with_notes live) (length live.journals) (map note_mark live.notes)
    && list_all (tells_act live.plan live.standing) live.notes
    && list_all (λ i. tells_live_at live.notes i (slice_get live.notes i))
    (range_with_len 0 (length live.notes))

-- a journal that isn't legal, or what later parts say
abbrev pub by_live_journal : ℕ → Option ℕ → Verdict → Verdict
by_live_journal lines None later = later
by_live_journal lines (Some at) later = verdicts.Journal (called lines at)

-- a table that isn't legal, or what the stamps say
abbrev pub by_table : Bool → Verdict → Verdict
by_table true later = later
by_table false later = verdicts.Table

-- the first that is wrong of the journals, the table, the stamps, the replies and the guesses
abbrev pub live_verdict_on : LiveRun → ToldView → Verdict
live_verdict_on live told =
    by_live_journal (line_count live.plan)
    (broken_journal true (asks_of (run_of live)) 0 live.journals)
    (by_table (is_table live)
    (by_stamps (is_live_history live)
    (by_reply (wrong_reply told.replies (live_replies live))
    (by_guess (wrong_guesses (run_of live) 0 told.lanes)))))

-- a line that has no form comes first
abbrev pub live_by_form : Plan → List ContextReply → List (Option ContextView) → List Entry
    → Result ToldView ℕ → Verdict
live_by_form plan replies standing notes (Err line) = verdicts.Form line
live_by_form plan replies standing notes (Ok told) =
    live_verdict_on (live_told plan replies standing notes told) told
