-- The verdict on a result whose lanes add and retire contexts: the first thing that is wrong with it,
-- or that it is one that the plan may be answered with.
use Rattle.std.specs.Prelude.{ℕ, ◌≡◌, ◌+◌, ◌-◌, nat_lt, true, List, ◌∷◌, [], length, map, slice_get, Option, Some, None, Result, Ok, Err, if◌then◌else◌}
use Rattle.std.specs.List.{AllPairs}
use Rattle.call_places.specs.declared.entries.Entry.{Entry}
use Rattle.hpke_context.specs.Contexts.{ContextView}
use Rattle.context_books.specs.Batches.{place}
use Rattle.context_books.specs.Histories.{entry_places}
use Rattle.context_books.specs.Legal.{IsInLaneOrder}
use Rattle.batch_plans.specs.declared.plan.Plan.{Plan}
use Rattle.batch_plans.specs.declared.plan.CallLine.{CallLine}
use Rattle.batch_plans.specs.declared.plan.CallLine.TheVariants.{Add, Retire}
use Rattle.batch_plans.specs.declared.replies.ContextReply.{ContextReply}
use Rattle.batch_plans.specs.Limits.{first_name}
use Rattle.batch_plans.specs.Names.{line_count}
use Rattle.batch_plans.specs.ReplyText.{all_lines, numbered}
use Rattle.context_books.specs.Live.{LiveRun, LegalTable, LiveHistory, run_of, was_live, looked_up, add_line, retire_line, live_run_along}
use Rattle.context_books.specs.Runs.{asks_of}
use Rattle.result_lines.specs.declared.told.GuessLine.{GuessLine}
use Rattle.result_lines.specs.Told.{ToldView}
use Rattle.result_lines.specs.declared.verdicts.Verdict.{Verdict}
use Rattle.result_lines.specs.declared.verdicts.Verdict.TheVariants as verdicts
use Rattle.result_lines.specs.Guesses.{wrong_guesses}
use Rattle.result_lines.specs.Replies.{reply_lines, wrong_reply}
use Rattle.result_lines.specs.Verdicts.{AreJournals, IsFirstBroken}

-- the journals and the guesses that a result tells, with the notes of its table
abbrev pub live_told : Plan → List ContextReply → List (Option ContextView) → List Entry → ToldView
    → LiveRun
live_told plan replies standing notes told =
    live_run_along plan replies standing told.journals
    (map (map (λ (told : GuessLine). told.guess.guess)) told.lanes) notes

-- ---- the replies that are due along the journals, without what openings guessed

abbrev pub live_reply_lines : LiveRun → ℕ → ℕ → CallLine → List (List ℕ)
live_reply_lines live lane number (Add name) =
    add_line (slice_get live.replies (line_count live.plan + name)) ∷ []
live_reply_lines live lane number (Retire name) =
    retire_line (was_live live.notes (place lane number 0)) ∷ []
live_reply_lines live lane number call =
    reply_lines (run_of live) lane number (looked_up live.plan live.notes lane number call)

abbrev pub live_lane_replies : LiveRun → ℕ → List CallLine → List (List ℕ)
live_lane_replies live lane calls = all_lines (numbered (live_reply_lines live lane) 0 calls)

abbrev pub live_replies : LiveRun → List (List ℕ)
live_replies live = all_lines (numbered (live_lane_replies live) 0 live.plan.lanes)

-- ---- the first that is wrong of the journals, the table, the stamps, the replies and the guesses

-- the number by which calls name the context at this place, where so many are of context lines
abbrev pub called : ℕ → ℕ → ℕ
called lines at = if nat_lt at lines then at else first_name + (at - lines)

-- each journal is legal by itself, and its stamps rise
abbrev pub AreLiveJournals : LiveRun → Type 0
AreLiveJournals live =
    AreJournals true (asks_of (run_of live)) live.journals (length live.journals)

-- the table is legal by itself, and each lane's notes stand in the order of its calls
pub record IsTable (live : LiveRun) : Type 0 where
  pub legal : LegalTable live.plan live.standing live.notes
  pub in_order : AllPairs IsInLaneOrder (entry_places live.notes)

-- the table is legal, and one history with the journals
pub record IsLegalLive (live : LiveRun) : Type 0 where
  pub table : LegalTable live.plan live.standing live.notes
  pub history : LiveHistory (asks_of (run_of live)) live.journals live.notes

abbrev pub IsLiveVerdictOn : LiveRun → ToldView → Verdict → Type 0
IsLiveVerdictOn live told (verdicts.Journal name) =
    (context : ℕ) × (name ≡ called (line_count live.plan) context)
    × IsFirstBroken true (asks_of (run_of live)) live.journals context
IsLiveVerdictOn live told verdicts.Table =
    AreLiveJournals live × ¬ IsTable live
IsLiveVerdictOn live told verdicts.Stamps =
    AreLiveJournals live × IsTable live
    × ¬ LiveHistory (asks_of (run_of live)) live.journals live.notes
IsLiveVerdictOn live told (verdicts.Reply line) =
    IsLegalLive live × (wrong_reply told.replies (live_replies live) ≡ Some line)
IsLiveVerdictOn live told (verdicts.Guess line) =
    IsLegalLive live × (wrong_reply told.replies (live_replies live) ≡ None)
    × (wrong_guesses (run_of live) 0 told.lanes ≡ Some line)
IsLiveVerdictOn live told verdicts.Legal =
    IsLegalLive live × (wrong_reply told.replies (live_replies live) ≡ None)
    × (wrong_guesses (run_of live) 0 told.lanes ≡ None)
IsLiveVerdictOn live told other = ⊥

-- a line that has no form comes first
abbrev pub IsLiveVerdictBy : Plan → List ContextReply → List (Option ContextView) → List Entry
    → Result ToldView ℕ → Verdict → Type 0
IsLiveVerdictBy plan replies standing notes (Err line) verdict = verdict ≡ verdicts.Form line
IsLiveVerdictBy plan replies standing notes (Ok told) verdict =
    IsLiveVerdictOn (live_told plan replies standing notes told) told verdict
