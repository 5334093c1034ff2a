-- The verdict on a result: the first thing that is wrong with it, or that it is one that the plan may
-- be answered with.
use Rattle.std.specs.Prelude.{ℕ, ◌≡◌, ◌<◌, Bool, true, List, length, map, Option, Some, None, Result, Ok, Err}
use Rattle.std.specs.List.{AllPairs}
use Rattle.call_places.specs.declared.entries.Mark.{Mark}
use Rattle.hpke_context.specs.Contexts.{ContextView}
use Rattle.context_books.specs.Batches.{Batch}
use Rattle.context_books.specs.Histories.{HasLowerStamp, marks_at, places}
use Rattle.context_books.specs.Legal.{Legal}
use Rattle.batch_plans.specs.declared.plan.Plan.{Plan}
use Rattle.batch_plans.specs.ReplyText.{has_stamps}
use Rattle.context_books.specs.Runs.{Run, LegalFor, asks_of, run_along}
use Rattle.result_lines.specs.declared.told.GuessLine.{GuessLine}
use Rattle.result_lines.specs.Told.{ToldView}
use Rattle.result_lines.specs.declared.verdicts.Verdict.{Verdict}
use Rattle.result_lines.specs.declared.verdicts.Verdict.TheVariants as verdicts
use Rattle.result_lines.specs.Replies.{all_replies, wrong_reply}
use Rattle.result_lines.specs.Guesses.{wrong_guesses}

-- the journals and the guesses that a result tells, as a run of the plan
abbrev pub run_told : Plan → List (Option ContextView) → ToldView → Run
run_told plan contexts told =
    run_along plan contexts told.journals
    (map (map (λ (told : GuessLine). told.guess.guess)) told.lanes)

-- ---- each journal by itself

-- the journal of a context is legal, and where there are stamps they rise
pub record IsJournal (stamps : Bool) (batch : Batch) (context : ℕ) (marks : List Mark) : Type 0 where
  pub legal : Legal batch context (places marks)
  pub rise : stamps ≡ true → AllPairs HasLowerStamp marks

-- those of the first contexts, so many, are so
abbrev pub AreJournals : Bool → Batch → List (List Mark) → ℕ → Type 0
AreJournals stamps batch journals n =
    (context : ℕ) → context < n → IsJournal stamps batch context (marks_at journals context)

-- that of this context is the first that isn't
pub record IsFirstBroken (stamps : Bool) (batch : Batch) (journals : List (List Mark)) (context : ℕ)
    : Type 0 where
  pub there : context < length journals
  pub before : AreJournals stamps batch journals context
  pub broken : ¬ IsJournal stamps batch context (marks_at journals context)

-- ---- the first that is wrong of the journals, their stamps, the replies and the guesses

abbrev pub IsVerdictOn : Run → Bool → ToldView → Verdict → Type 0
IsVerdictOn run stamps told (verdicts.Journal context) =
    IsFirstBroken stamps (asks_of run) run.journals context
IsVerdictOn run stamps told verdicts.Stamps =
    AreJournals stamps (asks_of run) run.journals (length run.journals)
    × ¬ LegalFor stamps (asks_of run) run.journals
IsVerdictOn run stamps told (verdicts.Reply line) =
    LegalFor stamps (asks_of run) run.journals
    × (wrong_reply told.replies (all_replies run) ≡ Some line)
IsVerdictOn run stamps told (verdicts.Guess line) =
    LegalFor stamps (asks_of run) run.journals
    × (wrong_reply told.replies (all_replies run) ≡ None)
    × (wrong_guesses run 0 told.lanes ≡ Some line)
IsVerdictOn run stamps told verdicts.Legal =
    LegalFor stamps (asks_of run) run.journals
    × (wrong_reply told.replies (all_replies run) ≡ None)
    × (wrong_guesses run 0 told.lanes ≡ None)
IsVerdictOn run stamps told other = ⊥

-- a line that has no form comes first
abbrev pub IsVerdictBy : Plan → List (Option ContextView) → Result ToldView ℕ → Verdict → Type 0
IsVerdictBy plan contexts (Err line) verdict = verdict ≡ verdicts.Form line
IsVerdictBy plan contexts (Ok told) verdict =
    IsVerdictOn (run_told plan contexts told) (has_stamps plan.version) told verdict
