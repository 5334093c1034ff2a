-- The verdict on what a result tells, by what was found of it.
use Rattle.std.proofs.Common.{◌≡◌, ℕ, true, List, length, map, Option, Some, None, refl, sym, ap, ◌∙◌, subst}
use Rattle.std.proofs.lemmas.List.{length-map}
use Rattle.call_places.specs.declared.entries.Mark.{Mark}
use Rattle.hpke_context.specs.Contexts.{ContextView}
use Rattle.batch_plans.specs.declared.plan.Plan.{Plan}
use Rattle.batch_plans.specs.Within.{IsWithinLimits}
use Rattle.batch_plans.specs.Names.{line_count}
use Rattle.context_books.specs.Asks.{batch_of}
use Rattle.context_books.specs.Live.{LiveRun, looked_up_plan}
use Rattle.context_books.specs.LiveChecks.{is_live_history}
use Rattle.context_books.specs.Runs.{Run}
use Rattle.result_lines.specs.declared.told.GuessLine.{GuessLine}
use Rattle.result_lines.specs.declared.verdicts.Verdict.{Verdict}
use Rattle.result_lines.specs.declared.verdicts.Verdict.TheVariants.{Legal, Journal}
use Rattle.result_lines.specs.Guesses.{wrong_guesses}
use Rattle.result_lines.specs.Journals.{broken_journal}
use Rattle.result_lines.specs.LiveVerdicts.{live_told, live_replies}
use Rattle.result_lines.specs.Replies.{wrong_reply}
use Rattle.result_lines.specs.Told.{ToldView}
use Rattle.result_lines.specs.Verdicts.{run_told}
use Rattle.journal_check.specs.declared.runs.JournalRun.{JournalRun}
use Rattle.journal_check.specs.declared.tables.Table.{Table}
use Rattle.journal_check.specs.Piles.{IsKept}
use Rattle.journal_check.specs.Runs.{AreRuns, AreFor}
use Rattle.journal_check.specs.Served.{IsServed, IsServedBy, all_due, stamps_by, named_by, by_broken, by_history, by_order, verdict_by}
use Rattle.journal_check.specs.Tables.{written}
use Rattle.journal_check.specs.Walks.{WasRun}
use Rattle.journal_check.proofs.LiveServed.{replies_served, replies_plain}
use Rattle.journal_check.proofs.SoundRuns.{are_for, was_run}
use Rattle.result_lines.specs.Computed.{by_journal, by_stamps, by_reply, by_guess, or_later, is_table, by_live_journal, by_table}

-- ---- what is judged after the journals, the table and the stamps

abbrev pub by_lines : Plan → List (Option ContextView) → Option Table → ToldView → Verdict
by_lines plan contexts table told =
    by_reply (wrong_reply told.replies (all_due table (run_told plan contexts told))) (by_guess (wrong_guesses (run_told plan contexts told) 0 told.lanes))

-- a run of the plan, with the guesses that were told
abbrev pub run_with : Plan → List (Option ContextView) → List (List Mark) → List (List GuessLine) → Run
run_with plan contexts journals guesses =
    record {
      plan = plan;
      contexts = contexts;
      journals = journals;
      guesses = map (map (λ (told : GuessLine). told.guess.guess)) guesses;
    }

-- ---- the parts of a verdict

journal_broken : (plan : Plan) (broken : Option ℕ) (later : Verdict) → by_journal broken later ≡ by_broken plan None broken later
journal_broken plan None later = refl
journal_broken plan (Some at) later = refl

live_broken : (plan : Plan) (table : Table) (broken : Option ℕ) (later : Verdict) → by_live_journal (line_count plan) broken later ≡ by_broken plan (Some table) broken later
live_broken plan table None later = refl
live_broken plan table (Some at) later = refl

plain_parts : (plan : Plan) (contexts : List (Option ContextView)) (told : ToldView)
    → verdict_by plan contexts None told ≡ by_order plan contexts None told.journals (by_lines plan contexts None told)
plain_parts plan contexts told =
    journal_broken plan (broken_journal (stamps_by plan None) (batch_of plan contexts) 0 told.journals) _
    ∙ ap (λ (lines : List (List ℕ)). by_order plan contexts None told.journals (by_reply (wrong_reply told.replies lines) (by_guess (wrong_guesses (run_told plan contexts told) 0 told.lanes))))
    (sym (replies_plain (run_told plan contexts told)))

module _ (plan : Plan) (contexts : List (Option ContextView)) (table : Table) (told : ToldView) (served : IsServedBy plan contexts table) where
  abbrev whole : LiveRun
  whole = live_told (written plan table.calls.now) table.adds.now contexts table.notes.now told

  abbrev with_plan : Plan → Run
  with_plan p = run_told p contexts told

  plan_is : looked_up_plan (written plan table.calls.now) table.notes.now ≡ plan
  plan_is = (λ i. record plan { lanes = sym served.lanes i })

  -- the table and the stamps come before the lines
  abbrev from_table : Plan → List (List ℕ) → Verdict
  from_table p lines =
      by_live_journal (line_count plan) (broken_journal true (batch_of p contexts) 0 told.journals)
      (by_table (is_table whole) (by_stamps (is_live_history whole) (by_reply (wrong_reply told.replies lines) (by_guess (wrong_guesses (with_plan p) 0 told.lanes)))))

  live_parts : verdict_by plan contexts (Some table) told ≡ by_order plan contexts (Some table) told.journals (by_lines plan contexts (Some table) told)
  live_parts =
      ap (λ (p : Plan). from_table p (live_replies whole)) plan_is
      ∙ ap (from_table plan)
      (sym (replies_served plan contexts table told.journals (map (map (λ (told : GuessLine). told.guess.guess)) told.lanes)) ∙ ap (λ (p : Plan). all_due (Some table) (with_plan p)) plan_is)
      ∙ live_broken plan table (broken_journal true (batch_of plan contexts) 0 told.journals) _

parts : (plan : Plan) (contexts : List (Option ContextView)) (table : Option Table) (told : ToldView) → IsServed plan contexts table
    → verdict_by plan contexts table told ≡ by_order plan contexts table told.journals (by_lines plan contexts table told)
parts plan contexts None told served = plain_parts plan contexts told
parts plan contexts (Some table) told served = live_parts plan contexts table told served

-- ---- a journal is broken, or none is

other_verdicts : (at : ℕ) → Journal at ≡ Legal → ⊥
other_verdicts at e = cc

none_broken : (plan : Plan) (contexts : List (Option ContextView)) (table : Option Table) (journals : List (List Mark)) (broken : Option ℕ)
    → by_broken plan table broken (by_history plan contexts table journals Legal) ≡ Legal → broken ≡ None
none_broken plan contexts table journals None is = refl
none_broken plan contexts table journals (Some at) is = absurd (other_verdicts (named_by plan table at) is)

module _ (plan : Plan) (contexts : List (Option ContextView)) (table : Option Table) (told : ToldView) (served : IsServed plan contexts table)
    (found : List (List Mark)) (kept : IsKept (batch_of plan contexts) told.journals found) (wrong : Option Verdict)
    (judged : (later : Verdict) → by_order plan contexts table found later ≡ or_later wrong later) where
  -- what the journals that were kept leave to later parts
  front : verdict_by plan contexts table told ≡ or_later wrong (by_lines plan contexts table told)
  front = parts plan contexts table told served ∙ go (broken_journal (stamps_by plan table) (batch_of plan contexts) 0 told.journals) refl ∙ judged (by_lines plan contexts table told)
    where
      go : (first : Option ℕ) → broken_journal (stamps_by plan table) (batch_of plan contexts) 0 told.journals ≡ first
          → by_order plan contexts table told.journals (by_lines plan contexts table told) ≡ by_order plan contexts table found (by_lines plan contexts table told)
      go None none = ap (λ (js : List (List Mark)). by_order plan contexts table js (by_lines plan contexts table told)) (sym (kept.whole (stamps_by plan table) none))
      go (Some at) some =
          ap (λ (o : Option ℕ). by_broken plan table o (by_history plan contexts table told.journals (by_lines plan contexts table told))) some
          ∙ sym (ap (λ (o : Option ℕ). by_broken plan table o (by_history plan contexts table found (by_lines plan contexts table told))) (kept.broken (stamps_by plan table) ∙ some))

  pub found_early : (verdict : Verdict) → wrong ≡ Some verdict → verdict ≡ verdict_by plan contexts table told
  found_early verdict is = sym (front ∙ ap (λ (o : Option Verdict). or_later o (by_lines plan contexts table told)) is)

  module _ (within : IsWithinLimits plan) (size : length contexts ≡ length told.journals) (is : wrong ≡ None) where
    none : broken_journal (stamps_by plan table) (batch_of plan contexts) 0 told.journals ≡ None
    none =
        sym (kept.broken (stamps_by plan table))
        ∙ none_broken plan contexts table found (broken_journal (stamps_by plan table) (batch_of plan contexts) 0 found) (judged Legal ∙ ap (λ (o : Option Verdict). or_later o Legal) is)

    same : found ≡ told.journals
    same = kept.whole (stamps_by plan table) none

    pub each_for : AreFor plan contexts found
    each_for = subst (AreFor plan contexts) (sym same) (are_for plan contexts told.journals (stamps_by plan table) within none size)

    module _ (contexts2 : List (Option ContextView)) (journals2 : List (List Mark)) (guesses2 : List (List GuessLine)) (contexts_are : contexts2 ≡ contexts)
        (journals_are : journals2 ≡ found) (guesses_are : guesses2 ≡ told.lanes) where
      pub all_run : (runs2 runs : List JournalRun) → runs2 ≡ runs → length told.lanes ≡ length plan.lanes → length runs ≡ length found → AreRuns plan contexts found runs
          → WasRun (run_with plan contexts2 journals2 guesses2) runs2
      all_run runs2 runs runs_are lanes_size many are =
          subst (λ (rs : List JournalRun). WasRun (run_with plan contexts2 journals2 guesses2) rs) (sym runs_are)
          (subst (λ (gs : List (List GuessLine)). WasRun (run_with plan contexts2 journals2 gs) runs) (sym guesses_are)
          (subst (λ (js : List (List Mark)). WasRun (run_with plan contexts2 js told.lanes) runs) (sym (journals_are ∙ same))
          (subst (λ (cs : List (Option ContextView)). WasRun (run_with plan cs told.journals told.lanes) runs) (sym contexts_are)
          (was_run plan contexts told.journals (stamps_by plan table) within none (run_told plan contexts told).guesses runs
          (length-map told.lanes _ ∙ lanes_size) size (many ∙ ap length same) (subst (λ (js : List (List Mark)). AreRuns plan contexts js runs) same are)))))

      pub found_late : (verdict : Verdict)
          → verdict ≡ by_reply (wrong_reply told.replies (all_due table (run_with plan contexts2 journals2 guesses2))) (by_guess (wrong_guesses (run_with plan contexts2 journals2 guesses2) 0 guesses2))
          → verdict ≡ verdict_by plan contexts table told
      found_late verdict later =
          later
          ∙ (λ i. by_reply (wrong_reply told.replies (all_due table (run_with plan (contexts_are i) (now_told i) (guesses_are i))))
          (by_guess (wrong_guesses (run_with plan (contexts_are i) (now_told i) (guesses_are i)) 0 (guesses_are i))))
          ∙ sym (front ∙ ap (λ (o : Option Verdict). or_later o (by_lines plan contexts table told)) is)
        where
          now_told : journals2 ≡ told.journals
          now_told = journals_are ∙ same
