-- What follows where no journal is broken.
use Rattle.std.proofs.Common.{◌≡◌, ℕ, ◌<◌, Bool, List, [], ◌∷◌, length, map, Option, Some, None, sym, ap, ◌∙◌, subst, inl, inr, arith}
use Rattle.std.specs.Prelude.{slice_index_or}
use Rattle.std.specs.List.{All}
use Rattle.std.proofs.lemmas.Bool.{cases_lt}
use Rattle.std.proofs.lemmas.List.{get_or_past}
use Rattle.call_places.specs.declared.entries.Mark.{Mark}
use Rattle.hpke_context.specs.Answers.{Item, run as run_items}
use Rattle.hpke_context.specs.Contexts.{ContextView, cipher_of}
use Rattle.context_books.specs.Batches.{Ask, on, items_of}
use Rattle.context_books.specs.Merging.{all_asked}
use Rattle.context_books.specs.Entries.{numbers_from}
use Rattle.context_books.specs.Histories.{marks_at, places}
use Rattle.context_books.specs.Legal.{Legal}
use Rattle.context_books.proofs.Legals.{lane_is}
use Rattle.context_books.specs.Lists.{In}
use Rattle.batch_plans.specs.declared.plan.Plan.{Plan}
use Rattle.batch_plans.specs.Within.{IsWithinLimits}
use Rattle.context_books.specs.Standing.{standing_at}
use Rattle.context_books.specs.Asks.{batch_of, cipher_in, cipher_at}
use Rattle.context_books.specs.Runs.{Run, asks_of, journal_of, answer_line, run_along}
use Rattle.journal_check.specs.declared.runs.JournalRun.{JournalRun}
use Rattle.result_lines.specs.Journals.{broken_journal}
use Rattle.journal_check.specs.Passing.{AreNumbersOf, AreLegal}
use Rattle.journal_check.specs.Runs.{items_at, AreRuns, AreFor}
use Rattle.journal_check.specs.Walks.{AreRepliesOf, HaveLanes, WasRun}
use Rattle.result_lines.proofs.Limited.{IsLine, lines_of_limits}
use Rattle.result_lines.proofs.LegalJournals.{first_iff}
use Rattle.journal_check.proofs.Asking.{from_asked, asks_of_lane}
use Rattle.journal_check.proofs.ServedPlaces.{asked_served, items_same}
use Rattle.journal_check.proofs.LegalRuns.{all_served, lines_of_run, numbers_of_run}

-- a context that stands has a number
pub stands_low : (contexts : List (Option ContextView)) (c : ℕ) (context : ContextView) → standing_at contexts c ≡ Some context → c < length contexts
stands_low contexts c context stands = elim (cases_lt c (length contexts)) [
  | inl low ↦ low
  | inr high ↦ absurd (let clash : None ≡ Some context = sym (get_or_past contexts c None high) ∙ stands in cc)
]

place_in : (m : Mark) (marks : List Mark) → In m marks → In m.place (places marks)
place_in m [] here = absurd here
place_in m (k ∷ marks) here = elim here [ inl same ↦ inl (ap (λ (x : Mark). x.place) same) | inr later ↦ inr (place_in m marks later) ]

-- ---- what their runs are

module _ (run : Run) (runs : List JournalRun) (are : AreRuns run.plan run.contexts run.journals runs) (legal : AreLegal run) where
  items_are : (c : ℕ) (context : ContextView) → standing_at run.contexts c ≡ Some context → items_at run.plan (journal_of run c) ≡ items_of (asks_of run) (journal_of run c)
  items_are c context stands = items_same run.plan run.contexts c (journal_of run c) (all_served (asks_of run) c (journal_of run c) (legal c context stands))

  pub are_replies : AreRepliesOf run runs
  are_replies c context done stands at =
      (are c context done stands at).lines
      ∙ ap (λ (xs : List Item). map answer_line (run_items (cipher_of context) 0 xs)) (items_are c context stands)
      ∙ ap (λ (o : Option ContextView). map answer_line (run_items (cipher_in o) 0 (items_of (asks_of run) (journal_of run c)))) (sym stands)
      ∙ lines_of_run (asks_of run) c (cipher_at run.contexts c) (journal_of run c) (legal c context stands)

  pub are_numbers : AreNumbersOf run runs
  are_numbers c context done stands at =
      (are c context done stands at).numbers
      ∙ ap (λ (xs : List Item). numbers_from (cipher_of context) 0 xs) (items_are c context stands)
      ∙ ap (λ (o : Option ContextView). numbers_from (cipher_in o) 0 (items_of (asks_of run) (journal_of run c))) (sym stands)
      ∙ numbers_of_run (asks_of run) c (cipher_at run.contexts c) (journal_of run c) (legal c context stands)

-- ---- each journal is legal

module _ (plan : Plan) (contexts : List (Option ContextView)) (journals : List (List Mark)) (stamps : Bool) (within : IsWithinLimits plan)
    (none : broken_journal stamps (batch_of plan contexts) 0 journals ≡ None) where
  pub each_legal : (c : ℕ) → c < length journals → Legal (batch_of plan contexts) c (places (marks_at journals c))
  each_legal c low = ((first_iff stamps (batch_of plan contexts) journals None).0 none c low).legal

  lines_of : (lane : ℕ) → All (IsLine plan) (slice_index_or plan.lanes lane [])
  lines_of lane = elim (cases_lt lane (length plan.lanes)) [
    | inl low ↦ lines_of_limits plan lane [] within low
    | inr high ↦ subst (All (IsLine plan)) (sym (get_or_past plan.lanes lane [] high)) (λ k d lt. absurd (omega arith))
  ]

  have_lanes : (guesses : List (List ℕ)) → HaveLanes (run_along plan contexts journals guesses)
  have_lanes guesses lane c low =
      lane_is (batch_of plan contexts) c (places (marks_at journals c)) (each_legal c low) lane
      ∙ ap (λ (asks : List Ask). on c (all_asked lane 0 asks)) (asks_of_lane plan contexts lane)
      ∙ sym (from_asked plan contexts c lane 0 (slice_index_or plan.lanes lane []) (lines_of lane))

  pub legal_at : length contexts ≡ length journals → (c : ℕ) (context : ContextView) → standing_at contexts c ≡ Some context
      → Legal (batch_of plan contexts) c (places (marks_at journals c))
  legal_at size c context stands = each_legal c (let low = stands_low contexts c context stands in omega arith)

  pub are_for : length contexts ≡ length journals → AreFor plan contexts journals
  are_for size c context m stands here =
      let served = all_served (batch_of plan contexts) c (places (marks_at journals c)) (legal_at size c context stands) m.place (place_in m (marks_at journals c) here) in
      let a = asked_served plan contexts m.place c served.0 served.1 in
      record { asked = a.0; at = a.1; can = a.3 context stands }

  -- each journal was run
  pub was_run : (guesses : List (List ℕ)) (runs : List JournalRun) → length guesses ≡ length plan.lanes → length contexts ≡ length journals → length runs ≡ length journals
      → AreRuns plan contexts journals runs → WasRun (run_along plan contexts journals guesses) runs
  was_run guesses runs lanes_size size many are =
      let run = run_along plan contexts journals guesses in
      record {
        within = within;
        lanes_size = lanes_size;
        contexts_size = size;
        runs_size = many;
        legal = legal_at size;
        lines = are_replies run runs are (legal_at size);
        numbers = are_numbers run runs are (legal_at size);
        own = have_lanes guesses;
      }
