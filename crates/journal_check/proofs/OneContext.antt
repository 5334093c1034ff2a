-- The run of one of the contexts that a lane walks along.
use Rattle.std.proofs.Common.{◌≡◌, ℕ, ◌<◌, List, length, map, get_or, Some, ap, ◌∙◌, arith}
use Rattle.std.specs.Prelude.{slice_get}
use Rattle.std.proofs.lemmas.List.{length-map}
use Rattle.std.proofs.lemmas.Option.{slice_get-get_or}
use Rattle.call_places.specs.declared.entries.Place.{Place}
use Rattle.call_places.specs.declared.entries.Mark.{Mark}
use Rattle.context_books.specs.Histories.{places}
use Rattle.context_books.specs.Runs.{Run, place_line, journal_of}
use Rattle.journal_check.specs.declared.lane_walks.CheckedRun.{CheckedRun}
use Rattle.journal_check.specs.declared.runs.JournalRun.{JournalRun}
use Rattle.journal_check.specs.Passing.{due_at}
use Rattle.journal_check.specs.Walks.{IsRun, Stands, run_in}
use Rattle.journal_check.proofs.SoundRuns.{stands_low}

module _ (checked : CheckedRun) (is_run : IsRun checked) (c : ℕ) (stands : Stands checked c) where
  -- it has a journal, and that was run
  pub journal_there : c < length checked.journals.now
  journal_there =
      let low : c < length checked.contexts.now = stands_low checked.contexts.now c stands.0 stands.1 in
      let size = is_run.contexts_size in
      omega arith

  pub run_there : c < length checked.runs.now
  run_there =
      let low = journal_there in
      let many = is_run.runs_size in
      omega arith

module _ (checked : CheckedRun) (is_run : IsRun checked) (c : ℕ) (stands : Stands checked c) (d : JournalRun) where
  abbrev run : Run
  run = run_in checked

  there : slice_get checked.runs.now c ≡ Some (get_or checked.runs.now c d)
  there = slice_get-get_or checked.runs.now c d (run_there checked is_run c stands)

  pub lines_on : (get_or checked.runs.now c d).lines.items ≡ map (place_line run c) (journal_of run c)
  lines_on = is_run.lines c stands.0 (get_or checked.runs.now c d) stands.1 there

  pub numbers_on : (get_or checked.runs.now c d).numbers.items ≡ map (due_at run c) (journal_of run c)
  numbers_on = is_run.numbers c stands.0 (get_or checked.runs.now c d) stands.1 there

-- as many as its places
pub size_on : {X : Type 0} (f : Place → X) (xs : List X) (marks : List Mark) → xs ≡ map f (places marks) → length xs ≡ length marks
size_on f xs marks are = ap length are ∙ length-map (places marks) f ∙ length-map marks _
