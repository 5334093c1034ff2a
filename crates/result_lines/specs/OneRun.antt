-- What the text of a run tells of it.
use Rattle.std.specs.Prelude.{◌≡◌, ℕ, true}
use Rattle.batch_plans.specs.ReplyText.{has_stamps}
use Rattle.context_books.specs.Live.{LiveRun}
use Rattle.context_books.specs.Runs.{Run, journal_of}

-- two runs of one plan have the same guesses and the same places in their journals, and in version 2
-- the same stamps
pub record PrintTheSame (run other : Run) : Type 0 where
  pub guesses_are : other.guesses ≡ run.guesses
  pub places_are : (context : ℕ) → journal_of other context ≡ journal_of run context
  pub stamps_are : has_stamps run.plan.version ≡ true → other.journals ≡ run.journals

-- two runs of one plan whose lanes add and retire contexts are the same
pub record AreOneLiveRun (live other : LiveRun) : Type 0 where
  pub guesses_are : other.guesses ≡ live.guesses
  pub journals_are : other.journals ≡ live.journals
  pub notes_are : other.notes ≡ live.notes
