-- A showing of two lanes on one context. Lane 1 opens a message while lane 0, which has guessed the
-- number 0, waits with an opening of two.
use Rattle.std.specs.Prelude.{ℕ, zero, suc, if◌then◌else◌, List, [], ◌∷◌}
use Rattle.call_places.specs.declared.entries.Place.{Place}
use Rattle.call_places.specs.declared.entries.Entry.{Entry}
use Rattle.call_places.specs.declared.entries.Step.TheVariants.{Opened}
use Rattle.hpke_context.specs.Answers.{Answer, Opened_at}
use Rattle.context_books.specs.Batches.{Batch, ToOpen, ToOpenAll, place}
use Rattle.context_books.specs.Legal.{is_same_place}
use Rattle.context_books.specs.Entries.{entry}
use Rattle.context_books.specs.Rows.{message}
use Rattle.lane_workers.specs.Showing.{Showing}

abbrev pub overtaken : Batch
overtaken = (ToOpenAll 0 (message 1 ∷ message 2 ∷ []) ∷ []) ∷ (ToOpen 0 [] (0 ∷ []) ∷ []) ∷ []

abbrev pub all_entries : List Entry
all_entries =
    entry (place 1 0 0) 0 Opened ∷ entry (place 0 0 0) 1 Opened ∷ entry (place 0 0 1) 2 Opened ∷ []

-- lane 1 has seen the first entry alone
abbrev pub seen_by : ℕ → ℕ → List Entry
seen_by zero zero = all_entries
seen_by zero (suc context) = []
seen_by (suc zero) zero = entry (place 1 0 0) 0 Opened ∷ []
seen_by (suc zero) (suc context) = []
seen_by (suc (suc lane)) context = []

abbrev pub reply_to : Place → Answer
reply_to p =
    if is_same_place p (place 1 0 0) then Opened_at 0 []
    else if is_same_place p (place 0 0 0) then Opened_at 1 []
    else Opened_at 2 []

-- lane 0's guess missed both of its items
abbrev pub of_lane_0 : ℕ → ℕ → List ℕ
of_lane_0 n zero = n ∷ []
of_lane_0 n (suc lane) = []

abbrev pub shown : Showing
shown = record {
  seen = seen_by;
  books = all_entries ∷ [];
  replies = reply_to;
  guesses = of_lane_0 0;
  misses = of_lane_0 2;
}
