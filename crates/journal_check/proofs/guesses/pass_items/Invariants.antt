use Rattle.std.proofs.Common.{◌≡◌, ◌≢◌, ◌++◌, ℕ, List, length, map, drop}
use Rattle.std.specs.Prelude.{slice_index}
use Rattle.call_places.specs.declared.entries.Place.{Place}
use Rattle.context_books.specs.Histories.{marks_at}
use Rattle.journal_check.specs.Passing.{due_at, Reaches}
use Rattle.journal_check.specs.Walks.{run_in, left_in}
use Rattle.journal_check.proofs.guesses.pass_items.Given as goal

abbrev pub invariant-places : goal.invariant-places
invariant-places l = record {
  left : (ps more : List Place) → length ps ≡ l.count → left_in l.walk l.initial.cursors l.context ≡ ps ++ more
      → left_in l.walk l.cursors l.context ≡ drop l._place ps ++ more;
  found : (ps more : List Place) → length ps ≡ l.count → left_in l.walk l.initial.cursors l.context ≡ ps ++ more
      → map (due_at (run_in l.walk.checked) l.context) ps ≡ l.numbers.items ++ map (due_at (run_in l.walk.checked) l.context) (drop l._place ps);
  reach : Reaches l.walk.lane (marks_at l.walk.checked.journals.now l.context) (slice_index l.initial.cursors l.context)
      → Reaches l.walk.lane (marks_at l.walk.checked.journals.now l.context) (slice_index l.cursors l.context);
  others : (d : ℕ) → d ≢ l.context → slice_index l.cursors d ≡ slice_index l.initial.cursors d;
  cursors : length l.cursors ≡ length l.walk.checked.journals.now;
}
