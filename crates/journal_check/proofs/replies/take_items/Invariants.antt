use Rattle.std.proofs.Common.{◌≡◌, ◌≢◌, ◌++◌, ℕ, List, length, map, drop}
use Rattle.std.specs.Prelude.{slice_index}
use Rattle.call_places.specs.declared.entries.Place.{Place}
use Rattle.context_books.specs.Runs.{place_line}
use Rattle.result_lines.specs.Replies.{wrong_reply}
use Rattle.journal_check.specs.Walks.{run_in, left_in}
use Rattle.journal_check.proofs.replies.take_items.Given as goal

abbrev pub invariant-places : goal.invariant-places
invariant-places l = record {
  left : (ps more : List Place) → length ps ≡ l.count → left_in l.walk l.initial.cursors l.context ≡ ps ++ more
      → left_in l.walk l.cursors l.context ≡ drop l._place ps ++ more;
  held : (ps more : List Place) (rest : List (List ℕ)) → length ps ≡ l.count → left_in l.walk l.initial.cursors l.context ≡ ps ++ more
      → wrong_reply l.initial.replies (map (place_line (run_in l.walk.checked) l.context) ps ++ rest)
      ≡ wrong_reply l.replies (map (place_line (run_in l.walk.checked) l.context) (drop l._place ps) ++ rest);
  others : (d : ℕ) → d ≢ l.context → slice_index l.cursors d ≡ slice_index l.initial.cursors d;
  cursors : length l.cursors ≡ length l.walk.checked.journals.now;
}
