use Rattle.std.proofs.Common.{◌≡◌, ◌<◌, ℕ, false, length, take}
use Rattle.std.specs.Prelude.{slice_index_or}
use Rattle.context_books.specs.Batches.{place}
use Rattle.context_books.specs.Live.{was_live}
use Rattle.result_lines.proofs.looking_up.live_calls.Given as goal

abbrev pub invariant-notes : goal.invariant-notes
invariant-notes l = record {
  size : length l.live.items ≡ l.count;
  each : (i : ℕ) → i < l.count
      → slice_index_or l.live.items i false ≡ was_live (take l.note-index l.notes) (place l.lane i 0);
}
