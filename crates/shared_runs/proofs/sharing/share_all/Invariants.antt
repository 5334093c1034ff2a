use Rattle.std.proofs.Common.{◌≡◌, ◌<◌, ◌≤◌, ℕ, List, [], length, map, drop, vec_capacity}
use Rattle.std.specs.Prelude.{sum, slice_index_or}
use Rattle.stamp_counter.specs.Seats.{fresh_seats}
use Rattle.context_books.specs.Standing.{standing_at}
use Rattle.lane_workers.specs.Handing.{list_at}
use Rattle.lane_workers.specs.Turns.{shared_at}
use Rattle.shared_runs.specs.Sharing.{Shares}
use Rattle.shared_runs.proofs.sharing.share_all.Given as goal

abbrev pub invariant-contexts : goal.invariant-contexts
invariant-contexts l = record {
  done : (counter : List ℕ) → l.initial.seats ≡ fresh_seats counter (map sum l.all) → (n : ℕ)
      → n < l.number → Shares (standing_at l.initial.contexts n) (slice_index_or l.all n []) counter
      (shared_at l.shared.items n) (list_at l.passes.items n);
  left : (n : ℕ) → l.number ≤ n → standing_at l.contexts n ≡ standing_at l.initial.contexts n;
  seats : (counter : List ℕ) → l.initial.seats ≡ fresh_seats counter (map sum l.all)
      → l.seats ≡ fresh_seats counter (drop l.number (map sum l.all));
  count : length l.shared.items ≡ l.number;
  lists_count : length l.passes.items ≡ l.number;
  room : length l.contexts ≤ vec_capacity l.shared;
  lists_room : length l.contexts ≤ vec_capacity l.passes;
}
