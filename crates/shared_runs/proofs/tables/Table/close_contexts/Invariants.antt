use Rattle.std.proofs.Common.{◌≡◌, ◌≤◌, length, vec_capacity, ℕ}
use Rattle.lane_workers.specs.Handing.{list_at}
use Rattle.lane_workers.specs.Turns.{shared_at}
use Rattle.shared_runs.proofs.Closed.{ClosedSoFar}
use Rattle.shared_runs.proofs.tables.Table.close_contexts.Given as goal

abbrev pub invariant-contexts : goal.invariant-contexts
invariant-contexts l = record {
  so_far : ClosedSoFar l.fn.self l.fn.left l.number l.books.items l.seat;
  contexts_later : (k : ℕ) → l.number ≤ k
      → shared_at l.contexts k ≡ shared_at l.fn.self.contexts k;
  passes_later : (k : ℕ) → l.number ≤ k
      → list_at l.passes.items k ≡ list_at l.fn.left.passes.items k;
  contexts_count : length l.contexts ≡ length l.fn.self.contexts;
  passes_count : length l.passes.items ≡ length l.fn.self.contexts;
  room : length l.fn.self.contexts ≤ vec_capacity l.books;
}
