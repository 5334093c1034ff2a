use Rattle.std.proofs.Common.{◌≡◌, ◌≤◌, length, map, vec_capacity}
use Rattle.std.specs.List.{range_with_len}
use Rattle.context_core.specs.Preparing.{fresh_at}
use Rattle.context_core.proofs.preparing.books.Given as goal

abbrev pub invariant-contexts : goal.invariant-contexts
invariant-contexts l = record {
  done : l.books.items ≡ map (fresh_at l.plan l.contexts) (range_with_len 0 l.number);
  room : length l.contexts ≤ vec_capacity l.books;
}
