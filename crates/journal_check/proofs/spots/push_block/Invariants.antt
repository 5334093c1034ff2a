use Rattle.std.proofs.Common.{◌≡◌, ◌-◌, ◌++◌}
use Rattle.context_books.specs.Batches.{block, spots}
use Rattle.journal_check.proofs.spots.push_block.Given as goal

abbrev pub invariant-items : goal.invariant-items
invariant-items l =
    l.spots.items ++ spots l.context (block l.lane l.call l.item (l.count - l.item)) ≡ l.initial.spots.items ++ spots l.context (block l.lane l.call 0 l.count)
