use Rattle.std.proofs.Common.{◌≡◌, ℕ, List, take, map}
use Rattle.std.specs.Prelude.{slice_index}
use Rattle.context_books.proofs.counting.column.Given as goal

abbrev pub invariant-rows : goal.invariant-rows
invariant-rows l =
    l.counts.items ≡ map (λ (row : List ℕ). slice_index row l.number) (take l.row-index l.rows)
