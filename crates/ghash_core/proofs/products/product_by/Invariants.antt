use Rattle.std.proofs.Common.{◌≡◌, ◌≤◌, ◌+◌, ℕ, get_or}
use Rattle.ghash_core.specs.Rows.{wide, IsTable, sum_of_rows}
use Rattle.ghash_core.proofs.products.product_by.Given as goal

abbrev pub invariant-loop-j : goal.invariant-loop-j
invariant-loop-j l = record {
  sum : (h : ℕ) → IsTable l.table h → wide l.low l.high ≡ sum_of_rows l.j h l.x;
  empty : (k : ℕ) → l.j ≤ k + 1 → get_or l.high k 0 ≡ 0;
}
