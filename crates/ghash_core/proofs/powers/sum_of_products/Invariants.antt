use Rattle.std.proofs.Common.{◌≡◌, ◌≤◌, ◌+◌, ℕ, get_or}
use Rattle.ghash_core.specs.Field.{power}
use Rattle.ghash_core.specs.Rows.{wide, ArePowers, sum_of_four, sum_of_rows}
use Rattle.ghash_core.proofs.powers.sum_of_products.Given as goal

abbrev pub invariant-loop-j : goal.invariant-loop-j
invariant-loop-j l = record {
  sum : (h : ℕ) → ArePowers l.powers h → wide l.low l.high
      ≡ sum_of_four (sum_of_rows l.j (power h 4) l.a) (sum_of_rows l.j (power h 3) l.b) (sum_of_rows l.j (power h 2) l.c) (sum_of_rows l.j h l.d);
  empty : (k : ℕ) → l.j ≤ k + 1 → get_or l.high k 0 ≡ 0;
}
