use Rattle.std.proofs.Common.{◌≡◌, ◌<◌, ◌^◌, ℕ, [], get_or, length}
use Rattle.ghash_core.specs.Rows.{row}
use Rattle.ghash_core.proofs.rows.rows_of.Given as goal

abbrev pub invariant-loop-j : goal.invariant-loop-j
invariant-loop-j l = record {
  size : length l.rows ≡ 16;
  done : (k : ℕ) → k < l.j → get_or l.rows k [] ≡ row k (2 ^ 124) l.h;
}
