use Rattle.std.proofs.Common.{◌≡◌, ◌<◌, ◌*◌, ◌^◌, ℕ, get_or, length}
use Rattle.ghash_core.specs.Field.{product}
use Rattle.ghash_core.proofs.rows.products_of.Given as goal

abbrev pub invariant-loop-i : goal.invariant-loop-i
invariant-loop-i l = record {
  size : length l.products ≡ 16;
  done : (k : ℕ) → k < l.i → get_or l.products k 0 ≡ product (k * 2 ^ 124) l.h;
}
