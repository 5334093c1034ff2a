use Rattle.std.proofs.Common.{◌≡◌, true, false}
use Rattle.radix_pack.specs.Codings.{IsMalformed}
use Rattle.radix_pack.proofs.Digits.{AreGoodBelow}
use Rattle.radix_pack.proofs.small.is_malformed.Given as goal

abbrev pub invariant-loop-k : goal.invariant-loop-k
invariant-loop-k l = record {
  some : l.found ≡ true → IsMalformed l.degree l.bytes;
  none : l.found ≡ false → AreGoodBelow l.k l.degree l.bytes;
}
