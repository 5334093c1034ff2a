use Rattle.std.proofs.Common.{◌≡◌, map}
use Rattle.std.specs.List.{range_with_len}
use Rattle.radix_pack.specs.Codings.{four_coefficients}
use Rattle.radix_pack.proofs.small.small_bytes.Given as goal

abbrev pub invariant-loop-i : goal.invariant-loop-i
invariant-loop-i l = l.bytes.items ≡ map (four_coefficients l.coefficients) (range_with_len 0 l.i)
