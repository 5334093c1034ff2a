use Rattle.std.proofs.Common.{◌≡◌, map, pos, ◌-ℤ◌}
use Rattle.std.specs.List.{range_with_len}
use Rattle.radix_pack.specs.Codings.{bits_at}
use Rattle.radix_pack.proofs.small.small_coefficients.Given as goal

abbrev pub invariant-loop-k : goal.invariant-loop-k
invariant-loop-k l =
    l.coefficients.items ≡ map (λ k. pos (bits_at l.bytes k) -ℤ pos 1) (range_with_len 0 l.k)
