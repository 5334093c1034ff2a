use Rattle.std.proofs.Common.{◌≡◌, pos, arith}
use Rattle.std.specs.Prelude.{◌+ℤ◌, ◌-ℤ◌}
use Rattle.std.specs.Int.{w32}
use Rattle.std.specs.Int.RustNames.{FitsSigned, int_div}
use Rattle.std.proofs.lemmas.Int.{ints, to_z-of_z, fits_signed_from_abs}
use Rattle.ring_core.proofs.Reduce.{back}
use Rattle.ring_lanes.proofs.Sums.{second_is}
use Rattle.ring_lanes.proofs.pairs.second_sum.Goals as goal

pub returns-clause-sum : goal.returns-clause-sum
returns-clause-sum c =
    let z = back c.args.number +ℤ pos 8389632 in
    let fits : FitsSigned w32 z = fits_signed_from_abs w32 z (omega (arith, ints)) in
    λ first second small e.
    let is : int_div z (pos 2048) -ℤ pos 4096 ≡ second = second_is z first second small (omega (arith, ints, e)) (omega (arith, ints)) in
    rw (to_z-of_z w32 z fits) (omega (arith, ints, is))
