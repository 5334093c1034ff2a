use Rattle.std.proofs.Common.{arith}
use Rattle.poly1305.specs.Poly1305.{clamped}
use Rattle.poly1305.proofs.Arithmetic.{clamped_low, clamped_high, clamped_four}
use Rattle.poly1305.proofs.limbs.clamped.Goals as goal

pub returns-clause-clamped : goal.returns-clause-clamped
returns-clause-clamped c =
    let n = c.args.number in
    let low = clamped_low n in
    let high = clamped_high n in
    let four = clamped_four n in
    record {
      low = omega (arith, low, c.low.ensures);
      high = omega (arith, high, c.high-high.ensures);
      folded = omega (arith, four, c.high-high.ensures);
    }

pub returns-clause-value : goal.returns-clause-value
unfolding clamped
returns-clause-value c = omega (arith, c.low.ensures, c.high-high.ensures)
