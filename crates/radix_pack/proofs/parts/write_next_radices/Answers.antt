use Rattle.std.proofs.Common.{◌≡◌, ◌/◌, ◌∙◌, arith, length, sym}
use Rattle.radix_pack.specs.Radix.{pair_radix}
use Rattle.radix_pack.proofs.PartSteps.{next_radices_more, next_radices_even, next_radices_odd}
use Rattle.radix_pack.proofs.parts.write_next_radices.Goals as goal

pub loop-i-preserved : goal.loop-i-preserved
unfolding pair_radix
loop-i-preserved c =
    rw (c.radix_left.ensures, c.from.ensures, c.from-in-loop-i.ensures) (
    sym (next_radices_more c.loop-i.next c.args.radices.now c.loop-i.i (omega arith) (omega arith)) ∙ c.loop-i.invariant
    )

pub returns-then-radices-eq1 : goal.returns-then-radices-eq1
returns-then-radices-eq1 c =
    let half : length c.args.radices.now / 2 ≡ c.loop-i.i = omega arith in
    rw half (sym (next_radices_odd c.loop-i.next c.args.radices.now c.loop-i.i (omega arith) (omega arith)) ∙ c.loop-i.invariant)

pub returns-else-radices-eq1 : goal.returns-else-radices-eq1
returns-else-radices-eq1 c =
    sym (next_radices_even c.loop-i.next c.args.radices.now c.loop-i.i (omega arith) (omega arith)) ∙ c.loop-i.invariant
