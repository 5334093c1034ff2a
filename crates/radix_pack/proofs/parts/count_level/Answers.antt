use Rattle.std.proofs.Common.{arith, zero-add}
use Rattle.radix_pack.specs.Radix.{level_count}
use Rattle.radix_pack.proofs.PartSteps.{level_count_two, level_count_end}
use Rattle.radix_pack.proofs.parts.count_level.Goals as goal

pub loop-i-init : goal.loop-i-init
loop-i-init c = zero-add (level_count c.args.radices.now)

pub overflow_add-count : goal.overflow_add-count
overflow_add-count c = omega (arith, level_count_two c.args.radices.now c.loop-i.i (omega arith), c.pair_count-count.ensures.count)

pub loop-i-preserved : goal.loop-i-preserved
loop-i-preserved c = omega (arith, level_count_two c.args.radices.now c.loop-i.i (omega arith), c.pair_count-count.ensures.count)

pub returns : goal.returns
returns c = omega (arith, level_count_end c.args.radices.now c.loop-i.i (omega arith))
