use Rattle.std.proofs.Common.{arith}
use Rattle.radix_pack.specs.Radix.{bytes_in, radix_in}
use Rattle.radix_pack.proofs.Turns.{Counting-none, Counting-more, Counting-all, Counting-most, div_ceil_is}
use Rattle.radix_pack.proofs.parts.bytes_above.Goals as goal

pub loop-left-init : goal.loop-left-init
loop-left-init c = Counting-none c.args.limit c.args.radix

pub loop-left-preserved : goal.loop-left-preserved
loop-left-preserved c =
    rw (c.div_ceil-left.ensures, div_ceil_is c.loop-left.left) (
    Counting-more c.args.limit _ (radix_in 2 c.args.limit c.args.radix) c.loop-left.left c.loop-left.count c.requires.two_turns c.loop-left-test.true c.loop-left.invariant
    )

pub overflow_add-count : goal.overflow_add-count
overflow_add-count c =
    omega (arith, Counting-most c.args.limit (radix_in 2 c.args.limit c.args.radix) c.loop-left.left c.args.radix c.loop-left.count c.loop-left.invariant)

pub returns : goal.returns
returns c =
    (Counting-all c.args.limit (bytes_in 2 c.args.limit c.args.radix) (radix_in 2 c.args.limit c.args.radix) c.loop-left.left c.loop-left.count c.loop-left-test.false c.loop-left.invariant).0
