use Rattle.std.proofs.Common.{◌+◌}
use Rattle.radix_pack.specs.Radix.{bytes_in, radix_in}
use Rattle.radix_pack.proofs.Turns.{Counting-none, Counting-more, Counting-all, div_ceil_is}
use Rattle.radix_pack.proofs.parts.radix_left.Goals as goal

pub loop-left-init : goal.loop-left-init
loop-left-init c = (0, Counting-none c.args.limit c.args.radix)

pub loop-left-preserved : goal.loop-left-preserved
loop-left-preserved c =
    let before = c.loop-left.invariant in (
      before.0 + 1,
      rw (c.div_ceil-left.ensures, div_ceil_is c.loop-left.left) (
          Counting-more c.args.limit _ (radix_in 2 c.args.limit c.args.radix) c.loop-left.left before.0 c.requires.two_turns c.loop-left-test.true before.1
          ),
    )

pub returns : goal.returns
returns c =
    let last = c.loop-left.invariant in
    (Counting-all c.args.limit (bytes_in 2 c.args.limit c.args.radix) (radix_in 2 c.args.limit c.args.radix) c.loop-left.left last.0 c.loop-left-test.false last.1).1
