use Rattle.std.proofs.Common.{◌++◌}
use Rattle.radix_pack.specs.Radix.{bytes_in, radix_in, low_bytes, above_bytes}
use Rattle.radix_pack.proofs.Turns.{Writing-none, Writing-more, div_ceil_is}
use Rattle.radix_pack.proofs.levels.write_low_bytes.Goals as goal

pub loop-left-init : goal.loop-left-init
loop-left-init c = Writing-none c.args.limit c.args.digit.value c.args.digit.radix c.args.out.now.items

pub loop-left-preserved : goal.loop-left-preserved
loop-left-preserved c =
    let digit = c.args.digit in
    let count = bytes_in 2 c.args.limit digit.radix in
    rw (c.in_ok-push.ensures.items, c.div_ceil.ensures, div_ceil_is c.loop-left.left.radix) (
    Writing-more c.args.limit (c.args.out.now.items ++ low_bytes count digit.value) (above_bytes count digit.value) (radix_in 2 c.args.limit digit.radix) c.loop-left.left.value c.loop-left.left.radix c.loop-left.out.items c.requires.two_turns c.loop-left-test.true c.loop-left.invariant
    )
