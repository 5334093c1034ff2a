use Rattle.std.proofs.Common.{arith, ◌∙◌, sym}
use Rattle.radix_pack.proofs.LevelSteps.{with_radices_more, with_radices_all}
use Rattle.radix_pack.proofs.radix.digits_of.Goals as goal

pub loop-i-preserved : goal.loop-i-preserved
loop-i-preserved c =
    rw c.in_ok-push.ensures.items (
    with_radices_more c.loop-i.digits.items c.args.values.now c.args.radices.now c.loop-i.i _ (omega arith) (omega arith) c.from.ensures c.from-in-loop-i.ensures
    ∙ c.loop-i.invariant
    )

pub returns : goal.returns
returns c =
    sym (with_radices_all c.loop-i.digits.items c.args.values.now c.args.radices.now c.loop-i.i (omega arith)) ∙ c.loop-i.invariant
