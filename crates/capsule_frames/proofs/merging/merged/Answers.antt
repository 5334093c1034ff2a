use Rattle.std.proofs.Common.{arith, drop, ◌+◌}
use Rattle.std.proofs.lemmas.Grind.{common_steps}
use Rattle.capsule_frames.proofs.merging.merged.Goals as goal

pub lines-preserved : goal.lines-preserved
lines-preserved c = let e = c.next_reply.ensures (drop (c.lines.line-index + 1) c.args.lines.now) in grind (arith, common_steps)

pub returns-in-None : goal.returns-in-None
returns-in-None c =
    let e = c.next_reply.ensures (drop (c.lines.line-index + 1) c.args.lines.now) in grind (arith, common_steps)

pub returns : goal.returns
returns c = grind (arith, common_steps)
