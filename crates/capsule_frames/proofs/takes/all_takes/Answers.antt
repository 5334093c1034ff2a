use Rattle.std.proofs.Common.{arith}
use Rattle.std.proofs.lemmas.Grind.{common_steps}
use Rattle.capsule_frames.proofs.takes.all_takes.Goals as goal

pub lines-preserved : goal.lines-preserved
lines-preserved c = grind (arith, common_steps)
