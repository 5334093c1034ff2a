use Rattle.std.proofs.Common.{arith}
use Rattle.std.proofs.lemmas.Grind.{common_steps}
use Rattle.capsule_frames.proofs.answers.Gateway.alone.Goals as goal

pub jobs-preserved : goal.jobs-preserved
jobs-preserved g c = grind (arith, common_steps)
