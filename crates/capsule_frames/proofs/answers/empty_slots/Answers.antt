use Rattle.std.proofs.Common.{arith}
use Rattle.std.proofs.lemmas.Grind.{common_steps}
use Rattle.capsule_frames.proofs.answers.empty_slots.Goals as goal

pub slots-preserved : goal.slots-preserved
slots-preserved c = grind (arith, common_steps)
