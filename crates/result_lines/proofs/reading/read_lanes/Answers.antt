use Rattle.std.proofs.Common.{arith}
use Rattle.std.proofs.lemmas.Grind.{common_steps}
use Rattle.result_lines.proofs.reading.read_lanes.Goals as goal

pub lanes-preserved : goal.lanes-preserved
lanes-preserved c = grind (arith, common_steps)

pub returns : goal.returns
returns c = grind (arith, common_steps)

pub returns-in_err-lane : goal.returns-in_err-lane
returns-in_err-lane c = grind (arith, common_steps)
