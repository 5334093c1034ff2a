use Rattle.std.proofs.Common.{arith}
use Rattle.std.proofs.lemmas.Grind.{common_steps}
use Rattle.request_frames.proofs.names.name_field.Goals as goal

pub returns-in_err-read_number : goal.returns-in_err-read_number
returns-in_err-read_number c = grind (arith, common_steps)

pub returns : goal.returns
returns c = grind (arith, common_steps)
