use Rattle.std.proofs.Common.{arith}
use Rattle.std.proofs.lemmas.Grind.{common_steps}
use Rattle.request_frames.proofs.messages.message_field.Goals as goal

pub returns-in_err-number-clause-read : goal.returns-in_err-number-clause-read
returns-in_err-number-clause-read c = grind (arith, common_steps)

pub returns-then-is_reference-clause-read : goal.returns-then-is_reference-clause-read
returns-then-is_reference-clause-read c = grind (arith, common_steps)
