use Rattle.std.proofs.Common.{arith}
use Rattle.std.proofs.lemmas.Grind.{common_steps}
use Rattle.std.proofs.lemmas.Option.{slice_get_cases}
use Rattle.capsule_frames.proofs.finding.left_by.Goals as goal

pub returns-in-Some-Ok : goal.returns-in-Some-Ok
returns-in-Some-Ok g c = let cases = slice_get_cases c.args.results.now c.args.number in grind (arith, common_steps)

pub returns-in_default : goal.returns-in_default
returns-in_default g c = let cases = slice_get_cases c.args.results.now c.args.number in grind (arith, common_steps)
