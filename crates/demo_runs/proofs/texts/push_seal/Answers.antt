use Rattle.std.proofs.Common.{arith}
use Rattle.std.proofs.lemmas.Grind.{elements}
use Rattle.demo_runs.proofs.texts.push_seal.Goals as goal

pub returns-then-is_own : goal.returns-then-is_own
returns-then-is_own c = grind (arith, elements)
