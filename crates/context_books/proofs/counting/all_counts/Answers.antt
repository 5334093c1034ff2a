use Rattle.std.proofs.Common.{arith}
use Rattle.std.proofs.lemmas.Grind.{common_steps}
use Rattle.context_books.proofs.counting.all_counts.Goals as goal

pub lanes-preserved : goal.lanes-preserved
lanes-preserved c = grind (arith, common_steps)

pub returns : goal.returns
returns c = grind (arith, common_steps)
