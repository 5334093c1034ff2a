use Rattle.std.proofs.Common.{arith}
use Rattle.std.proofs.lemmas.Grind.{common_steps}
use Rattle.journal_check.proofs.same.are_same.Goals as goal

pub returns-then-values-others : goal.returns-then-values-others
returns-then-values-others g c = grind (arith, common_steps)

pub returns-then-not-is_same : goal.returns-then-not-is_same
returns-then-not-is_same g c = grind (arith, common_steps)

pub values-preserved : goal.values-preserved
values-preserved g c = grind (arith, common_steps)

pub returns : goal.returns
returns g c = grind (arith, common_steps)
