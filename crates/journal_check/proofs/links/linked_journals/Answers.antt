use Rattle.std.proofs.Common.{arith}
use Rattle.std.proofs.lemmas.Grind.{common_steps}
use Rattle.journal_check.proofs.links.linked_journals.Goals as goal

pub journals-preserved : goal.journals-preserved
journals-preserved c = grind (arith, common_steps)
