use Rattle.context_core.proofs.Allowed.{allowed}
use Rattle.context_core.proofs.laws.every_rehearsal_is_allowed.Goals as goal

pub returns : goal.returns
returns c = allowed
