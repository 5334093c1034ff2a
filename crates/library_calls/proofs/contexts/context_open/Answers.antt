use Rattle.std.proofs.Common.{rules}
use Rattle.library_calls.proofs.contexts.context_open.Goals as goal

pub returns-clause-done : goal.returns-clause-done
returns-clause-done c = rw (← c.in-Ok.ensures.key) (search rules)
