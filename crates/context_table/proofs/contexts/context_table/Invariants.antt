use Rattle.context_table.proofs.ContextTables.{ContextsSoFar}
use Rattle.context_table.proofs.contexts.context_table.Given as goal

abbrev pub invariant-contexts : goal.invariant-contexts
invariant-contexts g l = ContextsSoFar l.plan l.keys.replies l.line-index l.replies.items
    l.slots.items
