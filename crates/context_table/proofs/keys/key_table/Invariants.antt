use Rattle.context_table.proofs.KeyTables.{KeysSoFar}
use Rattle.context_table.proofs.keys.key_table.Given as goal

abbrev pub invariant-keys : goal.invariant-keys
invariant-keys g l = KeysSoFar l.plan l.number l.replies.items l.slots.items
