use Rattle.reply_frames.proofs.Chains.{◌⨾◌}
use Rattle.reply_frames.proofs.printing.put_lane.Goals as goal

pub returns-then-given : goal.returns-then-given
returns-then-given g c = rw c.if-given.true (c.put_numbered.ensures ⨾ c.put_given_calls.ensures)

pub returns-else-given : goal.returns-else-given
returns-else-given g c = rw c.if-given.false (c.put_numbered.ensures ⨾ c.put_calls.ensures)
