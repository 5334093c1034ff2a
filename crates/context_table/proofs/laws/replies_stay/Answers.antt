use Rattle.context_table.proofs.SecondReply.{replies_stay_lem}
use Rattle.context_table.proofs.laws.replies_stay.Goals as goal

pub returns : goal.returns
returns c = replies_stay_lem
