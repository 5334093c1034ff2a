use Rattle.context_table.proofs.OneSetUp.{one_key_set_up_lem}
use Rattle.context_table.proofs.laws.one_key_set_up.Goals as goal

pub returns : goal.returns
returns c = one_key_set_up_lem
