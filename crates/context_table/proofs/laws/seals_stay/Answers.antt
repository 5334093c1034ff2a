use Rattle.context_table.proofs.SecondReply.{seals_stay_lem, live_seals_stay_lem}
use Rattle.context_table.proofs.laws.seals_stay.Goals as goal

pub returns-clause-run : goal.returns-clause-run
returns-clause-run c = seals_stay_lem

pub returns-clause-live : goal.returns-clause-live
returns-clause-live c = live_seals_stay_lem
