use Rattle.lane_workers.proofs.Gathering.{one_history, legal_journal}
use Rattle.lane_workers.proofs.showing_laws.shown_lanes_have_legal_journals.Goals as goal

pub returns-clause-history : goal.returns-clause-history
returns-clause-history c = one_history

pub returns-clause-alone : goal.returns-clause-alone
returns-clause-alone c = legal_journal
