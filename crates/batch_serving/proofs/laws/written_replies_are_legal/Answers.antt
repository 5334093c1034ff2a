use Rattle.batch_serving.proofs.Replied.{live_is_legal, written_is_legal}
use Rattle.batch_serving.proofs.laws.written_replies_are_legal.Goals as goal

pub returns-clause-run : goal.returns-clause-run
returns-clause-run c = written_is_legal

pub returns-clause-live : goal.returns-clause-live
returns-clause-live c = live_is_legal
