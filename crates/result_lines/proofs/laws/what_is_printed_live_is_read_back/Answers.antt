use Rattle.result_lines.proofs.BackLive.{live_back}
use Rattle.result_lines.proofs.laws.what_is_printed_live_is_read_back.Goals as goal

pub returns : goal.returns
returns c = live_back
