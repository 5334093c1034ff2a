use Rattle.result_lines.proofs.TookLive.{told_live_took}
use Rattle.result_lines.proofs.laws.what_is_read_live_is_the_text.Goals as goal

pub returns : goal.returns
returns c = told_live_took
