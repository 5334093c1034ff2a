use Rattle.result_lines.proofs.FirstWrongLive.{first_wrong_live}
use Rattle.result_lines.proofs.verdict_laws.the_live_verdict_is_the_first_that_is_wrong.Goals as goal

pub returns : goal.returns
returns c = first_wrong_live
