use Rattle.result_lines.proofs.Took.{told_took}
use Rattle.result_lines.proofs.laws.what_is_read_is_the_text.Goals as goal

pub returns : goal.returns
returns c = told_took
