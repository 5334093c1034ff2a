use Rattle.result_lines.proofs.Gave.{told_back}
use Rattle.result_lines.proofs.laws.what_is_printed_is_read_back.Goals as goal

pub returns : goal.returns
returns c = told_back
