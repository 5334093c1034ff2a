use Rattle.context_books.proofs.Numbers.{all_used}
use Rattle.context_books.proofs.journals.each_number_is_used_once.Goals as goal

pub returns : goal.returns
returns c = all_used
