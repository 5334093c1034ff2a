use Rattle.context_books.proofs.LiveChecked.{live_history_is_one_list}
use Rattle.context_books.proofs.live_laws.a_live_history_is_one_list.Goals as goal

pub returns : goal.returns
returns c = live_history_is_one_list
