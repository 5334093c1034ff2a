use Rattle.context_books.proofs.OneLanePlaces.{same_batch, same_journal}
use Rattle.context_books.proofs.sharing.one_lane_alone_has_one_journal.Goals as goal

pub returns : goal.returns
returns c batch context journal other one =
    same_journal batch batch context (same_batch batch context) one journal other
