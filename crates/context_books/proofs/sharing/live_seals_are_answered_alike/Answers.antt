use Rattle.context_books.proofs.LiveSeals.{live_seals_alike}
use Rattle.context_books.proofs.sharing.live_seals_are_answered_alike.Goals as goal

pub returns : goal.returns
returns c plan replies standing journals others guesses further notes remarks within count alone
    allowed also =
    live_seals_alike plan replies standing within count alone journals others guesses further notes
    remarks allowed also
